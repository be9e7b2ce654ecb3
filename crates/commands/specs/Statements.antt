-- A statement whose account closed.
use Rattle.std.specs.Prelude.{◌≡◌, ℕ, List, pos, vec_items}
use Rattle.money.specs.Range.{whole, in_kths}
use Rattle.commands.specs.declared.minute.Statement.{Statement}
use Rattle.commands.specs.Ledger.{out_and_back}

-- the statement of worths ns charged out from zero and handed back, at the scale k: its balance and its whole are zero
pub record Closed (k : ℕ) (ns : List ℕ) (s : Statement) : Type 0 where
  pub scale : s.scale.number ≡ k
  pub ledger : vec_items s.ledger ≡ out_and_back (pos 0) ns
  pub balance : s.balance ≡ in_kths (pos 0)
  pub whole : s.whole ≡ whole (pos 0)
