-- What a refusal says of the balance.
use Rattle.std.proofs.Common.{◌≡◌, ℕ, ◌≤◌, List, length, ℤ, pos, Ok, Err, IfErr, Result, Vec, sym, refl}
use Rattle.std.specs.declared.alloc.Global.{Global}
use Rattle.std.specs.Result.{IsErrAnd}
use Rattle.money.specs.declared.priced.PricedTime.{PricedTime}
use Rattle.commands.specs.declared.ledger.Entry.{Entry}
use Rattle.commands.specs.declared.ledger.Posting.TheVariants.{Charge}
use Rattle.commands.specs.declared.ledger.Refusal.{Refusal}
use Rattle.commands.specs.declared.ledger.Refusal.TheVariants.{Memory, OutOfRange}
use Rattle.commands.specs.Ledger.{worths, all_out, Beyond, Answers}
use Rattle.commands.proofs.Balances.{few_within}

-- what holds anyway holds of a refusal
pub refused_for : {T P : Type 0} (r : Result T Refusal) → P → IfErr r (λ e. e ≡ OutOfRange → P)
refused_for (Ok x) p = tt
refused_for (Err e) p = λ _. p

-- an answer that passes a refusal on
pub passed_on : (r : Result (Vec Entry Global) Refusal) (e : Refusal) (b : ℤ) (ns : List ℕ) → IsErrAnd r (λ y. y ≡ e) → (e ≡ OutOfRange → Beyond Charge (all_out b ns)) → Answers r b ns
passed_on (Ok ledger) e b ns i h = absurd i
passed_on (Err Memory) e b ns i h = tt
passed_on (Err OutOfRange) e b ns i h = h (sym i)

-- in 32 periods or fewer, a refusal is for memory
pub memory_short : {T : Type 0} (r : Result T Refusal) (ts : List PricedTime) → length ts ≤ 32 → IfErr r (λ e. e ≡ OutOfRange → Beyond Charge (all_out (pos 0) (worths ts))) → IfErr r (λ e. e ≡ Memory)
memory_short (Ok x) ts few h = tt
memory_short (Err Memory) ts few h = refl
memory_short (Err OutOfRange) ts few h = absurd (few_within ts few (h refl))
