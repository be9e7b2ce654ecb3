use Rattle.std.proofs.Common.{◌≡◌, true, Bool, false, cond, ◌&&◌, ltb, ◌++◌, [], ◌∷◌, length, refl, sym, subst}
use Rattle.item.specs.declared.records.Row.{Row}
use Rattle.item.specs.Calls.{held_after_tell}
use Rattle.item.specs.Limits.{most_rows, row_within}
use Rattle.item.specs.Meanings.{Held, unopened, opened}
use Rattle.item.specs.Tables.{held_in}
use Rattle.base_rules.specs.Verdicts.{holds_base_header}
use Rattle.base_rules.proofs.rules.BaseRuleItemRule.tell.Goals as goal

-- telling a row leaves the header
known_after : (r : Row) (held : Held) → holds_base_header held ≡ true → holds_base_header (held_after_tell r held) ≡ true
known_after r unopened known = refl
known_after r (opened h rows) known = go (row_within r && ltb (length rows) most_rows)
  where
    go : (b : Bool) → holds_base_header (cond b (opened h (rows ++ (r ∷ []))) (opened h rows)) ≡ true
    go true = known
    go false = known

pub invariant_of-self : goal.invariant_of-self
invariant_of-self c = record { known = subst (λ h. holds_base_header h ≡ true) (sym c.tell.ensures.holds) (known_after c.args.row (held_in c.args.self.now.table) c.args.self.now.known) }
