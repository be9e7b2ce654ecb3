use Rattle.std.proofs.Common.{◌≡◌, true, List, [], ◌∷◌, ◌++◌, rules}
use Rattle.std.proofs.lemmas.Bool.{and_parts, and_from}
use Rattle.item.specs.declared.records.Row.{Row}
use Rattle.item.specs.Limits.{row_within, rows_within}
use Rattle.item.proofs.tables.Opened.tell.Goals as goal

within_more : (rows : List Row) (r : Row) → rows_within rows ≡ true → row_within r ≡ true → rows_within (rows ++ (r ∷ [])) ≡ true
within_more [] r h k = rw k
within_more (x ∷ xs) r h k =
    let p = and_parts (row_within x) (rows_within xs) h in
    and_from (row_within x) (rows_within (xs ++ (r ∷ []))) p.0 (within_more xs r p.1 k)

pub invariant_of-self : goal.invariant_of-self
invariant_of-self c = search (rules, within_more)
