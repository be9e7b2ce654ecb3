-- Sums of demands.
use Rattle.std.specs.Prelude.{◌≡◌, ℕ, ◌+◌, ◌*◌, ◌≤◌, true, List, [], ◌∷◌, length, nat_le}
use Rattle.std.proofs.Common.{mul-le-mul_right, arith}
use Rattle.std.proofs.lemmas.Bool.{and_parts, leb-true}
use Rattle.item.specs.declared.records.Row.{Row}
use Rattle.item.specs.Laws.{lawful_rows}
use Rattle.item.specs.Limits.{most_rows, most_demand, most_amount, demands_within}

-- all demands of these rows
abbrev pub demands : List Row → ℕ
demands [] = 0
demands (r ∷ rs) = r.demand + demands rs

demands_most : (rs : List Row) → demands_within rs ≡ true → demands rs ≤ length rs * most_demand
demands_most [] h = omega arith
demands_most (r ∷ rs) h =
    let p = and_parts (nat_le r.demand most_demand) (demands_within rs) h in
    omega (arith, leb-true _ _ p.0, demands_most rs p.1)

-- they fit one lot
pub demands_fit : (rs : List Row) → lawful_rows rs ≡ true → demands rs ≤ most_amount
demands_fit rs h =
    let p = and_parts (nat_le (length rs) most_rows) (demands_within rs) h in
    omega (arith, demands_most rs p.1, mul-le-mul_right most_demand (leb-true _ _ p.0))
