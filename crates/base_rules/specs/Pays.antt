-- The arithmetic of one row: what a unit is worth before it and after it.
use Rattle.std.specs.Prelude.{◌≡◌, ℕ, ◌+◌, ◌-◌, ◌*◌, ◌<◌, ◌≤◌, ◌⊎◌}
use Rattle.std.proofs.Common.{ap, ◌∙◌, ⊎_elim, mul-add, mul-le-mul_left, mul-le-mul_right, arith}
use Rattle.std.proofs.lemmas.Bool.{cases_lt}

parts : (v x d : ℕ) → d ≤ x → v * x ≡ v * d + v * (x - d)
parts v x d h = let e : x ≡ d + (x - d) = omega arith in ap (λ n. v * n) e ∙ mul-add v d (x - d)

pay_over : (h q x d v w : ℕ) → w ≤ v + h → d ≤ x → v * d + w * x ≤ h * (x - d) + q * (d - x) + v * x + w * d
pay_over h q x d v w up o = omega (arith, parts v x d o, parts w x d o, mul-le-mul_right (x - d) up)

pay_under : (h q x d v w : ℕ) → v ≤ w + q → x ≤ d → v * d + w * x ≤ h * (x - d) + q * (d - x) + v * x + w * d
pay_under h q x d v w down o = omega (arith, parts v d x o, parts w d x o, mul-le-mul_right (d - x) down)

-- v is a unit's worth at the start of the row and w after it; value is what the rows after it come to
pub row_pays : (s u a h q x d n v w rest value : ℕ) → value + (d + n) * w ≤ rest + (x + a) * w → w ≤ v + h → (d + n ≤ x + a) ⊎ (v ≤ w + q) → v * a ≤ u * a → s + v * n + value + d * v ≤ s + u * a + h * (x + a - (d + n)) + q * (d + n - (x + a)) + rest + x * v
row_pays s u a h q x d n v w rest value ih up way made =
    let step : v * (d + n) + w * (x + a) ≤ h * (x + a - (d + n)) + q * (d + n - (x + a)) + v * (x + a) + w * (d + n) =
    ⊎_elim
    (λ o. pay_over h q (x + a) (d + n) v w up o)
    (λ down. ⊎_elim (λ o. pay_under h q (x + a) (d + n) v w down (omega arith)) (λ o. pay_over h q (x + a) (d + n) v w up o) (cases_lt (x + a) (d + n)))
    way in
    omega arith

-- where something is left over or owed, a setup's whole cost as the price of each unit pays for one lot
pub whole_lot : (s u v d x n o : ℕ) → d + o ≤ x → d < x + n → s + u * (n + o) + v + d * (s + u + v) ≤ (x + n) * (s + u + v)
whole_lot s u v d x n o h k =
    let j = x + n - d in
    let one : 1 ≤ j = omega arith in
    let most : n + o ≤ j = omega arith in
    omega (arith, parts (s + u + v) (x + n) d (omega arith), mul-le-mul_left (s + v) one, mul-le-mul_left u most)
