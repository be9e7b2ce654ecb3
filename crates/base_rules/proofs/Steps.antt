-- Sums from one row to another.
use Rattle.std.proofs.Common.{◌≡◌, ℕ, suc, ◌+◌, ◌-◌, ◌*◌, ◌<◌, ◌≤◌, List, [], ◌∷◌, length, take, sum_by, subst, mul-le-mul_right, mul-le-mul, arith}
use Rattle.std.proofs.lemmas.List.{take-take}
use Rattle.std.proofs.lemmas.List.Sums.{sum_by_more, sum_by-take-le, sum_by-cons}
use Rattle.item.specs.declared.records.Row.{Row}
use Rattle.base_rules.specs.declared.problem.Problem.{Problem}
use Rattle.base_rules.specs.Programme.{blank, row_at, due, holding, aged}
use Rattle.base_rules.specs.Told.{Told, told}

pub told_in : (p : Problem) → Told p.rows.now
told_in p = told p.rows.now p.few p.within

sum_up : (f : Row → ℕ) (rs : List Row) (a t : ℕ) → a ≤ t → sum_by f (take a rs) ≤ sum_by f (take t rs)
sum_up f rs a t h = subst (λ l. sum_by f l ≤ sum_by f (take t rs)) (take-take a t rs h) (sum_by-take-le f (take t rs) a)

sum_cap : (f : Row → ℕ) (m : ℕ) (rs : List Row) → ((k : ℕ) → k < length rs → f (row_at rs k) ≤ m) → sum_by f rs ≤ length rs * m
sum_cap f m [] h = omega arith
sum_cap f m (r ∷ rs) h = let c = sum_by-cons f r rs in let ih = sum_cap f m rs (λ k l. h (suc k) (omega arith)) in let i = h 0 (omega arith) in omega arith

-- one row further on
pub due_next : (rs : List Row) (a t : ℕ) → t < length rs → a ≤ t → due rs a (t + 1) ≡ due rs a t + (row_at rs t).demand
due_next rs a t i h =
    let f : Row → ℕ = λ r. r.demand in
    omega (arith, sum_by_more f rs t blank i, sum_up f rs a t h)

pub aged_next : (rs : List Row) (s t : ℕ) → t < length rs → s ≤ t → aged rs s (t + 1) ≡ aged rs s t + (row_at rs t).hold
aged_next rs s t i h =
    let f : Row → ℕ = λ r. r.hold in
    omega (arith, sum_by_more f rs t blank i, sum_up f rs s t h)

pub aged_first : (rs : List Row) (t : ℕ) → t < length rs → aged rs t (t + 1) ≡ (row_at rs t).unit + (row_at rs t).hold
aged_first rs t i =
    let f : Row → ℕ = λ r. r.hold in
    omega (arith, sum_by_more f rs t blank i)

pub due_cap : (p : Problem) (a t : ℕ) → due p.rows.now a t ≤ 3200000
due_cap p a t =
    let rs = p.rows.now in
    let f : Row → ℕ = λ r. r.demand in
    omega (arith, sum_by-take-le f rs t, sum_cap f 100000 rs (λ k lt. ((told_in p).1 k lt).demand), mul-le-mul_right 100000 p.few)

pub holding_cap : (p : Problem) (s t : ℕ) → holding p.rows.now s t ≤ 3200000000
holding_cap p s t =
    let rs = p.rows.now in
    let f : Row → ℕ = λ r. r.hold in
    omega (arith, sum_by-take-le f rs t, sum_cap f 100000000 rs (λ k lt. ((told_in p).1 k lt).hold), mul-le-mul_right 100000000 p.few)

-- n is the sum of f over rows k up to t
pub record Summed (f : Row → ℕ) (p : Problem) (k t n : ℕ) : Type 0 where
  pub is : n ≡ sum_by f (take t p.rows.now) - sum_by f (take k p.rows.now)

-- one row further back
pub one_back : (f : Row → ℕ) (p : Problem) {k t n : ℕ} → Summed f p k t n → 0 < k → k ≤ t → k ≤ length p.rows.now → Summed f p (k - 1) t (n + f (row_at p.rows.now (k - 1)))
one_back f p {k} {t} {n} s some le i =
    let back : k - 1 + 1 ≡ k = omega arith in
    let more = rw back at (sum_by_more f p.rows.now (k - 1) blank (omega arith)) in
    let up = sum_up f p.rows.now k t le in
    record { is = omega (arith, s.is) }

pub keep_cap : (p : Problem) (s t n : ℕ) → s < length p.rows.now → t < length p.rows.now → n ≤ 3200000000 → ((row_at p.rows.now s).unit + n) * (row_at p.rows.now t).demand ≤ 340000000000000
keep_cap p s t n i j le =
    let u = ((told_in p).1 s i).unit in
    let q : (row_at p.rows.now s).unit + n ≤ 3400000000 = omega arith in
    omega (arith, mul-le-mul q ((told_in p).1 t j).demand)
