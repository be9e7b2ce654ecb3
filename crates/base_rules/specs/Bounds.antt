-- No admitted plan goes below the programme.
use Rattle.std.specs.Prelude.{◌≡◌, ℕ, zero, suc, ◌+◌, ◌*◌, ◌<◌, ◌≤◌, min, Bool, true, false, cond, ◌⊎◌, List, [], ◌∷◌, Ok, refl}
use Rattle.std.proofs.Common.{ap, inl, inr, ⊎_elim, mul-le-mul_right, arith}
use Rattle.std.proofs.lemmas.Bool.{cases_lt, cases_Bool, both_ways}
use Rattle.item.specs.declared.records.Lot.{Lot}
use Rattle.item.specs.declared.records.Row.{Row}
use Rattle.base_rules.specs.declared.kinds.Kind.{Kind}
use Rattle.base_rules.specs.Verdicts.{may_owe, verdict_from}
use Rattle.base_rules.specs.Programme.{block, hand, owed}
use Rattle.base_rules.specs.Fitting.{Fits}
use Rattle.base_rules.specs.Turns.{turn}
use Rattle.base_rules.specs.Pays.{row_pays, whole_lot}

pub block_make : (b : Bool) (q n make wait : ℕ) → block b q n make wait ≤ make
block_make true q n make wait = omega arith
block_make false q zero make wait = omega arith
block_make false q (suc n) make wait = omega arith

block_wait : (b : Bool) (q n make wait : ℕ) → b ≡ true → block b q n make wait ≤ q * n + wait
block_wait true q n make wait e = omega arith
block_wait false q n make wait e = let z : ◌≡◌ {A = ℕ} 0 1 = cc in absurd (omega arith)

block_none : (b : Bool) (q n make wait : ℕ) → n ≡ 0 → block b q n make wait ≤ wait
block_none true q n make wait e = rw e (omega arith)
block_none false q zero make wait e = omega arith
block_none false q (suc n) make wait e = absurd (omega arith)

module _ (kind : Kind) where
  -- φ: the price at which the plan can make good a unit owed now
  pub record Bound (rs : List Row) (ls : List Lot) : Type 0 where
    pub φ : ℕ
    pub owing : (t x d n c : ℕ) → verdict_from kind t x d rs ls ≡ Ok c → owed kind n rs + d * φ ≤ c + (x + n) * φ
    pub under : (p t x d c : ℕ) → p ≤ φ → verdict_from kind t x d rs ls ≡ Ok c → hand kind p rs + d * p ≤ c + x * p

  hand_owed : (p : ℕ) (rs : List Row) → hand kind p rs ≤ owed kind 0 rs
  hand_owed p [] = omega arith
  hand_owed p (r ∷ rs) = omega arith

  any : (rs : List Row) (ls : List Lot) (b : Bound rs ls) (p t x d c : ℕ) → verdict_from kind t x d rs ls ≡ Ok c → hand kind p rs + d * min p b.φ ≤ c + x * min p b.φ
  any rs ls b p t x d c e =
      ⊎_elim
      (λ (low : b.φ < p). let i : min p b.φ ≡ b.φ = omega arith in rw i (omega (arith, hand_owed p rs, b.owing t x d 0 c e)))
      (λ high. let i : min p b.φ ≡ p = omega arith in rw i (b.under p t x d c high e))
      (cases_lt b.φ p)

  module _ (r : Row) (rs : List Row) (l : Lot) (ls : List Lot) (b : Bound rs ls) where
    -- p is no more than the plan's price of a unit owed
    hand_step : (φ p t x d c : ℕ) → (l.setup ≡ true → φ ≤ r.unit) → (may_owe kind rs ≡ true → φ ≤ r.short + b.φ) → p ≤ φ → verdict_from kind t x d (r ∷ rs) (l ∷ ls) ≡ Ok c → hand kind p (r ∷ rs) + d * p ≤ c + x * p
    hand_step φ p t x d c lot wait le e =
        let k = turn kind t x d c r rs l ls e in
        let s = cond l.setup r.setup 0 in
        let w = min (p + r.hold) b.φ in
        let ih = any rs ls b (p + r.hold) (t + 1) (x + l.amount) (d + r.demand) k.rest k.next in
        let way : (d + r.demand ≤ x + l.amount) ⊎ (p ≤ w + r.short) =
        ⊎_elim (λ y. let z = wait y in inr (omega arith)) (λ n. inl (k.stocked n)) (cases_Bool (may_owe kind rs)) in
        let dear : p * l.amount ≤ r.unit * l.amount =
        ⊎_elim (λ y. let z = lot y in mul-le-mul_right l.amount (omega arith)) (λ n. let z = k.idle n in rw z (omega arith)) (cases_Bool l.setup) in
        let g = row_pays s r.unit l.amount r.hold r.short x d r.demand p w k.rest _ ih (omega arith) way dear in
        omega (arith, k.sum)

    owing_make : (t x d n c : ℕ) → l.setup ≡ true → (may_owe kind rs ≡ true → r.unit ≤ r.short + b.φ) → verdict_from kind t x d (r ∷ rs) (l ∷ ls) ≡ Ok c → owed kind n (r ∷ rs) + d * r.unit ≤ c + (x + n) * r.unit
    owing_make t x d n c made wait e =
        let k = turn kind t x d c r rs l ls e in
        let s = cond l.setup r.setup 0 in
        let paid : s ≡ r.setup = rw made refl in
        let w = min (r.unit + r.hold) b.φ in
        let ih = any rs ls b (r.unit + r.hold) (t + 1) (x + l.amount) (d + r.demand) k.rest k.next in
        let way : (d + r.demand ≤ x + l.amount) ⊎ (r.unit ≤ w + r.short) =
        ⊎_elim (λ y. let z = wait y in inr (omega arith)) (λ n. inl (k.stocked n)) (cases_Bool (may_owe kind rs)) in
        let g = row_pays s r.unit l.amount r.hold r.short x d r.demand r.unit w k.rest _ ih (omega arith) way (omega arith) in
        let m = block_make (may_owe kind rs) r.short (n + r.demand) (r.setup + r.unit * (n + r.demand) + hand kind (r.unit + r.hold) rs) (owed kind (n + r.demand) rs) in
        omega (arith, k.sum)

    owing_wait : (t x d n c : ℕ) → may_owe kind rs ≡ true → (l.setup ≡ true → r.short + b.φ ≤ r.unit) → verdict_from kind t x d (r ∷ rs) (l ∷ ls) ≡ Ok c → owed kind n (r ∷ rs) + d * (r.short + b.φ) ≤ c + (x + n) * (r.short + b.φ)
    owing_wait t x d n c may lot e =
        let k = turn kind t x d c r rs l ls e in
        let s = cond l.setup r.setup 0 in
        let v = r.short + b.φ in
        let ih = b.owing (t + 1) (x + l.amount) (d + r.demand) (n + r.demand) k.rest k.next in
        let dear : v * l.amount ≤ r.unit * l.amount =
        ⊎_elim (λ y. mul-le-mul_right l.amount (lot y)) (λ n. let z = k.idle n in rw z (omega arith)) (cases_Bool l.setup) in
        let g = row_pays s r.unit l.amount r.hold r.short x d r.demand v b.φ (k.rest + (n + r.demand) * b.φ) (owed kind (n + r.demand) rs) (omega arith) (omega arith) (inr (omega arith)) dear in
        let m = block_wait (may_owe kind rs) r.short (n + r.demand) (r.setup + r.unit * (n + r.demand) + hand kind (r.unit + r.hold) rs) (owed kind (n + r.demand) rs) may in
        omega (arith, k.sum)

    -- no lot and no debt: a unit owed would want a setup of its own
    owing_idle : (t x d n c : ℕ) → l.setup ≡ false → may_owe kind rs ≡ false → verdict_from kind t x d (r ∷ rs) (l ∷ ls) ≡ Ok c → owed kind n (r ∷ rs) + d * (r.setup + r.unit + hand kind (r.unit + r.hold) rs) ≤ c + (x + n) * (r.setup + r.unit + hand kind (r.unit + r.hold) rs)
    owing_idle t x d n c idle shut e =
        let k = turn kind t x d c r rs l ls e in
        let none = k.idle idle in
        let o = k.stocked shut in
        let later = hand kind (r.unit + r.hold) rs in
        let make = r.setup + r.unit * (n + r.demand) + later in
        ⊎_elim
        (λ more. omega (arith, block_make (may_owe kind rs) r.short (n + r.demand) make (owed kind (n + r.demand) rs), whole_lot r.setup r.unit later d x n r.demand (omega arith) more))
        (λ even.
        let same : d + r.demand ≡ x + l.amount = omega arith in
        let empty : n + r.demand ≡ 0 = omega arith in
        let even' : d ≡ x + n = omega arith in
        let ih = b.owing (t + 1) (x + l.amount) (d + r.demand) (n + r.demand) k.rest k.next in
        let a : (d + r.demand) * b.φ ≡ (x + l.amount + (n + r.demand)) * b.φ = ap (λ i. i * b.φ) (omega arith) in
        let z : d * (r.setup + r.unit + later) ≡ (x + n) * (r.setup + r.unit + later) = ap (λ i. i * (r.setup + r.unit + later)) even' in
        omega (arith, k.sum, block_none (may_owe kind rs) r.short (n + r.demand) make (owed kind (n + r.demand) rs) empty))
        (cases_lt d (x + n))

    made_bound : l.setup ≡ true → (may_owe kind rs ≡ true → r.unit ≤ r.short + b.φ) → Bound (r ∷ rs) (l ∷ ls)
    made_bound made wait = record {
      φ = r.unit;
      owing = λ t x d n c e. owing_make t x d n c made wait e;
      under = λ p t x d c le e. hand_step r.unit p t x d c (λ _. omega arith) wait le e;
    }

    wait_bound : may_owe kind rs ≡ true → (l.setup ≡ true → r.short + b.φ ≤ r.unit) → Bound (r ∷ rs) (l ∷ ls)
    wait_bound may lot = record {
      φ = r.short + b.φ;
      owing = λ t x d n c e. owing_wait t x d n c may lot e;
      under = λ p t x d c le e. hand_step (r.short + b.φ) p t x d c lot (λ _. omega arith) le e;
    }

    idle_bound : l.setup ≡ false → may_owe kind rs ≡ false → Bound (r ∷ rs) (l ∷ ls)
    idle_bound idle shut = record {
      φ = r.setup + r.unit + hand kind (r.unit + r.hold) rs;
      owing = λ t x d n c e. owing_idle t x d n c idle shut e;
      under = λ p t x d c le e. hand_step _ p t x d c (λ y. absurd (both_ways _ idle y)) (λ y. absurd (both_ways _ shut y)) le e;
    }

    more : Bound (r ∷ rs) (l ∷ ls)
    more =
        ⊎_elim
        (λ may. ⊎_elim (λ low. made_or_wait may low) (λ high. wait_bound may (λ _. high)) (cases_lt r.unit (r.short + b.φ)))
        (λ shut. ⊎_elim (λ made. made_bound made (λ y. absurd (both_ways _ shut y))) (λ idle. idle_bound idle shut) (cases_Bool l.setup))
        (cases_Bool (may_owe kind rs))
      where
        made_or_wait : may_owe kind rs ≡ true → r.unit < r.short + b.φ → Bound (r ∷ rs) (l ∷ ls)
        made_or_wait may low = ⊎_elim (λ made. made_bound made (λ _. omega arith)) (λ idle. wait_bound may (λ y. absurd (both_ways _ idle y))) (cases_Bool l.setup)

  pub bound : (m : ℕ) (rs : List Row) (ls : List Lot) → Fits m rs ls → Bound rs ls
  bound m [] [] f = record { φ = 0; owing = λ t x d n c e. omega arith; under = λ p t x d c le e. let z : p ≡ 0 = omega arith in rw z (omega arith) }
  bound m [] (l ∷ ls) f = absurd f
  bound m (r ∷ rs) [] f = absurd f
  bound m (r ∷ rs) (l ∷ ls) f = more r rs l ls (bound m rs ls f.1)

  pub owed_below : (m c : ℕ) (rs : List Row) (ls : List Lot) → Fits m rs ls → verdict_from kind 0 0 0 rs ls ≡ Ok c → owed kind 0 rs ≤ c
  owed_below m c rs ls f e = omega (arith, (bound m rs ls f).owing 0 0 0 0 c e)
