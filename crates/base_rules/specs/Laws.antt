-- The base rules keep the laws of item rules.
use Rattle.std.specs.Prelude.{◌≡◌, ℕ, zero, suc, ◌+◌, ◌-◌, ◌*◌, ◌≤◌, Bool, true, false, cond, not, ◌&&◌, List, [], ◌∷◌, length, Ok, Err, nat_le, nat_lt, refl}
use Rattle.std.proofs.Common.{sym, ◌∙◌, subst, mul-add, add-mul, mul_assoc, mul-zero, arith}
use Rattle.std.proofs.Math.Path.{ap}
use Rattle.std.proofs.lemmas.Bool.{and_parts, and_from, leb-true, le-leb, true≢false}
use Rattle.item.specs.declared.records.Fault.{Fault}
use Rattle.item.specs.declared.records.Lot.{Lot}
use Rattle.item.specs.declared.records.Row.{Row}
use Rattle.item.specs.Verdicts.{Verdict}
use Rattle.item.specs.Laws.{repriced_row, repriced, surcharge, dearer, idle_at, with_setup, setup_price, proper_fault, Laws}
use Rattle.item.specs.Least.{lot}
use Rattle.item.specs.Limits.{most_amount, most_rows, demands_within}
use Rattle.base_rules.specs.declared.causes.Cause.{Cause}
use Rattle.base_rules.specs.declared.causes.Cause.TheVariants.{NoSetup, BelowZero, BelowZeroAtTheEnd}
use Rattle.base_rules.specs.declared.kinds.Kind.{Kind}
use Rattle.base_rules.specs.declared.kinds.Kind.TheVariants.{Plain, Backlog}
use Rattle.base_rules.specs.Verdicts.{period_cost, may_owe, shortage, fault_of, plus, verdict_from, base_rule}
use Rattle.base_rules.specs.Programme.{owed}
use Rattle.base_rules.specs.Exact.{is_least}
use Rattle.base_rules.specs.Fitting.{Fits, fits_rows}
use Rattle.base_rules.specs.Turns.{turn, turned}

-- other prices leave the same rows to follow
may_repriced : (kind : Kind) (k : ℕ) (e f : ℕ → ℕ) (rs : List Row) → may_owe kind (repriced k e f rs) ≡ may_owe kind rs
may_repriced Plain k e f rs = refl
may_repriced Backlog k e f [] = refl
may_repriced Backlog k e f (r ∷ rs) = refl

period_repriced : (k e f s u h q a x d : ℕ) (b : Bool) → cond b (k * s + e) 0 + (k * u + f) * a + k * h * x + k * q * d ≡ k * (cond b s 0 + u * a + h * x + q * d) + (cond b e 0 + f * a)
period_repriced k e f s u h q a x d true = simp (mul-add, add-mul, mul_assoc) (omega arith)
period_repriced k e f s u h q a x d false = simp (mul-add, add-mul, mul_assoc, mul-zero) (omega arith)

plus_dearer : (k p' p x y : ℕ) (v : Verdict) → p' ≡ k * p + x → plus p' (dearer k y v) ≡ dearer k (x + y) (plus p v)
plus_dearer k p' p x y (Ok n) e = ap Ok (omega (arith, mul-add k p n))
plus_dearer k p' p x y (Err f) e = refl

tests_dearer : (k x t : ℕ) (i j : Cause) (a b : Bool) (v' v : Verdict) → v' ≡ dearer k x v → cond a (Err (fault_of i t)) (cond b (Err (fault_of j t)) v') ≡ dearer k x (cond a (Err (fault_of i t)) (cond b (Err (fault_of j t)) v))
tests_dearer k x t i j true b v' v e = refl
tests_dearer k x t i j false true v' v e = refl
tests_dearer k x t i j false false v' v e = e

fault_proper : (cause : Cause) (t : ℕ) → t ≤ 255 → proper_fault (fault_of cause t) ≡ true
fault_proper NoSetup t le = and_from _ _ (le-leb t 255 le) refl
fault_proper BelowZero t le = and_from _ _ (le-leb t 255 le) refl
fault_proper BelowZeroAtTheEnd t le = and_from _ _ (le-leb t 255 le) refl

module _ (kind : Kind) where
  price : (m k : ℕ) (e f : ℕ → ℕ) (t x d : ℕ) (rows : List Row) (plan : List Lot) → Fits m rows plan → verdict_from kind t x d (repriced k e f rows) plan ≡ dearer k (surcharge e f plan) (verdict_from kind t x d rows plan)
  price m k e f t x d [] [] h = ap Ok (omega arith)
  price m k e f t x d [] (l ∷ ls) h = absurd h
  price m k e f t x d (r ∷ rs) [] h = absurd h
  price m k e f t x d (r ∷ rs) (l ∷ ls) h =
      let e' : ℕ → ℕ = λ i. e (suc i) in
      let f' : ℕ → ℕ = λ i. f (suc i) in
      let x' = x + l.amount in
      let d' = d + r.demand in
      let now = cond l.setup (e 0) 0 + f 0 * l.amount in
      let later = surcharge e' f' ls in
      let rest' = verdict_from kind (t + 1) x' d' (repriced k e' f' rs) ls in
      let rest = verdict_from kind (t + 1) x' d' rs ls in
      let r' = repriced_row k (e 0) (f 0) r in
      let v : plus (period_cost r' l x' d') rest' ≡ dearer k (now + later) (plus (period_cost r l x' d') rest) =
      ap (plus (period_cost r' l x' d')) (price m k e' f' (t + 1) x' d' rs ls h.1)
      ∙ plus_dearer k (period_cost r' l x' d') (period_cost r l x' d') now later rest (period_repriced k (e 0) (f 0) r.setup r.unit r.hold r.short l.amount (x' - d') (d' - x') l.setup) in
      ap (λ b. cond (not l.setup && nat_lt 0 l.amount) (Err (fault_of NoSetup t)) (cond (not b && nat_lt x' d') (Err (fault_of (shortage kind) t)) (plus (period_cost r' l x' d') rest'))) (may_repriced kind k e' f' rs)
      ∙ tests_dearer k (now + later) t NoSetup (shortage kind) (not l.setup && nat_lt 0 l.amount) (not (may_owe kind rs) && nat_lt x' d') _ _ v

  idle : (m : ℕ) (t x d : ℕ) (rows : List Row) (plan : List Lot) (i n : ℕ) → Fits m rows plan → idle_at i plan ≡ true → verdict_from kind t x d rows plan ≡ Ok n → verdict_from kind t x d rows (with_setup i plan) ≡ Ok (n + setup_price i rows)
  idle m t x d [] [] i n h b e = absurd (true≢false (sym b))
  idle m t x d [] (l ∷ ls) i n h b e = absurd h
  idle m t x d (r ∷ rs) [] i n h b e = absurd h
  idle m t x d (r ∷ rs) (l ∷ ls) zero n h b e =
      let k = turn kind t x d n r rs l ls e in
      turned kind t x d k.rest r rs (lot l.amount true) ls (λ z. absurd (true≢false z)) k.stocked k.next
      ∙ ap Ok (none k.rest l.setup b k.sum)
    where
      none : (s : ℕ) (b : Bool) → not b ≡ true → n ≡ (cond b r.setup 0 + r.unit * l.amount + r.hold * (x + l.amount - (d + r.demand)) + r.short * (d + r.demand - (x + l.amount))) + s → (r.setup + r.unit * l.amount + r.hold * (x + l.amount - (d + r.demand)) + r.short * (d + r.demand - (x + l.amount))) + s ≡ n + r.setup
      none s true z e = absurd (true≢false (sym z))
      none s false z e = omega arith
  idle m t x d (r ∷ rs) (l ∷ ls) (suc i) n h b e =
      let k = turn kind t x d n r rs l ls e in
      turned kind t x d (k.rest + setup_price i rs) r rs l (with_setup i ls) k.idle k.stocked (idle m (t + 1) (x + l.amount) (d + r.demand) rs ls i k.rest h.1 b k.next)
      ∙ ap Ok (omega (arith, k.sum))

  -- a fault names a cause, a period of these rows, and depth 0
  fault : (t x d : ℕ) (rows : List Row) (plan : List Lot) (f : Fault) → t + length rows ≤ 255 → verdict_from kind t x d rows plan ≡ Err f → proper_fault f ≡ true
  fault t x d [] plan f few e = absurd cc
  fault t x d (r ∷ rs) [] f few e = absurd cc
  fault t x d (r ∷ rs) (l ∷ ls) f few e =
      tests (not l.setup && nat_lt 0 l.amount) (not (may_owe kind rs) && nat_lt (x + l.amount) (d + r.demand)) _ _ e
      (λ e'. fault (t + 1) (x + l.amount) (d + r.demand) rs ls f (omega arith) e')
    where
      named : (cause : Cause) → ◌≡◌ {A = Verdict} (Err (fault_of cause t)) (Err f) → proper_fault f ≡ true
      named cause e = let same : fault_of cause t ≡ f = cc in subst (λ f. proper_fault f ≡ true) same (fault_proper cause t (omega arith))

      tests : (b c : Bool) (n : ℕ) (v : Verdict) → cond b (Err (fault_of NoSetup t)) (cond c (Err (fault_of (shortage kind) t)) (plus n v)) ≡ Err f → (v ≡ Err f → proper_fault f ≡ true) → proper_fault f ≡ true
      tests true c n v e next = named NoSetup e
      tests false true n v e next = named (shortage kind) e
      tests false false n (Ok k) e next = absurd cc
      tests false false n (Err g) e next = next e

pub laws : (kind : Kind) → Laws (base_rule kind)
laws kind h known = record {
  price = λ rows plan k e f w fit _. price kind most_amount k e f 0 0 0 rows plan (fits_rows rows plan fit);
  idle = λ rows plan t n w fit b e. idle kind most_amount 0 0 0 rows plan t n (fits_rows rows plan fit) b e;
  supply = λ rows w. let r = (is_least kind rows w).reached in (r.0, r.1, (owed kind 0 rows, r.2));
  fault = λ rows plan f w fit e.
      let few = leb-true (length rows) most_rows (and_parts (nat_le (length rows) most_rows) (demands_within rows) w).0 in
      fault kind 0 0 0 rows plan f (omega arith) e;
}
