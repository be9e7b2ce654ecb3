-- A verdict says what it means.
use Rattle.std.proofs.Common.{◌≡◌, ℕ, zero, suc, ◌+◌, ◌<◌, Bool, true, false, not, ◌&&◌, ltb, List, Ok, Err, length, drop, sym, refl, ap, ◌∙◌, subst, inl, inr, ⊎_elim, arith}
use Rattle.std.proofs.lemmas.List.Sums.{sum_by_more}
use Rattle.std.proofs.lemmas.Bool.{cases_Bool, cases_lt}
use Rattle.std.proofs.lemmas.Bool.Decides.{nat_tests}
use Rattle.item.specs.declared.records.Lot.{Lot}
use Rattle.item.specs.declared.records.Row.{Row}
use Rattle.item.specs.Verdicts.{Verdict}
use Rattle.item.specs.Least.{lot}
use Rattle.item.specs.Limits.{fits}
use Rattle.base_rules.specs.declared.kinds.Kind.{Kind}
use Rattle.base_rules.specs.declared.kinds.Kind.TheVariants.{Plain, Backlog}
use Rattle.base_rules.specs.Programme.{blank, row_at}
use Rattle.base_rules.specs.Stocks.{lot_at, made_by, asked_by, cost_by, Clean, CleanTo, VerdictMeans, VerdictsMean}
use Rattle.base_rules.specs.Verdicts.{period_cost, may_owe, plus, verdict_from}
use Rattle.base_rules.proofs.Grids.{last}
use Rattle.base_rules.proofs.Zipped.{At}
use Rattle.base_rules.proofs.Weighs.{plan_long, no_setup_lem, short, goes_on, ends}

lacks_setup : (b : Bool) (n : ℕ) → (not b && ltb 0 n) ≡ true → (b ≡ false) × (0 < n)
lacks_setup b n e = (grind (arith, nat_tests), grind (arith, nat_tests))

has_setup : (b : Bool) (n : ℕ) → (not b && ltb 0 n) ≡ false → (b ≡ false) × (0 < n) → ⊥
has_setup b n e p = let y = p.0 in let z = p.1 in grind (arith, nat_tests)

lacks_stock : (kind : Kind) (rows : List Row) (t x d : ℕ) → t < length rows → (not (may_owe kind (drop (t + 1) rows)) && ltb x d) ≡ true → (x < d) × (kind ≡ Backlog → t + 1 ≡ length rows)
lacks_stock Plain rows t x d row e = (grind (arith, nat_tests), λ y. absurd cc)
lacks_stock Backlog rows t x d row e = let z = last rows t in (grind (arith, nat_tests), λ y. grind (arith, nat_tests))

has_stock : (kind : Kind) (rows : List Row) (t x d : ℕ) → (not (may_owe kind (drop (t + 1) rows)) && ltb x d) ≡ false → (x < d) × (kind ≡ Backlog → t + 1 ≡ length rows) → ⊥
has_stock Plain rows t x d e p = let z = p.0 in grind (arith, nat_tests)
has_stock Backlog rows t x d e p = let y = p.1 refl in let z = p.0 in let w = last rows t in grind (arith, nat_tests)

plus_none : (v : Verdict) → plus 0 v ≡ v
plus_none (Ok n) = ap Ok (omega arith)
plus_none (Err f) = refl

clean_next : (kind : Kind) (rows : List Row) (plan : List Lot) (t : ℕ) → CleanTo kind rows plan t → Clean kind rows plan t → CleanTo kind rows plan (t + 1)
clean_next kind rows plan t before here s lt = ⊎_elim (λ l. before s l) (λ g. let i : s ≡ t = omega arith in rw i here) (cases_lt s t)

module _ (kind : Kind) (rows : List Row) (plan : List Lot) (f : fits rows plan ≡ true) where
  abbrev Means : Verdict → Type 0
  Means = VerdictMeans kind rows plan

  -- the verdict once the first t periods are weighed
  abbrev after : ℕ → Verdict
  after t = plus (cost_by rows plan t) (verdict_from kind t (made_by plan t) (asked_by rows t) (drop t rows) (drop t plan))

  module _ (t : ℕ) (row : t < length rows) where
    abbrev no_setup : Bool
    no_setup = not (lot_at plan t).setup && ltb 0 (lot_at plan t).amount

    abbrev no_stock : Bool
    no_stock = not (may_owe kind (drop (t + 1) rows)) && ltb (made_by plan t + (lot_at plan t).amount) (asked_by rows t + (row_at rows t).demand)

    in_plan : t < length plan
    in_plan = omega (arith, plan_long rows plan f, row)

    at : At rows plan t t (row_at rows t) (lot_at plan t)
    at = record { in_rows = row; in_plan = in_plan; is = refl; row_is = refl; lot_is = refl }

    made : made_by plan (t + 1) ≡ made_by plan t + (lot_at plan t).amount
    made = sum_by_more (λ l. l.amount) plan t (lot 0 false) in_plan

    asked : asked_by rows (t + 1) ≡ asked_by rows t + (row_at rows t).demand
    asked = sum_by_more (λ r. r.demand) rows t blank row

    paid : cost_by rows plan (t + 1) ≡ cost_by rows plan t + period_cost (row_at rows t) (lot_at plan t) (made_by plan (t + 1)) (asked_by rows (t + 1))
    paid = let i : t + 1 ≡ suc t = omega arith in ap (cost_by rows plan) i

    stock_test : no_stock ≡ (not (may_owe kind (drop (t + 1) rows)) && ltb (made_by plan (t + 1)) (asked_by rows (t + 1)))
    stock_test = rw (made, asked) refl

    -- from one period to the next
    turn : CleanTo kind rows plan t → (CleanTo kind rows plan (t + 1) → Means (after (t + 1))) → Means (after t)
    turn before later =
        ⊎_elim
        (λ e. subst Means (no_setup_lem kind _ _ _ at e) (row, before, inl (lacks_setup _ _ e, refl), refl))
        (λ e.
        let set = has_setup _ _ e in
        ⊎_elim
        (λ o. subst Means (short kind _ _ _ at e o) (row, before, inr (set, lacks_stock kind rows t _ _ row (sym stock_test ∙ o), refl), refl))
        (λ o.
        let on : after t ≡ after (t + 1) = goes_on kind _ _ _ at e o ∙ rw (paid, made, asked) refl in
        subst Means (sym on) (later (clean_next kind rows plan t before (set, has_stock kind rows t _ _ (sym stock_test ∙ o)))))
        (cases_Bool no_stock))
        (cases_Bool no_setup)

  from : (k t : ℕ) → k + t ≡ length rows → CleanTo kind rows plan t → Means (after t)
  from zero t e before =
      let i : t ≡ length rows = omega arith in
      subst Means (sym (ends kind rows plan t _ _ _ (omega arith))) (λ s lt. before s (omega arith), ap (cost_by rows plan) i)
  from (suc k) t e before = turn t (omega arith) before (from k (t + 1) (omega arith))

pub verdicts_mean : (kind : Kind) → VerdictsMean kind
verdicts_mean kind rows plan f = subst (VerdictMeans kind rows plan) (plus_none _) (from kind rows plan f (length rows) 0 (omega arith) (λ s lt. absurd (omega arith)))
