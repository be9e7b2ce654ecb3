-- The steps of weighing a plan.
use Rattle.std.proofs.Common.{◌≡◌, ℕ, zero, suc, ◌+◌, ◌<◌, ◌≤◌, true, false, not, ◌&&◌, eqb, ltb, leb, List, [], ◌∷◌, Ok, Err, length, drop, refl, sym, ap, ◌∙◌, ap₂, arith}
use Rattle.std.proofs.lemmas.List.{drop_all, drop_more}
use Rattle.std.proofs.lemmas.Bool.{and_parts, leb-true, eqb-true}
use Rattle.item.specs.declared.records.Lot.{Lot}
use Rattle.item.specs.declared.records.Row.{Row}
use Rattle.item.specs.Verdicts.{Verdict}
use Rattle.item.specs.Least
use Rattle.item.specs.Limits.{most_amount, amounts_up_to, row_within, fits}
use Rattle.base_rules.specs.declared.causes.Cause.TheVariants.{NoSetup}
use Rattle.base_rules.specs.declared.kinds.Kind.{Kind}
use Rattle.base_rules.specs.declared.problem.Problem.{Problem}
use Rattle.base_rules.specs.Programme.{blank, row_at}
use Rattle.base_rules.specs.Stocks.{lot_at}
use Rattle.base_rules.specs.Verdicts.{period_cost, may_owe, shortage, fault_of, plus, verdict_from}
use Rattle.base_rules.specs.Told.{limits, within_at}
use Rattle.base_rules.proofs.Zipped.{At}

pub plan_long : (rows : List Row) (plan : List Lot) → fits rows plan ≡ true → length plan ≡ length rows
plan_long rows plan f = eqb-true _ _ (and_parts (eqb (length plan) (length rows)) (amounts_up_to most_amount plan) f).0

small_at : (m : ℕ) (plan : List Lot) (t : ℕ) → amounts_up_to m plan ≡ true → t < length plan → (lot_at plan t).amount ≤ m
small_at m [] t h lt = absurd (omega arith)
small_at m (l ∷ ls) zero h lt = leb-true l.amount m (and_parts (leb l.amount m) (amounts_up_to m ls) h).0
small_at m (l ∷ ls) (suc t) h lt = small_at m ls t (and_parts (leb l.amount m) (amounts_up_to m ls) h).1 (omega arith)

amount_low : (rows : List Row) (plan : List Lot) (t : ℕ) → fits rows plan ≡ true → t < length rows → (lot_at plan t).amount ≤ 3200000
amount_low rows plan t f lt =
    let long = plan_long rows plan f in
    small_at most_amount plan t (and_parts (eqb (length plan) (length rows)) (amounts_up_to most_amount plan) f).1 (omega arith)

plus_plus : (a b : ℕ) (v : Verdict) → plus a (plus b v) ≡ plus (a + b) v
plus_plus a b (Ok n) = ap Ok (omega arith)
plus_plus a b (Err f) = refl

module _ (kind : Kind) (x d cost : ℕ) {rows : List Row} {plan : List Lot} {t period : ℕ} {row : Row} {lot : Lot} (at : At rows plan t period row lot) where
  -- the verdict on the rest of the rows
  abbrev rest : Verdict
  rest = plus cost (verdict_from kind t x d (drop t rows) (drop t plan))

  here : rest ≡ plus cost (verdict_from kind t x d (row ∷ drop (t + 1) rows) (lot ∷ drop (t + 1) plan))
  here =
      let r : drop t rows ≡ row ∷ drop (t + 1) rows = drop_more rows t blank at.in_rows ∙ ap (λ a. a ∷ drop (t + 1) rows) (sym at.row_is) in
      let l : drop t plan ≡ lot ∷ drop (t + 1) plan = drop_more plan t (Least.lot 0 false) at.in_plan ∙ ap (λ a. a ∷ drop (t + 1) plan) (sym at.lot_is) in
      ap₂ (λ a b. plus cost (verdict_from kind t x d a b)) r l

  pub no_setup_lem : (not lot.setup && ltb 0 lot.amount) ≡ true → Err (fault_of NoSetup period) ≡ rest
  no_setup_lem e = sym (here ∙ rw (e, at.is))

  module _ (made : (not lot.setup && ltb 0 lot.amount) ≡ false) where
    pub short : (not (may_owe kind (drop (t + 1) rows)) && ltb (x + lot.amount) (d + row.demand)) ≡ true → Err (fault_of (shortage kind) period) ≡ rest
    short e = sym (here ∙ rw (made, e, at.is))

    pub goes_on : (not (may_owe kind (drop (t + 1) rows)) && ltb (x + lot.amount) (d + row.demand)) ≡ false →
        rest ≡ plus (cost + period_cost row lot (x + lot.amount) (d + row.demand)) (verdict_from kind (t + 1) (x + lot.amount) (d + row.demand) (drop (t + 1) rows) (drop (t + 1) plan))
    goes_on e = here ∙ rw (made, e) (plus_plus cost _ _)

pub ends : (kind : Kind) (rows : List Row) (plan : List Lot) (t x d cost : ℕ) → length rows ≤ t → plus cost (verdict_from kind t x d (drop t rows) (drop t plan)) ≡ Ok cost
ends kind rows plan t x d cost le = ap (λ a. plus cost (verdict_from kind t x d a (drop t plan))) (drop_all t rows le) ∙ ap Ok (omega arith)

-- the bounds of a turn, where the rows were told and the plan fits
pub record Low (t : ℕ) (row : Row) (lot : Lot) : Type 0 where
  pub few : t < 32
  pub within : row_within row ≡ true
  pub demand : row.demand ≤ 100000
  pub amount : lot.amount ≤ 3200000

pub low_at : (p : Problem) {plan : List Lot} {t period : ℕ} {row : Row} {lot : Lot} → fits p.rows.now plan ≡ true → At p.rows.now plan t period row lot → Low t row lot
low_at p {plan} {t} f at =
    let within = within_at p.rows.now t p.within at.in_rows in
    let few = p.few in
    record {
      few = omega (arith, at.in_rows);
      within = rw at.row_is within;
      demand = rw at.row_is (limits (row_at p.rows.now t) within).demand;
      amount = rw at.lot_is (amount_low p.rows.now plan t f at.in_rows);
    }
