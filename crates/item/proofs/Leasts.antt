-- The least cost as a value is the least cost as a relation.
use Rattle.std.proofs.Common.{◌≡◌, ℕ, zero, suc, ◌<◌, ◌≤◌, min, Bool, true, false, cond, eqb, ltb, leb, ◌⊎◌, List, [], ◌∷◌, length, Some, None, Ok, Err, Option, Result, sym, refl, ap, ◌∙◌, subst, inl, inr, ⊎_elim, arith}
use Rattle.std.proofs.lemmas.Bool.{and_parts, and_from, leb-true, leb-false, le-leb, eqb-true, eq-eqb, cases_eq, cases_lt, cases_Bool}
use Rattle.item.specs.declared.records.Header.{Header}
use Rattle.item.specs.declared.records.Lot.{Lot}
use Rattle.item.specs.declared.records.Refusal.{Refusal}
use Rattle.item.specs.declared.records.Refusal.TheVariants.{HeaderNotKnown, CostTooHigh, NotOpened, RowTooLarge, TooManyRows}
use Rattle.item.specs.declared.records.Row.{Row}
use Rattle.item.specs.Asked.{and_then, tell_all_answer, fill_answer, item_least, AnsweredLeast}
use Rattle.item.specs.Calls.{open_answer, tell_answer, held_after_tell, named_least, least_answer}
use Rattle.std.specs.Result.{result_ok}
use Rattle.item.specs.Least.{lower, lowest_to, lot, lowest_plan, least_cost, IsLeast, LeastMeans}
use Rattle.item.specs.Limits.{most_amount, most_rows, most_cost, amounts_up_to, row_within, fits}
use Rattle.item.specs.Meanings.{Meaning, Held, unopened, opened}
use Rattle.item.specs.Verdicts.{Verdict}

-- there is a lowest value, and it is no higher than k
abbrev AtMost : ℕ → Option ℕ → Type 0
AtMost k o = (n : ℕ) × (o ≡ Some n) × (n ≤ k)

some_is : (a b : ℕ) → ◌≡◌ {A = Option ℕ} (Some a) (Some b) → a ≡ b
some_is a b e = cc

none_is_not : {X : Type 0} (a : ℕ) → None ≡ Some a → X
none_is_not a e = let z : ◌≡◌ {A = ℕ} 0 1 = cc in absurd (omega arith)

lower_some : (a b : Option ℕ) (n : ℕ) → lower a b ≡ Some n → (a ≡ Some n) ⊎ (b ≡ Some n)
lower_some (Some a) (Some b) n e =
    let m = some_is (min a b) n e in
    ⊎_elim (λ (lt : a < b). inl (ap Some (omega arith))) (λ (le : b ≤ a). inr (ap Some (omega arith))) (cases_lt a b)
lower_some (Some a) None n e = inl e
lower_some None b n e = inr e

lower_left : (k : ℕ) (a b : Option ℕ) → AtMost k a → AtMost k (lower a b)
lower_left k (Some a) (Some b) h = let e = some_is a h.0 h.1 in let l = h.2 in (min a b, refl, omega arith)
lower_left k (Some a) None h = h
lower_left k None b h = none_is_not h.0 h.1

lower_right : (k : ℕ) (a b : Option ℕ) → AtMost k b → AtMost k (lower a b)
lower_right k (Some a) (Some b) h = let e = some_is b h.0 h.1 in let l = h.2 in (min a b, refl, omega arith)
lower_right k (Some a) None h = none_is_not h.0 h.1
lower_right k None b h = h

to_some : (m : ℕ) (f : ℕ → Option ℕ) (n : ℕ) → lowest_to m f ≡ Some n → (i : ℕ) × (i ≤ m) × (f i ≡ Some n)
unfolding lowest_to
to_some zero f n e = (0, omega arith, e)
to_some (suc m) f n e =
    ⊎_elim
    (λ before. let r = to_some m f n before in let l = r.1 in (r.0, omega arith, r.2))
    (λ at. (suc m, omega arith, at))
    (lower_some (lowest_to m f) (f (suc m)) n e)

to_low : (m : ℕ) (f : ℕ → Option ℕ) (k i : ℕ) → i ≤ m → AtMost k (f i) → AtMost k (lowest_to m f)
unfolding lowest_to
to_low zero f k i l h = let z : i ≡ 0 = omega arith in subst (λ j. AtMost k (f j)) z h
to_low (suc m) f k i l h =
    ⊎_elim
    (λ (z : i ≡ suc m). lower_right k (lowest_to m f) (f (suc m)) (subst (λ j. AtMost k (f j)) z h))
    (λ other. lower_left k (lowest_to m f) (f (suc m)) (to_low m f k i (omega arith) h))
    (cases_eq i (suc m))

-- a plan of so many periods, no amount above m
pub record Sized (m periods : ℕ) (plan : List Lot) : Type 0 where
  pub long : length plan ≡ periods
  pub small : amounts_up_to m plan ≡ true

begun : (m k n : ℕ) (b : Bool) (ls : List Lot) → n ≤ m → Sized m k ls → Sized m (suc k) (lot n b ∷ ls)
begun m k n b ls l s = record { long = ap suc s.long; small = and_from (leb n m) (amounts_up_to m ls) (le-leb n m l) s.small }

plans_some : (m k : ℕ) (f : List Lot → Option ℕ) (n : ℕ) → lowest_plan m k f ≡ Some n → (plan : List Lot) × Sized m k plan × (f plan ≡ Some n)
unfolding lowest_plan
plans_some m zero f n e = ([], record { long = refl; small = refl }, e)
plans_some m (suc k) f n e =
    let at = to_some m _ n e in
    let from : (b : Bool) → lowest_plan m k (λ ls. f (lot at.0 b ∷ ls)) ≡ Some n → (plan : List Lot) × Sized m (suc k) plan × (f plan ≡ Some n) =
    λ b q. let r = plans_some m k (λ ls. f (lot at.0 b ∷ ls)) n q in (lot at.0 b ∷ r.0, begun m k at.0 b r.0 at.1 r.1, r.2) in
    ⊎_elim (from false) (from true) (lower_some _ _ n at.2)

plans_low : (m k : ℕ) (f : List Lot → Option ℕ) (plan : List Lot) (c : ℕ) → Sized m k plan → f plan ≡ Some c → AtMost c (lowest_plan m k f)
unfolding lowest_plan
plans_low m zero f [] c s e = (c, e, omega arith)
plans_low m zero f (l ∷ ls) c s e = let z = s.long in absurd (omega arith)
plans_low m (suc k) f [] c s e = let z = s.long in absurd (omega arith)
plans_low m (suc k) f (l ∷ ls) c s e =
    let p = and_parts (leb l.amount m) (amounts_up_to m ls) s.small in
    let z = s.long in
    let rest : Sized m k ls = record { long = omega arith; small = p.1 } in
    let from : (b : Bool) → l.setup ≡ b → AtMost c (lowest_plan m k (λ ks. f (lot l.amount b ∷ ks))) =
    λ b is. plans_low m k (λ ks. f (lot l.amount b ∷ ks)) ls c rest (subst (λ x. f (lot l.amount x ∷ ls) ≡ Some c) is e) in
    to_low m _ c l.amount (leb-true l.amount m p.0)
    (⊎_elim (λ yes. lower_right c _ _ (from true yes)) (λ none. lower_left c _ _ (from false none)) (cases_Bool l.setup))

cost_some : (w : Verdict) (n : ℕ) → result_ok w ≡ Some n → w ≡ Ok n
cost_some (Ok c) n e = ap Ok (some_is c n e)
cost_some (Err f) n e = none_is_not n e

module _ (v : List Row → List Lot → Verdict) (rows : List Row) where
  sized : (plan : List Lot) → fits rows plan ≡ true → Sized most_amount (length rows) plan
  sized plan f = let p = and_parts (eqb (length plan) (length rows)) (amounts_up_to most_amount plan) f in record { long = eqb-true _ _ p.0; small = p.1 }

  fitting : (plan : List Lot) → Sized most_amount (length rows) plan → fits rows plan ≡ true
  fitting plan s = and_from (eqb (length plan) (length rows)) (amounts_up_to most_amount plan) (eq-eqb _ _ s.long) s.small

  low : (plan : List Lot) (k : ℕ) → fits rows plan ≡ true → v rows plan ≡ Ok k → AtMost k (least_cost v rows)
  low plan k f e = plans_low most_amount (length rows) (λ p. result_ok (v rows p)) plan k (sized plan f) (ap result_ok e)

  -- the value says what the relation says
  pub least_means : LeastMeans v rows (least_cost v rows)
  least_means = go (least_cost v rows) refl
    where
      go : (o : Option ℕ) → least_cost v rows ≡ o → LeastMeans v rows o
      go None e = λ plan k f c. let a = low plan k f c in none_is_not a.0 (sym e ∙ a.1)
      go (Some n) e =
          let r = plans_some most_amount (length rows) (λ p. result_ok (v rows p)) n e in
          record {
            reached = (r.0, fitting r.0 r.1, cost_some (v rows r.0) n r.2);
            lowest = λ plan k f c. let a = low plan k f c in let same = some_is n a.0 (sym e ∙ a.1) in let l = a.2 in omega arith;
          }

  pub least_some : (n : ℕ) → least_cost v rows ≡ Some n → IsLeast v rows n
  least_some n e = subst (LeastMeans v rows) e least_means

  -- what a plan reaches and none undercuts is the value
  pub least_is : (n : ℕ) → IsLeast v rows n → least_cost v rows ≡ Some n
  least_is n l =
      let p = l.reached in
      let a = low p.0 n p.1 p.2 in
      let q = (least_some a.0 a.1).reached in
      let up = l.lowest q.0 a.0 q.1 q.2 in
      let down = a.2 in
      a.1 ∙ ap Some (omega arith)

-- a refusal that comes before the least is asked is not that of a cost
abbrev Before : Result (Unit {0}) Refusal → Type 0
Before r = (e : Refusal) → r ≡ Err e → e ≡ CostTooHigh → ⊥

no_refusal : Before (Ok tt)
no_refusal e p q = let z : ◌≡◌ {A = ℕ} 0 1 = cc in absurd (omega arith)

other : (y : Refusal) → (y ≡ CostTooHigh → ⊥) → Before (Err y)
other y n e p q = let same : y ≡ e = cc in n (same ∙ q)

tell_before : (r : Row) (held : Held) → Before (tell_answer r held)
tell_before r unopened = other NotOpened (λ q. let z : ◌≡◌ {A = ℕ} 0 1 = cc in absurd (omega arith))
tell_before r (opened h rows) = go (row_within r) (ltb (length rows) most_rows)
  where
    go : (a b : Bool) → Before (cond a (cond b (Ok tt) (Err TooManyRows)) (Err RowTooLarge))
    go true true = no_refusal
    go true false = other TooManyRows (λ q. let z : ◌≡◌ {A = ℕ} 0 1 = cc in absurd (omega arith))
    go false b = other RowTooLarge (λ q. let z : ◌≡◌ {A = ℕ} 0 1 = cc in absurd (omega arith))

then_before : (r : Result (Unit {0}) Refusal) (next : Result (Unit {0}) Refusal) → Before r → Before next → Before (and_then r (λ _. next))
then_before (Ok u) next a b = b
then_before (Err y) next a b = a

all_before : (rows : List Row) (held : Held) → Before (tell_all_answer rows held)
all_before [] held = no_refusal
all_before (r ∷ rs) held = then_before (tell_answer r held) (tell_all_answer rs (held_after_tell r held)) (tell_before r held) (all_before rs (held_after_tell r held))

fill_before : (m : Meaning) (h : Header) (rows : List Row) → Before (fill_answer m h rows)
fill_before m h rows = then_before (open_answer m h) (tell_all_answer rows (opened h [])) (go (m.knows h)) (all_before rows (opened h []))
  where
    go : (b : Bool) → Before (cond b (Ok tt) (Err HeaderNotKnown))
    go true = no_refusal
    go false = other HeaderNotKnown (λ q. let z : ◌≡◌ {A = ℕ} 0 1 = cc in absurd (omega arith))

-- what is answered of the least is so
pub answered : (m : Meaning) (h : Header) (rows : List Row) (r : Result ℕ Refusal) → r ≡ item_least m h rows → AnsweredLeast m h rows r
answered m h rows r e = subst (AnsweredLeast m h rows) (sym e) (go (fill_answer m h rows) (fill_before m h rows))
  where
    by : (b : Bool) (n : ℕ) → leb n most_cost ≡ b → IsLeast (m.verdict h) rows n → AnsweredLeast m h rows (cond b (Ok n) (Err CostTooHigh))
    by true n t l = record { number = λ k p. let same : n ≡ k = cc in subst (IsLeast (m.verdict h) rows) same l; too_high = λ p. let z : ◌≡◌ {A = ℕ} 0 1 = cc in absurd (omega arith) }
    by false n t l = record {
      number = λ k p. let z : ◌≡◌ {A = ℕ} 0 1 = cc in absurd (omega arith);
      too_high = λ p plan k f c. let low = l.lowest plan k f c in let high = leb-false n most_cost t in omega arith;
    }

    of : (o : Option ℕ) → LeastMeans (m.verdict h) rows o → AnsweredLeast m h rows (named_least o)
    of None l = record { number = λ k p. let z : ◌≡◌ {A = ℕ} 0 1 = cc in absurd (omega arith); too_high = λ p plan k f c. absurd (l plan k f c) }
    of (Some n) l = by (leb n most_cost) n refl l

    go : (f : Result (Unit {0}) Refusal) → Before f → AnsweredLeast m h rows (and_then f (λ _. least_answer m (opened h rows)))
    go (Err y) b = record { number = λ k p. let z : ◌≡◌ {A = ℕ} 0 1 = cc in absurd (omega arith); too_high = λ p. let same : y ≡ CostTooHigh = cc in absurd (b y refl same) }
    go (Ok u) b = of (least_cost (m.verdict h) rows) (least_means (m.verdict h) rows)
