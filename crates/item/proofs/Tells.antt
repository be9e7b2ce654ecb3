-- The steps of opening a header and telling its rows.
use Rattle.std.proofs.Common.{◌≡◌, ℕ, ◌+◌, ◌<◌, ◌≤◌, Bool, true, false, cond, ◌&&◌, ltb, List, [], ◌∷◌, ◌++◌, length, get_or, take, drop, Ok, Err, Result, sym, refl, ap, ◌∙◌, append_assoc, arith}
use Rattle.std.proofs.lemmas.List.{drop_all, drop_more, take_more}
use Rattle.item.specs.declared.records.Header.{Header}
use Rattle.item.specs.declared.records.Row.{Row}
use Rattle.item.specs.declared.records.Refusal.{Refusal}
use Rattle.item.specs.declared.records.Refusal.TheVariants.{HeaderNotKnown, NotOpened, RowTooLarge, TooManyRows}
use Rattle.item.specs.Asked.{and_then, tell_all_answer, held_if, held_after_tell_all, fill_answer, held_after_fill}
use Rattle.item.specs.Calls.{open_answer, held_after_open, tell_answer, held_after_tell}
use Rattle.item.specs.Limits.{most_rows, row_within}
use Rattle.item.specs.Meanings.{Meaning, Held, unopened, opened}

-- these rows told as well
abbrev pub and_rows : List Row → Held → Held
and_rows rows unopened = unopened
and_rows rows (opened h old) = opened h (old ++ rows)

pub not_refused : {A X : Type 0} (a : A) (e : Refusal) → ◌≡◌ {A = Result A Refusal} (Ok a) (Err e) → X
not_refused a e p = let z : ◌≡◌ {A = ℕ} 0 1 = cc in absurd (omega arith)

-- an opening that was not refused, after which now is held
pub record Known (m : Meaning) (h : Header) (old now : Held) (rows : List Row) : Type 0 where
  pub holds : now ≡ opened h []
  pub says : fill_answer m h rows ≡ tell_all_answer rows now
  pub leaves : held_after_fill m h rows old ≡ held_after_tell_all rows now

pub known_by : (m : Meaning) (h : Header) (old now : Held) (rows : List Row) (u : Unit {0}) → Ok u ≡ open_answer m h → now ≡ held_after_open m h old → Known m h old now rows
known_by m h old now rows u e n = go (m.knows h) refl e
  where
    go : (b : Bool) → m.knows h ≡ b → ◌≡◌ {A = Result (Unit {0}) Refusal} (Ok u) (cond b (Ok tt) (Err HeaderNotKnown)) → Known m h old now rows
    go true k e =
        let holds : now ≡ opened h [] = n ∙ rw k in
        record { holds = holds; says = rw k (sym (ap (tell_all_answer rows) holds)); leaves = rw k (sym (ap (held_after_tell_all rows) holds)) }
    go false k e = not_refused u HeaderNotKnown e

-- a row that was not refused is within its limits, and there was room for it
pub told_both : (h : Header) (rows : List Row) (r : Row) (u : Unit {0}) → Ok u ≡ tell_answer r (opened h rows) → (row_within r ≡ true) × (ltb (length rows) most_rows ≡ true)
told_both h rows r u e = go (row_within r) (ltb (length rows) most_rows) e
  where
    go : (a b : Bool) → ◌≡◌ {A = Result (Unit {0}) Refusal} (Ok u) (cond a (cond b (Ok tt) (Err TooManyRows)) (Err RowTooLarge)) → (a ≡ true) × (b ≡ true)
    go true true e = (refl, refl)
    go true false e = not_refused u TooManyRows e
    go false b e = not_refused u RowTooLarge e

module _ (rows : List Row) (i : ℕ) (d : Row) (lt : i < length rows) (held : Held) where
  here : tell_all_answer (drop i rows) held ≡ and_then (tell_answer (get_or rows i d) held) (λ _. tell_all_answer (drop (i + 1) rows) (held_after_tell (get_or rows i d) held))
  here = ap (λ z. tell_all_answer z held) (drop_more rows i d lt)

  pub tell_on : (u : Unit {0}) → Ok u ≡ tell_answer (get_or rows i d) held → tell_all_answer (drop i rows) held ≡ tell_all_answer (drop (i + 1) rows) (held_after_tell (get_or rows i d) held)
  tell_on u e = here ∙ ap (λ z. and_then z (λ _. tell_all_answer (drop (i + 1) rows) (held_after_tell (get_or rows i d) held))) (sym e)

  pub tell_stop : (y : Refusal) → Err y ≡ tell_answer (get_or rows i d) held → tell_all_answer (drop i rows) held ≡ Err y
  tell_stop y e = here ∙ ap (λ z. and_then z (λ _. tell_all_answer (drop (i + 1) rows) (held_after_tell (get_or rows i d) held))) (sym e)

  leaves_here : held_after_tell_all (drop i rows) held ≡ held_if (tell_answer (get_or rows i d) held) (held_after_tell_all (drop (i + 1) rows) (held_after_tell (get_or rows i d) held)) held
  leaves_here = ap (λ z. held_after_tell_all z held) (drop_more rows i d lt)

  pub leaves_on : (u : Unit {0}) → Ok u ≡ tell_answer (get_or rows i d) held → held_after_tell_all (drop i rows) held ≡ held_after_tell_all (drop (i + 1) rows) (held_after_tell (get_or rows i d) held)
  leaves_on u e = leaves_here ∙ ap (λ z. held_if z (held_after_tell_all (drop (i + 1) rows) (held_after_tell (get_or rows i d) held)) held) (sym e)

  pub leaves_stop : (y : Refusal) → Err y ≡ tell_answer (get_or rows i d) held → held_after_tell_all (drop i rows) held ≡ held
  leaves_stop y e = leaves_here ∙ ap (λ z. held_if z (held_after_tell_all (drop (i + 1) rows) (held_after_tell (get_or rows i d) held)) held) (sym e)

  pub tell_holds : (start : Held) (u : Unit {0}) → held ≡ and_rows (take i rows) start → Ok u ≡ tell_answer (get_or rows i d) held → held_after_tell (get_or rows i d) held ≡ and_rows (take (i + 1) rows) start
  tell_holds unopened u p e = not_refused u NotOpened (e ∙ ap (tell_answer (get_or rows i d)) p)
  tell_holds (opened h old) u p e =
      let b = told_both h (old ++ take i rows) (get_or rows i d) u (e ∙ ap (tell_answer (get_or rows i d)) p) in
      let more : (old ++ take i rows) ++ (get_or rows i d ∷ []) ≡ old ++ take (i + 1) rows = append_assoc old (take i rows) (get_or rows i d ∷ []) ∙ ap (λ (z : List Row). old ++ z) (sym (take_more rows i d lt)) in
      ap (held_after_tell (get_or rows i d)) p ∙ rw (b.0, b.1) (ap (opened h) more)

pub tell_end : (rows : List Row) (i : ℕ) (held : Held) → length rows ≤ i → tell_all_answer (drop i rows) held ≡ Ok tt
tell_end rows i held le = ap (λ z. tell_all_answer z held) (drop_all i rows le)

pub leaves_end : (rows : List Row) (i : ℕ) (held : Held) → length rows ≤ i → held_after_tell_all (drop i rows) held ≡ held
leaves_end rows i held le = ap (λ z. held_after_tell_all z held) (drop_all i rows le)

-- a refused row leaves what was held
pub refused_held : (r : Row) (held : Held) (y : Refusal) → Err y ≡ tell_answer r held → held_after_tell r held ≡ held
refused_held r unopened y e = refl
refused_held r (opened h rows) y e = go (row_within r) (ltb (length rows) most_rows) e
  where
    go : (a b : Bool) → ◌≡◌ {A = Result (Unit {0}) Refusal} (Err y) (cond a (cond b (Ok tt) (Err TooManyRows)) (Err RowTooLarge)) → cond (a && b) (opened h (rows ++ (r ∷ []))) (opened h rows) ≡ opened h rows
    go true true e = not_refused tt y (sym e)
    go true false e = refl
    go false b e = refl
