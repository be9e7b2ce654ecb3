-- A word that is parsed at an unsigned type is read as the number that it writes.
use Rattle.std.proofs.Common.{◌≡◌, ℕ, ◌^◌, ◌≤◌, Bool, true, false, cond, ◌&&◌, ltb, List, length, Some, None, Ok, Err, Option, Result, sym, refl, ap, ◌∙◌, inl, inr}
use Rattle.std.specs.Str.Parse.{without_leading_plus, digits_value, IsNumeral, ParsesUnsigned}
use Rattle.std.specs.Option.{option_map}
use Rattle.std.specs.Result.{result_ok}
use Rattle.std.specs.Str.{all_ascii_digits}
use Rattle.std.proofs.lemmas.Str.Parse.{IsNumeralModel, numerals_by_value, tells_all_ascii_digits}
use Rattle.std.proofs.lemmas.Result.{OkIff-at_ok, OkIff-at_err}
use Rattle.std.proofs.lemmas.Bool.{and_from, and_parts, lt-ltb, le-ltb, ltb-true, cases_lt}
use Rattle.words.specs.Readings.{number, limited, below, number_below}

own : IsNumeralModel (λ ds. all_ascii_digits ds ≡ true) (digits_value 10)
own = numerals_by_value _ tells_all_ascii_digits

-- the test by which `number` tells a numeral
unfoldable pub test : List ℕ → Bool
test ds = ltb 0 (length ds) && all_ascii_digits ds

from_numeral : (ds : List ℕ) → IsNumeral 10 ds → test ds ≡ true
unfolding test
from_numeral ds n = and_from _ _ (lt-ltb 0 (length ds) n.0) (own.from ds n.1)

to_numeral : (ds : List ℕ) → test ds ≡ true → IsNumeral 10 ds
unfolding test
to_numeral ds e = let p = and_parts (ltb 0 (length ds)) (all_ascii_digits ds) e in (ltb-true 0 (length ds) p.0, own.to ds p.1)

module _ {E : Type 0} (k : ℕ) (limit : ℕ → Option ℕ) (bs : List ℕ) (r : Result ℕ E) (reads : ParsesUnsigned k 10 bs r) where
  pub at_number : (x : ℕ) → r ≡ Ok x → limited limit (number bs) ≡ limit x
  unfolding test
  at_number x e =
      let p = OkIff-at_ok r _ _ x reads e in
      let t = from_numeral (without_leading_plus bs) p.0.0 in
      ap (λ b. limited limit (cond b (Some (digits_value 10 (without_leading_plus bs))) None)) t ∙ ap limit (sym p.1)

  pub at_no_number : (e : E) → ((n : ℕ) → 2 ^ k ≤ n → limit n ≡ None) → r ≡ Err e → limited limit (number bs) ≡ None
  unfolding test
  at_no_number e above was = by_test (test (without_leading_plus bs)) refl
    where
      by_test : (b : Bool) → test (without_leading_plus bs) ≡ b → limited limit (cond b (Some (digits_value 10 (without_leading_plus bs))) None) ≡ None
      by_test false t = refl
      by_test true t =
          elim (cases_lt (digits_value 10 (without_leading_plus bs)) (2 ^ k)) [
            | inl low ↦ absurd (OkIff-at_err r _ _ e reads was (to_numeral (without_leading_plus bs) t, low))
            | inr high ↦ above (digits_value 10 (without_leading_plus bs)) high
          ]

-- a word that is parsed at an unsigned type of k bits
pub parsed : {E : Type 0} (k : ℕ) (bs : List ℕ) (r : Result ℕ E) → ParsesUnsigned k 10 bs r → option_map (λ n. n) (result_ok r) ≡ number_below k bs
parsed {E} k bs (Ok x) reads =
    let p = OkIff-at_ok {E = E} (Ok x) _ _ x reads refl in
    let small : ltb x (2 ^ k) ≡ true = rw p.1 (lt-ltb _ _ p.0.1) in
    sym (at_number {E = E} k (below k) bs (Ok x) reads x refl ∙ ap (λ b. cond b (Some x) None) small)
parsed {E} k bs (Err e) reads =
    sym (at_no_number {E = E} k (below k) bs (Err e) reads e (λ n high. ap (λ b. cond b (Some n) None) (le-ltb n (2 ^ k) high)) refl)
