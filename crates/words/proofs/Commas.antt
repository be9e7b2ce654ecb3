-- What has a comma in it is no number.
use Rattle.std.proofs.Common.{◌≡◌, ℕ, Bool, true, false, cond, ◌&&◌, eqb, List, [], ◌∷◌, ◌++◌, drop, Some, None, refl, ap, ◌∙◌}
use Rattle.std.specs.Str.Parse.{without_leading_plus, digits_value}
use Rattle.std.specs.Str.{all_ascii_digits}
use Rattle.words.specs.Parsed.{test}
use Rattle.words.specs.Readings.{number}

and_false : (b : Bool) → (b && false) ≡ false
and_false true = refl
and_false false = refl

comma_no_digit : (xs rest : List ℕ) → all_ascii_digits (xs ++ 44 ∷ rest) ≡ false
comma_no_digit [] rest = refl
comma_no_digit (x ∷ xs) rest = let h = comma_no_digit xs rest in rw h (and_false _)

no_numeral : (xs rest : List ℕ) → test (xs ++ 44 ∷ rest) ≡ false
unfolding test
no_numeral xs rest = let h = comma_no_digit xs rest in rw h (and_false _)

after_sign : (b : Bool) (x : ℕ) (xs rest : List ℕ) → test (drop (cond b 1 0) (x ∷ (xs ++ 44 ∷ rest))) ≡ false
after_sign true x xs rest = no_numeral xs rest
after_sign false x xs rest = no_numeral (x ∷ xs) rest

not_numeral : (xs rest : List ℕ) → test (without_leading_plus (xs ++ 44 ∷ rest)) ≡ false
not_numeral [] rest = no_numeral [] rest
not_numeral (x ∷ xs) rest = after_sign (eqb x 43) x xs rest

pub no_number : (bs f rest : List ℕ) → bs ≡ f ++ 44 ∷ rest → number bs ≡ None
unfolding test
no_number bs f rest e =
    ap number e ∙ ap (λ b. cond b (Some (digits_value 10 (without_leading_plus (f ++ 44 ∷ rest)))) None) (not_numeral f rest)
