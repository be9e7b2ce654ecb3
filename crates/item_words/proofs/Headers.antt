-- What an answer says of the words, once its next word was there and was read.
use Rattle.std.proofs.Common.{◌≡◌, ℕ, List, [], ◌∷◌, Some, None, Ok, Err, Option, Result, String, sym, refl, ap, ◌∙◌}
use Rattle.std.specs.Borrow.{Bor}
use Rattle.std.specs.declared.alloc.Global.{Global}
use Rattle.std.specs.Option.{option_map, ok_or}
use Rattle.words.specs.Readings.{texts, first_word, word_in, number_below}

-- it was there
pub given : {A E : Type 0} (o : Option A) (e : E) (r : Result A E) (x : A) → r ≡ ok_or o e → r ≡ Ok x → o ≡ Some x
given None e r x v was = cc
given (Some y) e r x v was = cc

-- it was not
pub refused : {A E : Type 0} (o : Option A) (e : E) (r : Result A E) (x : E) → r ≡ ok_or o e → r ≡ Err x → (o ≡ None) × (x ≡ e)
refused None e r x v was = (refl, cc)
refused (Some y) e r x v was = cc

-- a word stands first
pub first_given : {E : Type 0} (ts : List (List ℕ)) (o : Option (Bor (List ℕ) × Bor (List (String Global)))) (e : E) (r : Result (Bor (List ℕ) × Bor (List (String Global))) E) (p : Bor (List ℕ) × Bor (List (String Global))) →
    option_map word_in o ≡ first_word ts → r ≡ ok_or o e → r ≡ Ok p → ts ≡ p.0.now ∷ texts p.1.now
first_given ts o e r p means v was = go ts (sym means ∙ ap (option_map word_in) (given o e r p v was))
  where
    go : (us : List (List ℕ)) → first_word us ≡ Some (word_in p) → us ≡ p.0.now ∷ texts p.1.now
    go [] k = cc
    go (w ∷ ws) k = let j : (w, ws) ≡ word_in p = cc in ap (λ q. q.0 ∷ q.1) j

-- it writes a number
pub number_given : {E : Type 0} (k : ℕ) (w : List ℕ) (o : Option ℕ) (e : E) (r : Result ℕ E) (n : ℕ) → option_map (λ n. n) o ≡ number_below k w → r ≡ ok_or o e → r ≡ Ok n → number_below k w ≡ Some n
number_given k w o e r n means v was = sym means ∙ ap (option_map (λ n. n)) (given o e r n v was)
