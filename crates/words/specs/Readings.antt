-- What words mean: their bytes, the numbers that they write, and the answer that was meant.
use Rattle.std.specs.Prelude.{◌≡◌, ℕ, ◌^◌, cond, ◌&&◌, List, [], ◌∷◌, map, length, Some, None, Ok, Err, string_bytes, Option, Result, String, nat_lt}
use Rattle.std.specs.Borrow.{Bor}
use Rattle.std.specs.declared.alloc.Global.{Global}
use Rattle.std.specs.Str.Parse.{without_leading_plus, digits_value}
use Rattle.std.specs.Str.{all_ascii_digits}
use Rattle.words.specs.declared.errors.CommandError.{CommandError}
use Rattle.words.specs.declared.errors.CommandError.TheVariants.{Memory, Misused}

-- the bytes of each word
abbrev pub texts : List (String Global) → List (List ℕ)
texts words = map string_bytes words

-- the number that a word of decimal digits writes, with or without a plus in front
abbrev pub number : List ℕ → Option ℕ
number word = cond (nat_lt 0 (length (without_leading_plus word)) && all_ascii_digits (without_leading_plus word)) (Some (digits_value 10 (without_leading_plus word))) None

-- a number, if there is one, under a limit
abbrev pub limited : (ℕ → Option ℕ) → Option ℕ → Option ℕ
limited limit None = None
limited limit (Some n) = limit n

-- n, if it has at most k bits
abbrev pub below : ℕ → ℕ → Option ℕ
below k n = cond (nat_lt n (2 ^ k)) (Some n) None

-- the number of at most k bits that a word writes
abbrev pub number_below : ℕ → List ℕ → Option ℕ
number_below k word = limited (below k) (number word)

-- the first word, and those after it
abbrev pub first_word : List (List ℕ) → Option (List ℕ × List (List ℕ))
first_word [] = None
first_word (w ∷ ws) = Some (w, ws)

-- the word and the words after it that an answer holds
abbrev pub word_in : Bor (List ℕ) × Bor (List (String Global)) → List ℕ × List (List ℕ)
word_in p = (p.0.now, texts p.1.now)

-- r is what was meant, by what `held` reads of it, unless memory was short
abbrev pub Means : {X Y M : Type 0} → (X → Y) → Result X (CommandError M) → Result Y M → Type 0
Means held (Ok x) meant = meant ≡ Ok (held x)
Means held (Err Memory) meant = Unit {0}
Means held (Err (Misused m)) meant = meant ≡ Err m
