-- Words that are read in turn.
use Rattle.std.specs.Prelude.{ℕ, ◌+◌, ◌⊎◌, List, [], ◌∷◌, Some, None, Ok, Err, vec_items, Option, Result, Vec}
use Rattle.std.specs.declared.alloc.Global.{Global}
use Rattle.words.specs.declared.errors.CommandError.{CommandError}
use Rattle.words.specs.declared.errors.CommandError.TheVariants.{Memory, Misused}

-- what was read at a place, before what was read after it
abbrev pub read_then : {X M : Type 0} → M → Option X → Result (List X) M → Result (List X) M
read_then bad None rest = Err bad
read_then bad (Some x) (Ok xs) = Ok (x ∷ xs)
read_then bad (Some x) (Err m) = Err m

-- what each word reads as, from a place on; the lowest place that does not read is named
abbrev pub read_each : {X M : Type 0} → (List ℕ → Option X) → (ℕ → M) → ℕ → List (List ℕ) → Result (List X) M
read_each read bad place [] = Ok []
read_each read bad place (w ∷ ws) = read_then (bad place) (read w) (read_each read bad (place + 1) ws)

-- the same where `reads` says what a word may be read as, and `bad` what may be said of a place
abbrev pub ReadEach : {X M : Type 0} → (List ℕ → Option X → Type 0) → (ℕ → M → Type 0) → ℕ → List (List ℕ) → Result (List X) M → Type 0
ReadEach reads bad place [] (Ok []) = Unit {0}
ReadEach reads bad place [] (Ok (x ∷ xs)) = ⊥
ReadEach reads bad place [] (Err m) = ⊥
ReadEach reads bad place (w ∷ ws) (Ok []) = ⊥
ReadEach reads bad place (w ∷ ws) (Ok (x ∷ xs)) = reads w (Some x) × ReadEach reads bad (place + 1) ws (Ok xs)
ReadEach {X} reads bad place (w ∷ ws) (Err m) = (reads w None × bad place m) ⊎ ((x : X) × reads w (Some x) × ReadEach reads bad (place + 1) ws (Err m))

-- that of an answer, unless memory was short
abbrev pub AnswersEach : {X M : Type 0} → (List ℕ → Option X → Type 0) → (ℕ → M → Type 0) → List (List ℕ) → Result (Vec X Global) (CommandError M) → Type 0
AnswersEach reads bad words (Ok v) = ReadEach reads bad 0 words (Ok (vec_items v))
AnswersEach reads bad words (Err Memory) = Unit {0}
AnswersEach reads bad words (Err (Misused m)) = ReadEach reads bad 0 words (Err m)

-- the same, as one fact
pub record EachRead {X M : Type 0} (reads : List ℕ → Option X → Type 0) (bad : ℕ → M → Type 0) (words : List (List ℕ)) (r : Result (Vec X Global) (CommandError M)) : Type 0 where
  pub answers : AnswersEach reads bad words r
