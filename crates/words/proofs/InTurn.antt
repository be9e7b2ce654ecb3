-- One word more that reads.
use Rattle.std.proofs.Common.{◌≡◌, ℕ, ◌+◌, ◌<◌, ◌≤◌, List, [], ◌∷◌, ◌++◌, map, length, get_or, drop, Some, None, Ok, Err, string_bytes, vec_items, Option, Result, Vec, String, sym, refl, ap, ◌∙◌, subst, inl, inr, append_assoc, append-nil}
use Rattle.std.specs.declared.alloc.Global.{Global}
use Rattle.std.specs.Option.{option_map}
use Rattle.std.proofs.lemmas.Iterator.Adapters.{option_map_id}
use Rattle.std.proofs.lemmas.List.{drop_all, map-id}
use Rattle.words.specs.declared.errors.CommandError.{CommandError}
use Rattle.words.specs.declared.errors.CommandError.TheVariants.{Memory, Misused}
use Rattle.words.specs.Readings.{texts, Means}
use Rattle.words.specs.Turns.{read_each, ReadEach, AnswersEach, EachRead}
use Rattle.words.proofs.Lists.{drop_here}

-- what was read, before what the words to come read as
abbrev pub before : {X M : Type 0} → List X → Result (List X) M → Result (List X) M
before xs (Ok ys) = Ok (xs ++ ys)
before xs (Err m) = Err m

module _ {X M : Type 0} (reads : List ℕ → Option X → Type 0) (bad : ℕ → M → Type 0) (words : List (String Global)) where
  -- what a turn of the loop knows: the words before place n were read as xs
  abbrev pub SoFar : ℕ → List X → Type 0
  SoFar n xs = (r : Result (List X) M) → ReadEach reads bad n (texts (drop n words)) r → ReadEach reads bad 0 (texts words) (before xs r)

  pub none_read : (xs : List X) → xs ≡ [] → SoFar 0 xs
  none_read xs e (Ok ys) h = rw e h
  none_read xs e (Err m) h = h

  module _ (n : ℕ) (xs : List X) (so_far : SoFar n xs) where
    pub all_read : length words ≤ n → ReadEach reads bad 0 (texts words) (Ok xs)
    all_read h = subst (λ ys. ReadEach reads bad 0 (texts words) (Ok ys)) (append-nil xs) (so_far (Ok []) (rw (drop_all n words h) tt))

    module _ (w : String Global) (text : List ℕ) (h : n < length words) (w_is : w ≡ get_or words n w) (t_is : text ≡ string_bytes w) where
      here : texts (drop n words) ≡ text ∷ texts (drop (n + 1) words)
      here = ap texts (drop_here words n w h w_is) ∙ ap (λ t. t ∷ texts (drop (n + 1) words)) (sym t_is)

      pub bad_read : (m : M) → reads text None → bad n m → ReadEach reads bad 0 (texts words) (Err m)
      bad_read m none named = so_far (Err m) (rw here (inl (none, named)))

      pub one_read : (x : X) (more : List X) → reads text (Some x) → more ≡ xs ++ x ∷ [] → SoFar (n + 1) more
      one_read x more one m (Ok ys) k =
          subst (λ zs. ReadEach reads bad 0 (texts words) (Ok zs)) (sym (append_assoc xs (x ∷ []) ys) ∙ ap (λ zs. zs ++ ys) (sym m)) (so_far (Ok (x ∷ ys)) (rw here (one, k)))
      one_read x more one m (Err e) k = so_far (Err e) (rw here (inr (x, one, k)))

-- what is read, by what `held` reads of it
abbrev pub read_by : {X Y M : Type 0} → (X → Y) → Result (List X) M → Result (List Y) M
read_by held (Ok xs) = Ok (map held xs)
read_by held (Err m) = Err m

-- where what may be read of a word, and said of a place, is what is meant
module _ {X Y M : Type 0} (held : X → Y) (meant : List ℕ → Option Y) (mistake : ℕ → M) (reads : List ℕ → Option X → Type 0) (bad : ℕ → M → Type 0)
    (as_meant : (w : List ℕ) (o : Option X) → reads w o → option_map held o ≡ meant w)
    (as_named : (n : ℕ) (m : M) → bad n m → m ≡ mistake n) where
  each_by : (n : ℕ) (ws : List (List ℕ)) (r : Result (List X) M) → ReadEach reads bad n ws r → read_each meant mistake n ws ≡ read_by held r
  each_by n [] (Ok []) h = refl
  each_by n [] (Ok (x ∷ xs)) h = absurd h
  each_by n [] (Err m) h = absurd h
  each_by n (w ∷ ws) (Ok []) h = absurd h
  each_by n (w ∷ ws) (Ok (x ∷ xs)) h =
      let e = each_by (n + 1) ws (Ok xs) h.1 in
      let o = as_meant w (Some x) h.0 in
      rw (e, sym o) refl
  each_by n (w ∷ ws) (Err m) h =
      elim h [
        | inl p ↦ let o = as_meant w None p.0 in rw (sym o) (ap Err (sym (as_named n m p.1)))
        | inr p ↦ let e = each_by (n + 1) ws (Err m) p.2 in let o = as_meant w (Some p.0) p.1 in rw (e, sym o) refl
      ]

  means_by : (ws : List (List ℕ)) (r : Result (Vec X Global) (CommandError M)) → AnswersEach reads bad ws r → Means (λ v. map held (vec_items v)) r (read_each meant mistake 0 ws)
  means_by ws (Ok v) h = each_by 0 ws (Ok (vec_items v)) h
  means_by ws (Err Memory) h = tt
  means_by ws (Err (Misused m)) h = each_by 0 ws (Err m) h

-- what was read is what is meant, by what `held` reads of it
pub each_means_by : {X Y M : Type 0} {reads : List ℕ → Option X → Type 0} {bad : ℕ → M → Type 0} (held : X → Y) (meant : List ℕ → Option Y) (mistake : ℕ → M) (ws : List (List ℕ)) (r : Result (Vec X Global) (CommandError M)) → EachRead reads bad ws r →
    ((w : List ℕ) (o : Option X) → reads w o → option_map held o ≡ meant w) → ((n : ℕ) (m : M) → bad n m → m ≡ mistake n) →
    Means (λ v. map held (vec_items v)) r (read_each meant mistake 0 ws)
each_means_by held meant mistake ws r h as_meant as_named = means_by held meant mistake _ _ as_meant as_named ws r h.answers

-- the same as it is
pub each_means : {X M : Type 0} {reads : List ℕ → Option X → Type 0} {bad : ℕ → M → Type 0} (meant : List ℕ → Option X) (mistake : ℕ → M) (ws : List (List ℕ)) (r : Result (Vec X Global) (CommandError M)) → EachRead reads bad ws r →
    ((w : List ℕ) (o : Option X) → reads w o → o ≡ meant w) → ((n : ℕ) (m : M) → bad n m → m ≡ mistake n) →
    Means vec_items r (read_each meant mistake 0 ws)
each_means {X} {M} meant mistake ws r h as_meant as_named = plain r (each_means_by (λ x. x) meant mistake ws r h (λ w o k. option_map_id o ∙ as_meant w o k) as_named)
  where
    plain : (r : Result (Vec X Global) (CommandError M)) → Means (λ v. map (λ x. x) (vec_items v)) r (read_each meant mistake 0 ws) → Means vec_items r (read_each meant mistake 0 ws)
    plain (Ok v) k = k ∙ ap Ok (map-id (vec_items v))
    plain (Err Memory) k = k
    plain (Err (Misused m)) k = k
