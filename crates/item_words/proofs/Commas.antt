-- A word cut at its commas.
use Rattle.std.proofs.Common.{◌≡◌, ℕ, zero, suc, ◌+◌, ◌<◌, Bool, true, false, cond, eqb, ◌⊎◌, List, [], ◌∷◌, ◌++◌, length, get_or, take, drop, Some, None, Option, sym, refl, ap, ◌∙◌, subst, inl, inr, arith, MatchOption}
use Rattle.std.specs.Str.Pattern.{FindsChar, IsSplitAtFirstMatch}
use Rattle.std.specs.Option.{option_map}
use Rattle.std.specs.Str.{NoCharPasses}
use Rattle.std.proofs.lemmas.List.{take-append-drop}
use Rattle.std.proofs.lemmas.Str.Pattern.{NoCharPasses-char, drop_at_char}
use Rattle.std.proofs.lemmas.Bool.Decides.{nat_tests}
use Rattle.words.proofs.Commas.{no_number}
use Rattle.words.specs.Readings.{below, number_below}
use Rattle.item_words.specs.Items.{in_first, fields, then_read, price_field, demand_field, row_of, row_word}
use Rattle.words.specs.Readings.{limited}

-- no comma stands in xs
abbrev pub Free : List ℕ → Type 0
Free xs = (i : ℕ) → i < length xs → get_or xs i 0 ≡ 44 → ⊥

free_first : (b : ℕ) (bs : List ℕ) → Free (b ∷ bs) → eqb b 44 ≡ false
free_first b bs h = let n = h 0 (omega arith) in grind (arith, nat_tests)

free_rest : (b : ℕ) (bs : List ℕ) → Free (b ∷ bs) → Free bs
free_rest b bs h i l e = h (suc i) (omega arith) e

free_more : (b : ℕ) (bs : List ℕ) → eqb b 44 ≡ false → Free bs → Free (b ∷ bs)
free_more b bs e h zero l z = let n : b ≡ 44 = z in absurd (grind (arith, nat_tests))
free_more b bs e h (suc i) l z = h i (omega arith) z

pub fields_last : (xs : List ℕ) → Free xs → fields xs ≡ xs ∷ []
fields_last [] h = refl
fields_last (b ∷ bs) h = let e = free_first b bs h in let r = fields_last bs (free_rest b bs h) in rw (e, r)

pub fields_front : (xs rest : List ℕ) → Free xs → fields (xs ++ 44 ∷ rest) ≡ xs ∷ fields rest
fields_front [] rest h = refl
fields_front (b ∷ bs) rest h = let e = free_first b bs h in let r = fields_front bs rest (free_rest b bs h) in rw (e, r)

SomeFields : List (List ℕ) → Type 0
SomeFields fs = (g : List ℕ) × (gs : List (List ℕ)) × (fs ≡ g ∷ gs)

some_first : (b : ℕ) (fs : List (List ℕ)) (t : Bool) → SomeFields (cond t ([] ∷ fs) (in_first b fs))
unfolding SomeFields
some_first b fs true = ([], fs, refl)
some_first b [] false = (b ∷ [], [], refl)
some_first b (f ∷ fs) false = (b ∷ f, fs, refl)

fields_some : (bs : List ℕ) → SomeFields (fields bs)
unfolding SomeFields
fields_some [] = ([], [], refl)
fields_some (b ∷ bs) = some_first b (fields bs) (eqb b 44)

pub price_first : (bs f rest : List ℕ) (o : Option ℕ) → bs ≡ f ++ 44 ∷ rest → Free f → o ≡ number_below 64 f → option_map (λ n. (n, fields rest)) o ≡ price_field (fields bs)
unfolding SomeFields
price_first bs f rest o e h o_is =
    let q = fields_some rest in
    let r : fields bs ≡ f ∷ fields rest = ap fields e ∙ fields_front f rest h in
    let s : fields rest ≡ q.0 ∷ q.1 = q.2 in
    rw (r, s, o_is)

pub no_price_field : (bs : List ℕ) → Free bs → price_field (fields bs) ≡ None
no_price_field bs h = ap price_field (fields_last bs h)

is_comma : (b : ℕ) → eqb b 44 ≡ true → b ≡ 44
is_comma b e = grind (arith, nat_tests)

-- where a word is free of commas, or has a first one
pub first_comma : (bs : List ℕ) → Free bs ⊎ ((f : List ℕ) × (rest : List ℕ) × (bs ≡ f ++ 44 ∷ rest) × Free f)
first_comma [] = inl (λ i l e. omega arith)
first_comma (b ∷ bs) = by_test (eqb b 44) refl (first_comma bs)
  where
    by_test : (t : Bool) → eqb b 44 ≡ t → Free bs ⊎ ((f : List ℕ) × (rest : List ℕ) × (bs ≡ f ++ 44 ∷ rest) × Free f) → Free (b ∷ bs) ⊎ ((f : List ℕ) × (rest : List ℕ) × (b ∷ bs ≡ f ++ 44 ∷ rest) × Free f)
    by_test true e h = inr ([], bs, ap (λ x. x ∷ bs) (is_comma b e), λ i l z. omega arith)
    by_test false e (inl h) = inl (free_more b bs e h)
    by_test false e (inr q) = inr (b ∷ q.0, q.1, ap (λ x. b ∷ x) q.2, free_more b q.0 e q.3)

demand_after_comma : (bs f rest : List ℕ) → bs ≡ f ++ 44 ∷ rest → Free f → number_below 32 bs ≡ demand_field (fields bs)
unfolding SomeFields
demand_after_comma bs f rest e h =
    let q = fields_some rest in
    let r : fields bs ≡ f ∷ fields rest = ap fields e ∙ fields_front f rest h in
    let s : fields rest ≡ q.0 ∷ q.1 = q.2 in
    ap (limited (below 32)) (no_number bs f rest e) ∙ sym (ap demand_field (r ∙ ap (λ x. f ∷ x) s))

-- what has a comma in it is no demand
demand_is : (bs : List ℕ) → number_below 32 bs ≡ demand_field (fields bs)
demand_is bs =
    elim (first_comma bs) [
      | inl free ↦ sym (ap demand_field (fields_last bs free))
      | inr q ↦ demand_after_comma bs q.0 q.1 q.2 q.3
    ]

-- a row, field by field
pub row_is : (w r1 r2 r3 r4 : List ℕ) (s u h b : ℕ) (d : Option ℕ) → Some (s, fields r1) ≡ price_field (fields w) → Some (u, fields r2) ≡ price_field (fields r1)
    → Some (h, fields r3) ≡ price_field (fields r2) → Some (b, fields r4) ≡ price_field (fields r3) → d ≡ number_below 32 r4 → option_map (row_of s u h b) d ≡ row_word w
row_is w r1 r2 r3 r4 s u h b d e1 e2 e3 e4 e5 =
    ap (option_map (row_of s u h b)) (e5 ∙ demand_is r4)
    ∙ ap (λ o. then_read o (λ b. option_map (row_of s u h b.0) (demand_field b.1))) e4
    ∙ ap (λ o. then_read o (λ h. then_read (price_field h.1) (λ b. option_map (row_of s u h.0 b.0) (demand_field b.1)))) e3
    ∙ ap (λ o. then_read o (λ u. then_read (price_field u.1) (λ h. then_read (price_field h.1) (λ b. option_map (row_of s u.0 h.0 b.0) (demand_field b.1))))) e2
    ∙ ap (λ o. then_read o (λ s. then_read (price_field s.1) (λ u. then_read (price_field u.1) (λ h. then_read (price_field h.1) (λ b. option_map (row_of s.0 u.0 h.0 b.0) (demand_field b.1)))))) e1

-- ---- one part that `split` gives
free_without : (w : List ℕ) → NoCharPasses (λ d. eqb d 44) w → Free w
free_without w f i l z = NoCharPasses-char 44 w i f (omega arith) l z

parted_at : (w x : List ℕ) (live : Bool) (rest : List ℕ) (o : Option (ℕ × ℕ)) → FindsChar 44 w o
    → MatchOption o ((x ≡ w) × (live ≡ false)) (λ q. 0 < q.1 → (x ≡ take q.0 w) × (live ≡ true) × (rest ≡ drop q.1 w))
    → fields w ≡ x ∷ cond live (fields rest) []
parted_at w x live rest None f k =
    fields_last w (free_without w f) ∙ ap (λ y. y ∷ []) (sym k.0) ∙ ap (λ b. x ∷ cond b (fields rest) []) (sym k.1)
parted_at w x live rest (Some q) f k =
    let ends : q.1 ≡ q.0 + 1 = f.1.ends in
    let k' = k (omega arith) in
    let e : w ≡ take q.0 w ++ 44 ∷ drop q.1 w = sym (take-append-drop q.0 w) ∙ ap (λ y. take q.0 w ++ y) (drop_at_char 44 w q.0 q.1 f.1 (omega arith)) in
    ap fields e ∙ fields_front (take q.0 w) (drop q.1 w) (free_without (take q.0 w) f.0)
    ∙ ap (λ y. y ∷ fields (drop q.1 w)) (sym k'.0) ∙ ap (λ y. x ∷ fields y) (sym k'.2) ∙ ap (λ b. x ∷ cond b (fields rest) []) (sym k'.1)

-- what one turn over the parts of a word gives is its first field
pub parted_field : (c : ℕ) (w x : List ℕ) (live : Bool) (rest : List ℕ) → c ≡ 44 → IsSplitAtFirstMatch (FindsChar c) w x live rest → fields w ≡ x ∷ cond live (fields rest) []
parted_field c w x live rest e p =
    let p' : IsSplitAtFirstMatch (FindsChar 44) w x live rest = subst (λ d. IsSplitAtFirstMatch (FindsChar d) w x live rest) e p in
    parted_at w x live rest p'.1.0 p'.1.1 p'.1.2
