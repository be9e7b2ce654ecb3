-- The marks that a word may have: `-` alone, `!` at its end.
use Rattle.std.proofs.Common.{◌≡◌, ℕ, ◌+◌, ◌-◌, ◌<◌, Bool, true, false, cond, List, [], ◌∷◌, ◌++◌, length, get_or, take, drop, Some, codes, Option, sym, refl, ap, ◌∙◌, arith}
use Rattle.std.specs.Option.{option_map}
use Rattle.std.specs.Str.{bytes_eq}
use Rattle.std.proofs.lemmas.List.{length-append, take-append-drop, take_at, get_or_at, drop_more, drop_all}
use Rattle.std.proofs.lemmas.Bool.Decides.{nat_tests}
use Rattle.item.specs.declared.records.Lot.{Lot}
use Rattle.words.specs.Readings.{number_below}
use Rattle.item_words.specs.Items.{fields, forced_fields, forced_word, marked, unmarked, lot_of, lot_word}

pub forced_by_dash : (w : List ℕ) (b : Bool) → b ≡ bytes_eq w (codes "-") → cond b (Some 0) (forced_fields 0 (fields w)) ≡ forced_word w
forced_by_dash w b d = ap (λ x. cond x (Some 0) (forced_fields 0 (fields w))) d

last_place : (w x : List ℕ) → w ≡ x ++ 33 ∷ [] → length x ≡ length w - 1
last_place w x e = let l = length-append x (33 ∷ []) in let m = ap length e in omega arith

-- a word that ends with `!`
is_marked : (w x : List ℕ) → w ≡ x ++ 33 ∷ [] → marked w ≡ true
is_marked w x e =
    let n = last_place w x e in
    let g : get_or w (length w - 1) 0 ≡ 33 = ap (λ y. get_or y (length w - 1) 0) e ∙ get_or_at x 33 [] 0 (length w - 1) n in
    rw g

without_mark : (w x : List ℕ) → w ≡ x ++ 33 ∷ [] → unmarked w ≡ x
without_mark w x e = ap (take (length w - 1)) e ∙ take_at x (33 ∷ []) (length w - 1) (last_place w x e)

some_mark : (w : List ℕ) → get_or w (length w - 1) 0 ≡ 33 → 0 < length w
some_mark [] e = absurd (omega arith)
some_mark (b ∷ bs) e = omega arith

ends_marked : (w : List ℕ) → get_or w (length w - 1) 0 ≡ 33 → w ≡ unmarked w ++ 33 ∷ []
ends_marked w e =
    let s = some_mark w e in
    let d : drop (length w - 1) w ≡ get_or w (length w - 1) 0 ∷ drop (length w - 1 + 1) w = drop_more w (length w - 1) 0 (omega arith) in
    let r : drop (length w - 1 + 1) w ≡ [] = drop_all (length w - 1 + 1) w (omega arith) in
    sym (take-append-drop (length w - 1) w) ∙ ap (λ y. unmarked w ++ y) (d ∙ ap (λ y. get_or w (length w - 1) 0 ∷ y) r ∙ ap (λ b. b ∷ []) e)

-- a word that does not
not_marked : (w : List ℕ) → ((front : List ℕ) → w ≡ front ++ 33 ∷ [] → ⊥) → marked w ≡ false
not_marked w h = by_test (marked w) refl
  where
    by_test : (b : Bool) → marked w ≡ b → marked w ≡ false
    by_test false e = e
    by_test true e = let m : get_or w (length w - 1) 0 ≡ 33 = grind (arith, nat_tests) in absurd (h (unmarked w) (ends_marked w m))

module _ (w : List ℕ) (b : Bool) (d : b ≡ bytes_eq w (codes "-")) where
  by_dash : lot_word w ≡ cond b (Some (lot_of false 0)) (cond (marked w) (option_map (lot_of false) (number_below 32 (unmarked w))) (option_map (lot_of true) (number_below 32 w)))
  by_dash = ap (λ x. cond x (Some (lot_of false 0)) (cond (marked w) (option_map (lot_of false) (number_below 32 (unmarked w))) (option_map (lot_of true) (number_below 32 w)))) (sym d)

pub lot_dash : (w : List ℕ) → true ≡ bytes_eq w (codes "-") → Some (lot_of false 0) ≡ lot_word w
lot_dash w d = sym (by_dash w true d)

pub lot_marked : (w x : List ℕ) (r : Option Lot) → false ≡ bytes_eq w (codes "-") → w ≡ x ++ 33 ∷ [] → r ≡ option_map (lot_of false) (number_below 32 x) → r ≡ lot_word w
lot_marked w x r d e r_is =
    r_is ∙ ap (λ y. option_map (lot_of false) (number_below 32 y)) (sym (without_mark w x e))
    ∙ ap (λ b. cond b (option_map (lot_of false) (number_below 32 (unmarked w))) (option_map (lot_of true) (number_below 32 w))) (sym (is_marked w x e))
    ∙ sym (by_dash w false d)

pub lot_plain : (w : List ℕ) (r : Option Lot) → false ≡ bytes_eq w (codes "-") → ((front : List ℕ) → w ≡ front ++ 33 ∷ [] → ⊥) → r ≡ option_map (lot_of true) (number_below 32 w) → r ≡ lot_word w
lot_plain w r d h r_is =
    r_is
    ∙ ap (λ b. cond b (option_map (lot_of false) (number_below 32 (unmarked w))) (option_map (lot_of true) (number_below 32 w))) (sym (not_marked w h))
    ∙ sym (by_dash w false d)
