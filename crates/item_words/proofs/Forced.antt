-- One forced period more.
use Rattle.std.proofs.Common.{◌≡◌, ℕ, ◌+◌, ◌*◌, ◌%◌, ◌^◌, ◌<◌, ◌≤◌, true, false, cond, List, [], ◌∷◌, Some, None, Option, sym, refl, ap, ◌∙◌, inl, inr, arith}
use lib.Bits.{bit_or}
use Rattle.std.specs.declared.str.Split.{Split}
use Rattle.std.specs.Str.Pattern.{FindsChar, IsSplitAtFirstMatch}
use Rattle.std.specs.Str.Iter.{split_text, split_has_more, split_pattern}
use Rattle.std.specs.Option.{option_map}
use Rattle.std.proofs.lemmas.Nat.{one_shl, or_comm, or_shifted, pow-add, pow_below}
use Rattle.std.proofs.lemmas.Bool.{cases_lt}
use Rattle.item_words.proofs.Commas.{parted_field}
use Rattle.item_words.specs.Items.{fields, then_read, period_field, forced_fields}

-- the fields that are left to read
abbrev pub left : Split ℕ → List (List ℕ)
left s = cond (split_has_more s) (fields (split_text s)) []

-- what a turn of the loop knows: the bits so far are below the next period's, and with those of the fields left they come to `all`
pub record Sofar (all : Option ℕ) (forced lowest : ℕ) (s : Split ℕ) : Type 0 where
  pub comma : split_pattern s ≡ 44
  pub bits : forced < 2 ^ lowest
  pub low : lowest ≤ 32
  pub rest : option_map (λ bits. forced + bits) (forced_fields lowest (left s)) ≡ all

from_zero : (o : Option ℕ) → option_map (λ bits. 0 + bits) o ≡ o
from_zero None = refl
from_zero (Some n) = ap Some (omega arith)

both_added : (a b : ℕ) (o : Option ℕ) → option_map (λ bits. a + bits) (option_map (λ bits. b + bits) o) ≡ option_map (λ bits. (a + b) + bits) o
both_added a b None = refl
both_added a b (Some n) = ap Some (omega arith)

pub none_forced : (word : List ℕ) (s : Split ℕ) → split_pattern s ≡ 44 → split_text s ≡ word → split_has_more s ≡ true → Sofar (forced_fields 0 (fields word)) 0 0 s
none_forced word s c t l =
    let e : left s ≡ fields word = ap (λ b. cond b (fields (split_text s)) []) l ∙ ap fields t in
    record { comma = c; bits = omega arith; low = omega arith; rest = ap (λ fs. option_map (λ bits. 0 + bits) (forced_fields 0 fs)) e ∙ from_zero (forced_fields 0 (fields word)) }

power_le : (i j : ℕ) → i ≤ j → 2 ^ i ≤ 2 ^ j
power_le i j h =
    elim (cases_lt i j) [
      | inl lt ↦ let p = pow_below i j lt in omega arith
      | inr ge ↦ let e : i ≡ j = omega arith in rw e (omega arith)
    ]

or_bit : (n p : ℕ) → n < 2 ^ p → p < 32 → bit_or n ((1 * 2 ^ p) % 4294967296) ≡ n + 2 ^ p
or_bit n p h l =
    let s : (1 * 2 ^ p) % 4294967296 ≡ 1 * 2 ^ p = one_shl p 32 l ∙ omega arith in
    let o = or_shifted 1 p n h in
    ap (bit_or n) s ∙ or_comm n (1 * 2 ^ p) ∙ o ∙ omega arith

module _ (all : Option ℕ) (forced lowest : ℕ) (s : Split ℕ) (so_far : Sofar all forced lowest s) where
  pub all_forced : false ≡ split_has_more s → Some forced ≡ all
  all_forced l =
      let e : left s ≡ [] = ap (λ b. cond b (fields (split_text s)) []) (sym l) in
      let n : ◌≡◌ {A = ℕ} forced (forced + 0) = omega arith in
      ap Some n ∙ sym (ap (λ fs. option_map (λ bits. forced + bits) (forced_fields lowest fs)) e) ∙ so_far.rest

  module _ (x : List ℕ) (t : Split ℕ) (l : true ≡ split_has_more s) (k : split_pattern t ≡ split_pattern s) (p : IsSplitAtFirstMatch (FindsChar (split_pattern s)) (split_text s) x (split_has_more t) (split_text t)) where
    left_more : left s ≡ x ∷ left t
    left_more =
        ap (λ b. cond b (fields (split_text s)) []) (sym l) ∙ parted_field (split_pattern s) (split_text s) x (split_has_more t) (split_text t) so_far.comma p

    here : option_map (λ bits. forced + bits) (then_read (period_field lowest x) (λ p. option_map (λ bits. 2 ^ p + bits) (forced_fields (p + 1) (left t)))) ≡ all
    here = sym (ap (λ fs. option_map (λ bits. forced + bits) (forced_fields lowest fs)) left_more) ∙ so_far.rest

    pub bad_period : None ≡ period_field lowest x → None ≡ all
    bad_period e = ap (λ o. option_map (λ bits. forced + bits) (then_read o (λ p. option_map (λ bits. 2 ^ p + bits) (forced_fields (p + 1) (left t))))) e ∙ here

    pub one_forced : (period : ℕ) → Some period ≡ period_field lowest x → lowest ≤ period → period < 32 → Sofar all (bit_or forced ((1 * 2 ^ period) % 4294967296)) (period + 1) t
    one_forced period e low high =
        let w = power_le lowest period low in
        let b = so_far.bits in
        let or : bit_or forced ((1 * 2 ^ period) % 4294967296) ≡ forced + 2 ^ period = or_bit forced period (omega arith) high in
        let d : 2 ^ (period + 1) ≡ 2 ^ period * 2 = pow-add 2 period 1 in
        record {
          comma = k ∙ so_far.comma;
          bits = rw or (omega arith);
          low = omega arith;
          rest = ap (λ n. option_map (λ bits. n + bits) (forced_fields (period + 1) (left t))) or
              ∙ sym (both_added forced (2 ^ period) (forced_fields (period + 1) (left t)))
              ∙ ap (λ o. option_map (λ bits. forced + bits) (then_read o (λ p. option_map (λ bits. 2 ^ p + bits) (forced_fields (p + 1) (left t))))) e
              ∙ here;
        }
