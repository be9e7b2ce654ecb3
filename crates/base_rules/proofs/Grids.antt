-- One turn of the programme's two tables.
use Rattle.std.proofs.Common.{◌≡◌, ℕ, zero, suc, ◌+◌, ◌-◌, ◌*◌, ◌^◌, ◌<◌, ◌≤◌, min, ltb, List, [], ◌∷◌, length, drop, replicate, sym, refl, ap, ◌∙◌, arith}
use Rattle.std.proofs.lemmas.List.{drop_all, drop_more, length-drop}
use Rattle.std.proofs.lemmas.Bool.{lt-ltb, le-ltb}
use Rattle.best.specs.declared.entries.Candidate.{Candidate}
use Rattle.item.specs.declared.records.Row.{Row}
use Rattle.base_rules.specs.declared.kinds.Kind.TheVariants.{Backlog}
use Rattle.base_rules.specs.declared.problem.Problem.{Problem}
use Rattle.base_rules.specs.Verdicts.{may_owe}
use Rattle.base_rules.specs.Programme.{lot_or_wait, hand, owed, blank, row_at, due, aged, cost_at}
use Rattle.base_rules.specs.Caps.{hand_cap, owed_cap, every_drop}
use Rattle.base_rules.proofs.Steps.{told_in, due_next, due_cap, aged_next, aged_first}

-- a candidate that makes no lot
abbrev pub no_lot : Candidate
no_lot = record { cost = 0; period = 255 }

zeros : (n a : ℕ) → cost_at (replicate n no_lot) a ≡ 0
zeros zero a = refl
zeros (suc n) zero = refl
zeros (suc n) (suc a) = zeros n a

-- the last row is the one that none follows
pub last : (rs : List Row) (t : ℕ) → ltb t (length rs - 1) ≡ may_owe Backlog (drop (t + 1) rs)
last rs t = go (drop (t + 1) rs) (length-drop (t + 1) rs)
  where
    go : (l : List Row) → length l ≡ length rs - (t + 1) → ltb t (length rs - 1) ≡ may_owe Backlog l
    go [] e = le-ltb t (length rs - 1) (omega arith)
    go (r ∷ l) e = lt-ltb t (length rs - 1) (omega arith)

module _ (p : Problem) where
  abbrev rs : List Row
  rs = p.rows.now

  -- the two tables before the rows from t on are reached
  abbrev pub Owes : ℕ → List Candidate → Type 0
  Owes t os = (a : ℕ) → a ≤ t → cost_at os a ≡ owed p.kind (due p.rows.now a t) (drop t p.rows.now)

  abbrev pub Hands : ℕ → List Candidate → Type 0
  Hands t hs = (s : ℕ) → s < t → cost_at hs s ≡ hand p.kind (aged p.rows.now s t) (drop t p.rows.now)

  pub owes_none : Owes (length p.rows.now) (replicate 32 no_lot)
  owes_none a h = zeros 32 a ∙ sym (ap (owed p.kind (due rs a (length rs))) (drop_all (length rs) rs (omega arith)))

  pub hands_none : Hands (length p.rows.now) (replicate 32 no_lot)
  hands_none s h = zeros 32 s ∙ sym (ap (hand p.kind (aged rs s (length rs))) (drop_all (length rs) rs (omega arith)))

  module _ (t : ℕ) (row : t < length p.rows.now) where
    -- the turn from t + 1 back to t
    pub owes_back : (os os' hs : List Candidate) → Owes (t + 1) os → Hands (t + 1) hs →
        ((a : ℕ) → a ≤ t → cost_at os' a ≡ lot_or_wait (may_owe p.kind (drop (t + 1) p.rows.now)) (row_at p.rows.now t) (due p.rows.now a (t + 1)) (cost_at hs t) (cost_at os a)) →
        Owes t os'
    owes_back os os' hs o h new a le =
        let first : drop t rs ≡ row_at rs t ∷ drop (t + 1) rs = drop_more rs t blank row in
        let next = due_next rs a t row le in
        let made : cost_at hs t ≡ hand p.kind ((row_at rs t).unit + (row_at rs t).hold) (drop (t + 1) rs) = h t (omega arith) ∙ ap (λ n. hand p.kind n (drop (t + 1) rs)) (aged_first rs t row) in
        let old = o a (omega arith) in
        new a le ∙ rw (made, old, next, first) refl

    pub hands_back : (hs hs' os' : List Candidate) → Hands (t + 1) hs → Owes t os' →
        ((s : ℕ) → s < t → cost_at hs' s ≡ min (aged p.rows.now s t * (row_at p.rows.now t).demand + cost_at hs s) (cost_at os' t)) →
        Hands t hs'
    hands_back hs hs' os' h o new s lt =
        let first : drop t rs ≡ row_at rs t ∷ drop (t + 1) rs = drop_more rs t blank row in
        let next = aged_next rs s t row (omega arith) in
        let none : due rs t t ≡ 0 = omega arith in
        let fresh : cost_at os' t ≡ owed p.kind 0 (drop t rs) = o t (omega arith) ∙ ap (λ n. owed p.kind n (drop t rs)) none in
        let old = h s (omega arith) in
        new s lt ∙ rw (fresh, old, next, first) refl

  pub hand_low : (t : ℕ) (hs : List Candidate) (s : ℕ) → Hands t hs → s < t → cost_at hs s ≤ 2 ^ 61
  hand_low t hs s h lt =
      let few = p.few in
      omega (arith, h s lt, hand_cap p.kind (aged rs s t) (drop t rs) (every_drop rs t (told_in p)), length-drop t rs)

  pub owed_low : (t : ℕ) (os : List Candidate) (a : ℕ) → Owes t os → a ≤ t → cost_at os a ≤ 2 ^ 62
  owed_low t os a o le =
      let few = p.few in
      omega (arith, o a le, owed_cap p.kind (due rs a t) (drop t rs) (every_drop rs t (told_in p)) (due_cap p a t), length-drop t rs)
