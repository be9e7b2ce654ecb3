-- The programme's values stay small.
use Rattle.std.specs.Prelude.{ℕ, suc, ◌+◌, ◌*◌, ◌<◌, ◌≤◌, List, [], ◌∷◌, length, drop}
use Rattle.std.proofs.Common.{sym, subst, mul-le-mul, arith}
use Rattle.std.proofs.lemmas.List.{get_or-drop, length-drop}
use Rattle.item.specs.declared.records.Row.{Row}
use Rattle.base_rules.specs.declared.kinds.Kind.{Kind}
use Rattle.base_rules.specs.Verdicts.{may_owe}
use Rattle.base_rules.specs.Programme.{hand, owed, blank, row_at}
use Rattle.base_rules.specs.Bounds.{block_make}
use Rattle.base_rules.specs.Told.{Limits, Told}

abbrev Every : List Row → Type 0
Every rs = (k : ℕ) → k < length rs → Limits (row_at rs k)

make_cap : (kind : Kind) (n v : ℕ) (r : Row) (rs : List Row) → Limits r → n ≤ 3200000 → hand kind (r.unit + r.hold) rs ≤ v → owed kind n (r ∷ rs) ≤ 20000000000 + 200000000 * (n + 100000) + v
make_cap kind n v r rs l le h =
    let d : n + r.demand ≤ n + 100000 = omega (arith, l.demand) in
    let p = mul-le-mul l.unit d in
    omega (arith, l.setup, block_make (may_owe kind rs) r.short (n + r.demand) (r.setup + r.unit * (n + r.demand) + hand kind (r.unit + r.hold) rs) (owed kind (n + r.demand) rs))

pub hand_cap : (kind : Kind) (p : ℕ) (rs : List Row) → Every rs → hand kind p rs ≤ length rs * 20020000000000
hand_cap kind p [] e = omega arith
hand_cap kind p (r ∷ rs) e =
    let ih = hand_cap kind (r.unit + r.hold) rs (λ k l. e (suc k) (omega arith)) in
    let m = make_cap kind 0 _ r rs (e 0 (omega arith)) (omega arith) ih in
    omega arith

pub owed_cap : (kind : Kind) (n : ℕ) (rs : List Row) → Every rs → n ≤ 3200000 → owed kind n rs ≤ 660020000000000 + length rs * 20020000000000
owed_cap kind n [] e le = omega arith
owed_cap kind n (r ∷ rs) e le =
    let ih = hand_cap kind (r.unit + r.hold) rs (λ k l. e (suc k) (omega arith)) in
    let m = make_cap kind n _ r rs (e 0 (omega arith)) le ih in
    omega arith

pub every_drop : (rs : List Row) (t : ℕ) → Told rs → Every (drop t rs)
every_drop rs t h k l =
    let e = length-drop t rs in
    subst Limits (sym (get_or-drop t rs k blank)) (h.1 (t + k) (omega arith))
