-- What a verdict with a cost says of its first row.
use Rattle.std.specs.Prelude.{◌≡◌, ℕ, ◌+◌, ◌-◌, ◌*◌, ◌≤◌, Bool, true, false, cond, not, ◌&&◌, List, ◌∷◌, Ok, Err, nat_lt, refl}
use Rattle.std.proofs.Common.{arith}
use Rattle.std.proofs.lemmas.Bool.Decides.{nat_tests}
use Rattle.item.specs.declared.records.Lot.{Lot}
use Rattle.item.specs.declared.records.Row.{Row}
use Rattle.item.specs.Verdicts.{Verdict}
use Rattle.base_rules.specs.declared.causes.Cause.{Cause}
use Rattle.base_rules.specs.declared.causes.Cause.TheVariants.{NoSetup}
use Rattle.base_rules.specs.declared.kinds.Kind.{Kind}
use Rattle.base_rules.specs.Verdicts.{period_cost, may_owe, shortage, fault_of, plus, verdict_from}

pub record Turn (kind : Kind) (t x d c : ℕ) (r : Row) (rs : List Row) (l : Lot) (ls : List Lot) : Type 0 where
  pub rest : ℕ
  pub idle : l.setup ≡ false → l.amount ≡ 0
  pub stocked : may_owe kind rs ≡ false → d + r.demand ≤ x + l.amount
  pub next : verdict_from kind (t + 1) (x + l.amount) (d + r.demand) rs ls ≡ Ok rest
  pub sum : c ≡ period_cost r l (x + l.amount) (d + r.demand) + rest

through : (n c : ℕ) (v : Verdict) → plus n v ≡ Ok c → (k : ℕ) × (v ≡ Ok k) × (c ≡ n + k)
through n c (Ok k) e = (k, refl, cc)
through n c (Err f) e = absurd cc

first : (a b : Bool) (v : Verdict) (i j : Cause) (t c : ℕ) → cond a (Err (fault_of i t)) (cond b (Err (fault_of j t)) v) ≡ Ok c → (a ≡ false) × (b ≡ false) × (v ≡ Ok c)
first true b v i j t c e = absurd cc
first false true v i j t c e = absurd cc
first false false v i j t c e = (refl, refl, e)

unmade : (b : Bool) (n : ℕ) → (not b && nat_lt 0 n) ≡ false → b ≡ false → n ≡ 0
unmade b n e f = grind (arith, nat_tests)

kept : (b : Bool) (x d : ℕ) → (not b && nat_lt x d) ≡ false → b ≡ false → d ≤ x
kept b x d e f = grind (arith, nat_tests)

pub turn : (kind : Kind) (t x d c : ℕ) (r : Row) (rs : List Row) (l : Lot) (ls : List Lot) → verdict_from kind t x d (r ∷ rs) (l ∷ ls) ≡ Ok c → Turn kind t x d c r rs l ls
turn kind t x d c r rs l ls e =
    let f = first (not l.setup && nat_lt 0 l.amount) (not (may_owe kind rs) && nat_lt (x + l.amount) (d + r.demand)) _ NoSetup (shortage kind) t c e in
    let g = through _ c _ f.2 in
    record { rest = g.0; idle = unmade _ _ f.0; stocked = kept _ _ _ f.1; next = g.1; sum = g.2 }

passed : (a b : Bool) (v : Verdict) (i j : Cause) (t n k : ℕ) → a ≡ false → b ≡ false → v ≡ Ok k → cond a (Err (fault_of i t)) (cond b (Err (fault_of j t)) (plus n v)) ≡ Ok (n + k)
passed a b v i j t n k p q e = rw (p, q, e)

no_lot_lem : (b : Bool) (n : ℕ) → (b ≡ false → n ≡ 0) → (not b && nat_lt 0 n) ≡ false
no_lot_lem true n f = refl
no_lot_lem false n f = let z = f refl in grind (arith, nat_tests)

no_debt : (b : Bool) (x d : ℕ) → (b ≡ false → d ≤ x) → (not b && nat_lt x d) ≡ false
no_debt true x d f = refl
no_debt false x d f = let z = f refl in grind (arith, nat_tests)

pub turned : (kind : Kind) (t x d k : ℕ) (r : Row) (rs : List Row) (l : Lot) (ls : List Lot) → (l.setup ≡ false → l.amount ≡ 0) → (may_owe kind rs ≡ false → d + r.demand ≤ x + l.amount) → verdict_from kind (t + 1) (x + l.amount) (d + r.demand) rs ls ≡ Ok k → verdict_from kind t x d (r ∷ rs) (l ∷ ls) ≡ Ok (period_cost r l (x + l.amount) (d + r.demand) + k)
turned kind t x d k r rs l ls idle stocked e = passed _ _ _ NoSetup (shortage kind) t _ k (no_lot_lem _ _ idle) (no_debt _ _ _ stocked) e

-- a stock of n is left
pub price_over : (r : Row) (l : Lot) (x d n : ℕ) → x ≡ d + n → period_cost r l x d ≡ cond l.setup r.setup 0 + r.unit * l.amount + r.hold * n
price_over r l x d n e =
    let a : x - d ≡ n = omega arith in
    let b : d - x ≡ 0 = omega arith in
    rw (a, b) (omega arith)

-- a shortfall of n is left
pub price_under : (r : Row) (l : Lot) (x d n : ℕ) → x + n ≡ d → period_cost r l x d ≡ cond l.setup r.setup 0 + r.unit * l.amount + r.short * n
price_under r l x d n e =
    let a : x - d ≡ 0 = omega arith in
    let b : d - x ≡ n = omega arith in
    rw (a, b) (omega arith)
