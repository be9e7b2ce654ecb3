-- The laws that every rule shows, for known headers, up to 32 rows, demands within their limit, and prices of any size.
use Rattle.std.specs.Prelude.{◌≡◌, ℕ, zero, suc, ◌+◌, ◌*◌, ◌≤◌, Bool, true, false, cond, not, ◌&&◌, ◌||◌, Ok, Err, List, [], ◌∷◌, length, nat_le, nat_lt}
use Rattle.item.specs.declared.records.Header.{Header}
use Rattle.item.specs.declared.records.Lot.{Lot}
use Rattle.item.specs.declared.records.Row.{Row}
use Rattle.item.specs.declared.records.Fault.{Fault}
use Rattle.item.specs.Limits.{most_rows, demands_within, fits}
use Rattle.item.specs.Meanings.{Meaning}
use Rattle.item.specs.Verdicts.{Verdict}

-- a row's prices times k, then e more on its setup price and f more on its unit price
abbrev pub repriced_row : ℕ → ℕ → ℕ → Row → Row
repriced_row k e f r = record { setup = k * r.setup + e; unit = k * r.unit + f; hold = k * r.hold; short = k * r.short; demand = r.demand }

-- all prices times k, then each period's own e on its setup price and f on its unit price
abbrev pub repriced : ℕ → (ℕ → ℕ) → (ℕ → ℕ) → List Row → List Row
repriced k e f [] = []
repriced k e f (r ∷ rs) = repriced_row k (e 0) (f 0) r ∷ repriced k (λ t. e (suc t)) (λ t. f (suc t)) rs

-- the e of each period with a setup, and each period's f times its amount
abbrev pub surcharge : (ℕ → ℕ) → (ℕ → ℕ) → List Lot → ℕ
surcharge e f [] = 0
surcharge e f (l ∷ ls) = (cond l.setup (e 0) 0 + f 0 * l.amount) + surcharge (λ t. e (suc t)) (λ t. f (suc t)) ls

-- a cost times k and x more; a fault stays
abbrev pub dearer : ℕ → ℕ → Verdict → Verdict
dearer k x (Ok n) = Ok (k * n + x)
dearer k x (Err f) = Err f

-- period t of a plan has no setup
abbrev pub idle_at : ℕ → List Lot → Bool
idle_at t [] = false
idle_at zero (l ∷ ls) = not l.setup
idle_at (suc t) (l ∷ ls) = idle_at t ls

-- the plan with a setup in period t
abbrev pub with_setup : ℕ → List Lot → List Lot
with_setup t [] = []
with_setup zero (l ∷ ls) = record { amount = l.amount; setup = true } ∷ ls
with_setup (suc t) (l ∷ ls) = l ∷ with_setup t ls

-- the setup price of period t
abbrev pub setup_price : ℕ → List Row → ℕ
setup_price t [] = 0
setup_price zero (r ∷ rs) = r.setup
setup_price (suc t) (r ∷ rs) = setup_price t rs

-- a fault's cause is none of 5 to 8, and its cause, period and depth fit a byte each
abbrev pub proper_fault : Fault → Bool
proper_fault f = (nat_lt f.cause 5 || nat_lt 8 f.cause) && (nat_le f.cause 255 && (nat_le f.period 255 && nat_le f.depth 255))

-- rows of which the laws speak
abbrev pub lawful_rows : List Row → Bool
lawful_rows rows = nat_le (length rows) most_rows && demands_within rows

-- price law: other prices, the same plans admitted, faults as they were, and each cost by the same change
abbrev pub PriceLaw : (List Row → List Lot → Verdict) → Type 0
PriceLaw v =
    (rows : List Row) (plan : List Lot) (k : ℕ) (e f : ℕ → ℕ) → lawful_rows rows ≡ true → fits rows plan ≡ true → 1 ≤ k →
    v (repriced k e f rows) plan ≡ dearer k (surcharge e f plan) (v rows plan)

-- idle law: one setup more is admitted too, and costs its price
abbrev pub IdleLaw : (List Row → List Lot → Verdict) → Type 0
IdleLaw v =
    (rows : List Row) (plan : List Lot) (t n : ℕ) → lawful_rows rows ≡ true → fits rows plan ≡ true → idle_at t plan ≡ true →
    v rows plan ≡ Ok n → v rows (with_setup t plan) ≡ Ok (n + setup_price t rows)

-- supply law: some plan that fits is admitted
abbrev pub SupplyLaw : (List Row → List Lot → Verdict) → Type 0
SupplyLaw v =
    (rows : List Row) → lawful_rows rows ≡ true →
    (plan : List Lot) × (fits rows plan ≡ true) × ((n : ℕ) × (v rows plan ≡ Ok n))

-- fault law: each fault is a proper one
abbrev pub FaultLaw : (List Row → List Lot → Verdict) → Type 0
FaultLaw v =
    (rows : List Row) (plan : List Lot) (f : Fault) → lawful_rows rows ≡ true → fits rows plan ≡ true →
    v rows plan ≡ Err f → proper_fault f ≡ true

-- the laws of the verdicts on one header
pub record Lawful (v : List Row → List Lot → Verdict) : Type 0 where
  pub price : PriceLaw v
  pub idle : IdleLaw v
  pub supply : SupplyLaw v
  pub fault : FaultLaw v

-- the laws of a rule
abbrev pub Laws : Meaning → Type 0
Laws m = (h : Header) → m.knows h ≡ true → Lawful (m.verdict h)
