-- What a verdict of a base rule says of a plan, period by period.
use Rattle.std.specs.Prelude.{◌≡◌, ℕ, zero, suc, ◌+◌, ◌<◌, true, false, ◌⊎◌, List, length, Ok, Err, take, sum_by, slice_index_or}
use Rattle.item.specs.declared.records.Lot.{Lot}
use Rattle.item.specs.declared.records.Row.{Row}
use Rattle.item.specs.Least.{lot}
use Rattle.item.specs.Limits.{fits}
use Rattle.item.specs.Verdicts.{Verdict}
use Rattle.base_rules.specs.declared.kinds.Kind.{Kind}
use Rattle.base_rules.specs.declared.kinds.Kind.TheVariants.{Backlog}
use Rattle.base_rules.specs.Programme.{row_at}
use Rattle.base_rules.specs.Verdicts.{period_cost, setup_cause, short_cause, verdict}

-- the lot of period t
abbrev pub lot_at : List Lot → ℕ → Lot
lot_at plan t = slice_index_or plan t (lot 0 false)

-- what is made in the first t periods
abbrev pub made_by : List Lot → ℕ → ℕ
made_by plan t = sum_by (λ l. l.amount) (take t plan)

-- what is asked for in the first t periods
abbrev pub asked_by : List Row → ℕ → ℕ
asked_by rows t = sum_by (λ r. r.demand) (take t rows)

-- what the first t periods cost
abbrev pub cost_by : List Row → List Lot → ℕ → ℕ
cost_by rows plan zero = 0
cost_by rows plan (suc t) = cost_by rows plan t + period_cost (row_at rows t) (lot_at plan t) (made_by plan (t + 1)) (asked_by rows (t + 1))

-- period t makes something without a setup
abbrev pub LacksSetup : List Lot → ℕ → Type 0
LacksSetup plan t = ((lot_at plan t).setup ≡ false) × (0 < (lot_at plan t).amount)

-- stock is below zero after period t, where it may not be: with backlog after the last period, without it after any
abbrev pub LacksStock : Kind → List Row → List Lot → ℕ → Type 0
LacksStock kind rows plan t = (made_by plan (t + 1) < asked_by rows (t + 1)) × (kind ≡ Backlog → t + 1 ≡ length rows)

-- period t has no fault
abbrev pub Clean : Kind → List Row → List Lot → ℕ → Type 0
Clean kind rows plan t = (LacksSetup plan t → ⊥) × (LacksStock kind rows plan t → ⊥)

-- none of the first t periods has one
abbrev pub CleanTo : Kind → List Row → List Lot → ℕ → Type 0
CleanTo kind rows plan t = (s : ℕ) → s < t → Clean kind rows plan s

-- period t has a fault, and this is its cause: a setup that is lacking comes before stock that is
abbrev pub FaultAt : Kind → List Row → List Lot → ℕ → ℕ → Type 0
FaultAt kind rows plan t cause =
    (LacksSetup plan t × (cause ≡ setup_cause)) ⊎
    ((LacksSetup plan t → ⊥) × LacksStock kind rows plan t × (cause ≡ short_cause kind))

-- what a verdict says: no period has a fault and the cost is that of all periods, or the period named is the first that has one
abbrev pub VerdictMeans : Kind → List Row → List Lot → Verdict → Type 0
VerdictMeans kind rows plan (Ok n) = CleanTo kind rows plan (length rows) × (n ≡ cost_by rows plan (length rows))
VerdictMeans kind rows plan (Err f) =
    (f.period < length rows) × CleanTo kind rows plan f.period × FaultAt kind rows plan f.period f.cause × (f.depth ≡ 0)

-- the verdict on each plan that fits says what it means
abbrev pub VerdictsMean : Kind → Type 0
VerdictsMean kind = (rows : List Row) (plan : List Lot) → fits rows plan ≡ true → VerdictMeans kind rows plan (verdict kind rows plan)
