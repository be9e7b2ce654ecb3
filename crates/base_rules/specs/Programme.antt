-- The programmes that find the least cost of the base rules, from the last row back (Wagner and Whitin 1958; Zangwill 1969).
use Rattle.std.specs.Prelude.{ℕ, zero, suc, ◌+◌, ◌-◌, ◌*◌, min, Bool, true, false, List, [], ◌∷◌, get_or, take, sum_by, slice_index_or}
use Rattle.best.specs.declared.entries.Candidate.{Candidate}
use Rattle.item.specs.declared.records.Row.{Row}
use Rattle.base_rules.specs.declared.kinds.Kind.{Kind}
use Rattle.base_rules.specs.Verdicts.{may_owe}

-- n units are owed at the end of a row: they are made in it, or they wait at the short price if they may, or there are none
abbrev pub block : Bool → ℕ → ℕ → ℕ → ℕ → ℕ
block true short n make wait = min make (short * n + wait)
block false short zero make wait = min make wait
block false short (suc n) make wait = make

-- a row at whose end n units are owed, its demand among them: they are made now, or wait; later and wait are what the rows after it then come to
abbrev pub lot_or_wait : Bool → Row → ℕ → ℕ → ℕ → ℕ
lot_or_wait may r n later wait = block may r.short n (r.setup + r.unit * n + later) wait

abbrev mutual
  -- the least for these rows when a unit is at hand at the price p
  pub hand : Kind → ℕ → List Row → ℕ
  hand kind p [] = 0
  hand kind p (r ∷ rs) =
      min (p * r.demand + hand kind (p + r.hold) rs)
      (lot_or_wait (may_owe kind rs) r (0 + r.demand) (hand kind (r.unit + r.hold) rs) (owed kind (0 + r.demand) rs))

  -- the least for these rows when n units are owed and none is at hand
  pub owed : Kind → ℕ → List Row → ℕ
  owed kind n [] = 0
  owed kind n (r ∷ rs) = lot_or_wait (may_owe kind rs) r (n + r.demand) (hand kind (r.unit + r.hold) rs) (owed kind (n + r.demand) rs)

-- a row of zeros, which stands where there is none
abbrev pub blank : Row
blank = record { setup = 0; unit = 0; hold = 0; short = 0; demand = 0 }

-- the row of period t
abbrev pub row_at : List Row → ℕ → Row
row_at rows t = slice_index_or rows t blank

-- the demands of periods a up to t
abbrev pub due : List Row → ℕ → ℕ → ℕ
due rows a t = sum_by (λ r. r.demand) (take t rows) - sum_by (λ r. r.demand) (take a rows)

-- the hold prices of periods s up to t
abbrev pub holding : List Row → ℕ → ℕ → ℕ
holding rows s t = sum_by (λ r. r.hold) (take t rows) - sum_by (λ r. r.hold) (take s rows)

-- the price at t of a unit made in period s
abbrev pub aged : List Row → ℕ → ℕ → ℕ
aged rows s t = (row_at rows s).unit + holding rows s t

-- the cost of the candidate in place i
abbrev pub cost_at : List Candidate → ℕ → ℕ
cost_at candidates i = (get_or candidates i (record { cost = 0; period = 0 })).cost
