-- The limits of rows and plans.
use Rattle.std.specs.Prelude.{ℕ, Bool, true, ◌&&◌, List, [], ◌∷◌, length, ◌==◌, nat_le}
use Rattle.item.specs.declared.records.Lot.{Lot}
use Rattle.item.specs.declared.records.Row.{Row}

-- the most rows that a rule is told
abbrev pub most_rows : ℕ
most_rows = 32

-- the largest demand of a row
abbrev pub most_demand : ℕ
most_demand = 100000

-- the largest amount of a plan that fits
abbrev pub most_amount : ℕ
most_amount = 3200000

-- the highest cost that a rule names
abbrev pub most_cost : ℕ
most_cost = 100000000000000000

-- a row within its limits
abbrev pub row_within : Row → Bool
row_within r = nat_le r.setup 20000000000 && (nat_le r.unit 200000000 && (nat_le r.hold 100000000 && (nat_le r.short 100000000 && nat_le r.demand most_demand)))

-- each row within its limits
abbrev pub rows_within : List Row → Bool
rows_within [] = true
rows_within (r ∷ rs) = row_within r && rows_within rs

-- each demand within its limit, whatever the prices
abbrev pub demands_within : List Row → Bool
demands_within [] = true
demands_within (r ∷ rs) = nat_le r.demand most_demand && demands_within rs

-- no amount above m
abbrev pub amounts_up_to : ℕ → List Lot → Bool
amounts_up_to m [] = true
amounts_up_to m (l ∷ ls) = nat_le l.amount m && amounts_up_to m ls

-- a plan fits rows: one lot for each of them, each amount within its limit
abbrev pub fits : List Row → List Lot → Bool
fits rows plan = length plan == length rows && amounts_up_to most_amount plan
