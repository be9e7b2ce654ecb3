-- What each call of a rule answers, and what is held after it.
use Rattle.std.specs.Prelude.{◌≡◌, ℕ, ◌≤◌, true, cond, ◌&&◌, List, [], ◌∷◌, ◌++◌, length, Some, None, Ok, Err, Option, Result, nat_le, nat_lt}
use Rattle.item.specs.declared.records.Header.{Header}
use Rattle.item.specs.declared.records.Lot.{Lot}
use Rattle.item.specs.declared.records.Refusal.{Refusal}
use Rattle.item.specs.declared.records.Refusal.TheVariants.{HeaderNotKnown, CostTooHigh, NotOpened, RowTooLarge, TooManyRows, PlanDoesNotFit}
use Rattle.item.specs.declared.records.Row.{Row}
use Rattle.item.specs.Least.{least_cost}
use Rattle.item.specs.Limits.{most_rows, most_cost, row_within, rows_within, fits}
use Rattle.item.specs.Meanings.{Meaning, Held, unopened, opened}
use Rattle.item.specs.Verdicts.{Verdict}

-- opening a header
abbrev pub open_answer : Meaning → Header → Result (Unit {0}) Refusal
open_answer m h = cond (m.knows h) (Ok tt) (Err HeaderNotKnown)

-- after opening: a known header and no rows, else what was held
abbrev pub held_after_open : Meaning → Header → Held → Held
held_after_open m h held = cond (m.knows h) (opened h []) held

-- telling a row
abbrev pub tell_answer : Row → Held → Result (Unit {0}) Refusal
tell_answer r unopened = Err NotOpened
tell_answer r (opened h rows) = cond (row_within r) (cond (nat_lt (length rows) most_rows) (Ok tt) (Err TooManyRows)) (Err RowTooLarge)

-- after telling: one row more, unless it was refused
abbrev pub held_after_tell : Row → Held → Held
held_after_tell r unopened = unopened
held_after_tell r (opened h rows) = cond (row_within r && nat_lt (length rows) most_rows) (opened h (rows ++ (r ∷ []))) (opened h rows)

-- a number, unless it is above the highest cost that is named
abbrev pub named : ℕ → Result ℕ Refusal
named n = cond (nat_le n most_cost) (Ok n) (Err CostTooHigh)

-- a verdict, unless its cost is above the highest that is named
abbrev pub named_verdict : Verdict → Result Verdict Refusal
named_verdict (Ok n) = cond (nat_le n most_cost) (Ok (Ok n)) (Err CostTooHigh)
named_verdict (Err f) = Ok (Err f)

-- weighing a plan
abbrev pub weigh_answer : Meaning → List Lot → Held → Result Verdict Refusal
weigh_answer m plan unopened = Err NotOpened
weigh_answer m plan (opened h rows) = cond (fits rows plan) (named_verdict (m.verdict h rows plan)) (Err PlanDoesNotFit)

-- a least cost, unless none of at most the highest that is named is admitted
abbrev pub named_least : Option ℕ → Result ℕ Refusal
named_least None = Err CostTooHigh
named_least (Some n) = named n

-- asking the least
abbrev pub least_answer : Meaning → Held → Result ℕ Refusal
least_answer m unopened = Err NotOpened
least_answer m (opened h rows) = named_least (least_cost (m.verdict h) rows)

-- what a rule keeps true of the header and the rows that it holds
pub record Proper (m : Meaning) (h : Header) (rows : List Row) : Type 0 where
  pub known : m.knows h ≡ true
  pub few : length rows ≤ most_rows
  pub within : rows_within rows ≡ true

-- the same of all that it holds
abbrev pub ProperHeld : Meaning → Held → Type 0
ProperHeld m unopened = Unit {0}
ProperHeld m (opened h rows) = Proper m h rows
