-- A rule's refusals.
use Rattle.std.specs.Prelude.{ℕ, List, codes}
use Rattle.item.specs.declared.records.Refusal.{Refusal}
use Rattle.item.specs.declared.records.Refusal.TheVariants.{HeaderNotKnown, CostTooHigh, NotOpened, RowTooLarge, TooManyRows, PlanDoesNotFit}

-- the number of a refusal
abbrev pub refusal_number : Refusal → ℕ
refusal_number HeaderNotKnown = 5
refusal_number CostTooHigh = 9
refusal_number NotOpened = 10
refusal_number RowTooLarge = 11
refusal_number TooManyRows = 12
refusal_number PlanDoesNotFit = 13

-- a refusal in words
abbrev pub refusal_text : Refusal → List ℕ
refusal_text HeaderNotKnown = codes "the header is not known"
refusal_text CostTooHigh = codes "the cost is above 10^17"
refusal_text NotOpened = codes "no header was opened"
refusal_text RowTooLarge = codes "a row is too large"
refusal_text TooManyRows = codes "32 rows were told already"
refusal_text PlanDoesNotFit = codes "the plan does not fit"
