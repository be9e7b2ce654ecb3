-- What a rule says of a plan.
use Rattle.std.specs.Prelude.{ℕ, Result}
use Rattle.item.specs.declared.records.Fault.{Fault}

-- its exact cost, or its first fault; the numbers have no upper end here
abbrev pub Verdict : Type 0
Verdict = Result ℕ Fault
