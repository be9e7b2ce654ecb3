-- The causes of a base rule's faults, their numbers and their words.
use Rattle.std.specs.Prelude.{ℕ, cond, List, ◌++◌, Ok, Err, codes, decimal, Result, ◌==◌}
use Rattle.base_rules.specs.declared.causes.Cause.{Cause}
use Rattle.base_rules.specs.declared.causes.Cause.TheVariants.{NoSetup, BelowZero, BelowZeroAtTheEnd}
use Rattle.base_rules.specs.declared.causes.UnknownCause.{UnknownCause}

-- the number of a cause
abbrev pub cause_number : Cause → ℕ
cause_number NoSetup = 1
cause_number BelowZero = 2
cause_number BelowZeroAtTheEnd = 3

-- the cause with this number, or an error with a number that no cause has
abbrev pub cause_numbered : ℕ → Result Cause UnknownCause
cause_numbered n =
    cond (n == cause_number NoSetup) (Ok NoSetup)
    (cond (n == cause_number BelowZero) (Ok BelowZero) (cond (n == cause_number BelowZeroAtTheEnd) (Ok BelowZeroAtTheEnd) (Err (record { 0 = n }))))

-- a cause in words
abbrev pub cause_text : Cause → List ℕ
cause_text NoSetup = codes "an amount without a setup"
cause_text BelowZero = codes "stock below zero"
cause_text BelowZeroAtTheEnd = codes "stock below zero after the last row"

-- a number that is no cause's, in words
abbrev pub unknown_text : UnknownCause → List ℕ
unknown_text u = decimal u.0 ++ codes " is no cause of a fault"
