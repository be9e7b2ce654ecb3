-- What is printed about an item.
use Rattle.std.specs.Prelude.{ℕ, List, ◌++◌, Ok, Err, codes, decimal, Result}
use Rattle.item.specs.declared.records.Refusal.{Refusal}
use Rattle.item.specs.declared.records.Fault.{Fault}
use Rattle.item.specs.Verdicts.{Verdict}
use Rattle.base_rules.specs.declared.causes.Cause.{Cause}
use Rattle.base_rules.specs.declared.causes.UnknownCause.{UnknownCause}
use Rattle.base_rules.specs.Causes.{cause_numbered, cause_text}
use Rattle.item.specs.Refusals.{refusal_number, refusal_text}

-- what a named cause of a fault is called, and any other
abbrev pub named_text : Result Cause UnknownCause → List ℕ
named_text (Ok cause) = cause_text cause
named_text (Err u) = codes "a fault of the rule"

-- a fault, as in `fault 2, period 0, depth 0: stock below zero`
abbrev pub fault_text : Fault → List ℕ
fault_text f =
    codes "fault " ++ (decimal f.cause ++ (codes ", period " ++ (decimal f.period ++ (codes ", depth " ++ (decimal f.depth ++ (codes ": " ++ named_text (cause_numbered f.cause)))))))

-- the line of a verdict, as in `cost 110`
abbrev pub verdict_text : Verdict → List ℕ
verdict_text (Ok n) = codes "cost " ++ (decimal n ++ codes "\n")
verdict_text (Err f) = fault_text f ++ codes "\n"

-- the line of a least cost, as in `least 100`
abbrev pub least_text : ℕ → List ℕ
least_text n = codes "least " ++ (decimal n ++ codes "\n")

-- a refusal, as in `refused 5: the header is not known`
abbrev pub refused_text : Refusal → List ℕ
refused_text e = codes "refused " ++ (decimal (refusal_number e) ++ (codes ": " ++ refusal_text e))

-- a rule's answer about the least cost
abbrev pub least_answer_text : Result ℕ Refusal → List ℕ
least_answer_text (Ok n) = least_text n
least_answer_text (Err e) = refused_text e ++ codes "\n"

-- a rule's answer about a plan
abbrev pub verdict_answer_text : Result Verdict Refusal → List ℕ
verdict_answer_text (Ok v) = verdict_text v
verdict_answer_text (Err e) = refused_text e ++ codes "\n"

-- how the two verbs are used, in full
abbrev pub usage_text : List ℕ
usage_text = codes "usage: lotaudit least RULE OPENING FORCED ROW...\n  RULE is 0 for the plain rule, 1 for the backlog rule.\n  OPENING is the stock at hand before the first period.\n  FORCED is - for none, or the forced periods, rising and joined by commas, as 0,2.\n  There is a ROW for each period: its setup, unit, hold and short prices and its demand, joined by commas, as 50,0,1,2,20.\n  The least cost of a plan is answered.\nusage: lotaudit weigh RULE OPENING FORCED ROW... plan LOT...\n  There is a LOT for each period: an amount, made with a setup; an amount with ! behind it, without one; or - for neither.\n  The cost of that plan is answered, or its first fault.\n"
