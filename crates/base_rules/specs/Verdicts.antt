-- Stock, cost and faults of one item's plan, by the plain and by the backlog rule.
use Rattle.std.specs.Prelude.{ℕ, ◌+◌, ◌-◌, ◌*◌, Bool, true, false, cond, not, ◌&&◌, List, [], ◌∷◌, Ok, Err, ◌==◌, nat_lt}
use Rattle.item.specs.declared.records.Fault.{Fault}
use Rattle.item.specs.declared.records.Header.{Header}
use Rattle.item.specs.declared.records.Lot.{Lot}
use Rattle.item.specs.declared.records.Row.{Row}
use Rattle.item.specs.Meanings.{Meaning, Held, unopened, opened}
use Rattle.item.specs.Verdicts.{Verdict}
use Rattle.base_rules.specs.declared.causes.Cause.{Cause}
use Rattle.base_rules.specs.declared.causes.Cause.TheVariants.{NoSetup, BelowZero, BelowZeroAtTheEnd}
use Rattle.base_rules.specs.declared.kinds.Kind.{Kind}
use Rattle.base_rules.specs.declared.kinds.Kind.TheVariants.{Plain, Backlog}
use Rattle.base_rules.specs.Causes.{cause_number}

-- the cost of a period after which all amounts so far are x and all demands so far d: stock is x - d, a shortfall d - x, and in ℕ a difference below zero is 0
abbrev pub period_cost : Row → Lot → ℕ → ℕ → ℕ
period_cost r l x d = cond l.setup r.setup 0 + r.unit * l.amount + r.hold * (x - d) + r.short * (d - x)

-- whether stock may be below zero after a period that these rows follow: with backlog until the last, without it never
abbrev pub may_owe : Kind → List Row → Bool
may_owe Plain rs = false
may_owe Backlog [] = false
may_owe Backlog (r ∷ rs) = true

-- the number of the cause of a fault for an amount without a setup
abbrev pub setup_cause : ℕ
setup_cause = cause_number NoSetup

-- the cause of a fault for stock below zero
abbrev pub shortage : Kind → Cause
shortage Plain = BelowZero
shortage Backlog = BelowZeroAtTheEnd

-- its number
abbrev pub short_cause : Kind → ℕ
short_cause kind = cause_number (shortage kind)

-- a fault of a period; it has depth 0
abbrev pub fault_of : Cause → ℕ → Fault
fault_of cause t = record { cause = cause_number cause; period = t; depth = 0 }

-- a verdict with a cost before it
abbrev pub plus : ℕ → Verdict → Verdict
plus n (Ok c) = Ok (n + c)
plus n (Err f) = Err f

-- the verdict on the rows from period t on, where x was made and d asked for before it; the lowest period at fault is named, in it a lot without a setup first
abbrev pub verdict_from : Kind → ℕ → ℕ → ℕ → List Row → List Lot → Verdict
verdict_from kind t x d [] ls = Ok 0
verdict_from kind t x d (r ∷ rs) [] = Ok 0
verdict_from kind t x d (r ∷ rs) (l ∷ ls) =
    let made = x + l.amount in
    let asked = d + r.demand in
    cond (not l.setup && nat_lt 0 l.amount) (Err (fault_of NoSetup t))
    (cond (not (may_owe kind rs) && nat_lt made asked) (Err (fault_of (shortage kind) t))
    (plus (period_cost r l made asked) (verdict_from kind (t + 1) made asked rs ls)))

-- the verdict on a plan that starts without stock
abbrev pub verdict : Kind → List Row → List Lot → Verdict
verdict kind = verdict_from kind 0 0 0

-- the one header that a base rule knows: rule 0, no opening stock, nothing forced
abbrev pub is_base_header : Header → Bool
is_base_header h = h.rule == 0 && (h.opening == 0 && h.forced == 0)

-- a header held, if any, is that one
abbrev pub holds_base_header : Held → Bool
holds_base_header unopened = true
holds_base_header (opened h rows) = is_base_header h

-- the base rule of a kind
abbrev pub base_rule : Kind → Meaning
base_rule kind = record { knows = is_base_header; verdict = λ _. verdict kind }
