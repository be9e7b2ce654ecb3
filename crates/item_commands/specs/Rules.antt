-- The rule that an item is put to.
use Rattle.std.specs.Prelude.{◌-◌, cond, ◌==◌}
use Rattle.item.specs.declared.records.Header.{Header}
use Rattle.item.specs.Meanings.{Meaning}
use Rattle.base_rules.specs.declared.kinds.Kind.TheVariants.{Plain, Backlog}
use Rattle.base_rules.specs.Verdicts.{base_rule}

-- the rule that a header names: the plain one by 0, the backlog rule by a higher number
abbrev pub rule_named : Header → Meaning
rule_named h = cond (h.rule == 0) (base_rule Plain) (base_rule Backlog)

-- the header that the rule named is opened with: for the backlog rule the number is lowered by 1
abbrev pub header_named : Header → Header
header_named h = cond (h.rule == 0) h (record { rule = h.rule - 1; opening = h.opening; forced = h.forced })
