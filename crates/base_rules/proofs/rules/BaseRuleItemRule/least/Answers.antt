use Rattle.std.proofs.Common.{Ok, sym, ap, ◌∙◌}
use Rattle.base_rules.specs.Exact.{least_told}
use Rattle.base_rules.proofs.rules.BaseRuleItemRule.least.Goals as goal

pub returns : goal.returns
returns c =
    let rule = c.args.self.now in
    ap Ok (c.least.ensures ∙ rw (c.new.ensures.kind, c.new.ensures.rows)) ∙ sym (least_told rule.kind rule.table.opened c.in_ok-opened.opened.now c.in_ok-opened.ensures)
