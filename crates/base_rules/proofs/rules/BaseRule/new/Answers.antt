use Rattle.std.proofs.Common.{rules}
use Rattle.base_rules.proofs.Meant.{verdicts_mean}
use Rattle.base_rules.proofs.rules.BaseRule.new.Goals as goal

pub returns-clause-verdicts : goal.returns-clause-verdicts
returns-clause-verdicts c = search (rules, verdicts_mean)
