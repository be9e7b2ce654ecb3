use Rattle.std.proofs.Common.{rules}
use Rattle.item.proofs.Leasts.{least_means, answered}
use Rattle.item.proofs.asking.Item.least.Goals as goal

pub returns-in_err-fill-clause-value : goal.returns-in_err-fill-clause-value
returns-in_err-fill-clause-value g c = least_means ((g.R.ItemRule.meaning c.args.rule.now).verdict c.args.self.now.header) _

pub returns-in_err-fill-clause-least : goal.returns-in_err-fill-clause-least
returns-in_err-fill-clause-least g c = answered _ _ _ _ (search rules)

pub returns-clause-value : goal.returns-clause-value
returns-clause-value g c = least_means ((g.R.ItemRule.meaning c.args.rule.now).verdict c.args.self.now.header) _

pub returns-clause-least : goal.returns-clause-least
returns-clause-least g c = answered _ _ _ _ (search rules)
