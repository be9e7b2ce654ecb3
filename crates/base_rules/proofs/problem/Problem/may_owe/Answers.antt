use Rattle.std.proofs.Common.{ltb, ap, ◌∙◌}
use Rattle.base_rules.proofs.Grids.{last}
use Rattle.base_rules.proofs.problem.Problem.may_owe.Goals as goal

pub returns-in-Backlog : goal.returns-in-Backlog
returns-in-Backlog c = rw c.in-Backlog.is (ap (ltb c.args.t) c.saturating_sub.ensures ∙ last c.args.self.now.rows.now c.args.t)
