use Rattle.std.proofs.Common.{rules}
use Rattle.base_rules.proofs.Steps.{told_in, keep_cap}
use Rattle.base_rules.proofs.problem.programme.Turn.kept.Goals as goal

pub overflow_add-result : goal.overflow_add-result
overflow_add-result c = let u = ((told_in c.args.self.now.problem).1 c.args.s c.requires.lot).unit in search rules

pub overflow_mul-result : goal.overflow_mul-result
overflow_mul-result c =
    let k = keep_cap c.args.self.now.problem c.args.s c.args.self.now.t c.args.holding c.requires.lot c.args.self.now.row c.requires.few in
    search rules

pub overflow_add-result-2 : goal.overflow_add-result-2
overflow_add-result-2 c =
    let k = keep_cap c.args.self.now.problem c.args.s c.args.self.now.t c.args.holding c.requires.lot c.args.self.now.row c.requires.few in
    search rules
