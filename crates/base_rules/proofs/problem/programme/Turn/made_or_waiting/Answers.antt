use Rattle.std.proofs.Common.{mul-le-mul, rules}
use Rattle.base_rules.proofs.Steps.{told_in}
use Rattle.base_rules.proofs.problem.programme.Turn.made_or_waiting.Goals as goal

pub overflow_mul-make : goal.overflow_mul-make
overflow_mul-make c = let u = mul-le-mul ((told_in c.args.self.now.problem).1 c.args.self.now.t c.args.self.now.row).unit c.requires.few in search rules

pub overflow_add-make : goal.overflow_add-make
overflow_add-make c =
    let l = (told_in c.args.self.now.problem).1 c.args.self.now.t c.args.self.now.row in
    let u = mul-le-mul l.unit c.requires.few in
    search rules

pub overflow_add-make-2 : goal.overflow_add-make-2
overflow_add-make-2 c =
    let l = (told_in c.args.self.now.problem).1 c.args.self.now.t c.args.self.now.row in
    let u = mul-le-mul l.unit c.requires.few in
    search rules

pub overflow_mul-cost : goal.overflow_mul-cost
overflow_mul-cost c = let q = mul-le-mul ((told_in c.args.self.now.problem).1 c.args.self.now.t c.args.self.now.row).short c.requires.few in search rules

pub overflow_add-cost : goal.overflow_add-cost
overflow_add-cost c = let q = mul-le-mul ((told_in c.args.self.now.problem).1 c.args.self.now.t c.args.self.now.row).short c.requires.few in search rules
