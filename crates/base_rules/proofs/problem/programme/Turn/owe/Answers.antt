use Rattle.std.proofs.Common.{◌+◌, ◌-◌, refl, ◌∙◌, arith, rules}
use Rattle.base_rules.specs.Programme.{row_at}
use Rattle.base_rules.proofs.Steps.{due_cap, Summed, one_back}
use Rattle.base_rules.proofs.Writes.{write}
use Rattle.base_rules.proofs.problem.programme.Turn.owe.Goals as goal
use Rattle.base_rules.proofs.problem.programme.Turn.owe.Goals.{In-loop-a}

-- with the demand of the row before
units : (c : In-loop-a) → Summed (λ r. r.demand) c.args.self.now.problem (c.loop-a.a - 1) (c.args.self.now.t + 1) (c.loop-a.n + (row_at c.args.self.now.problem.rows.now (c.loop-a.a - 1)).demand)
units c =
    let most = c.loop-a.auto.a in
    let row = c.args.self.now.row in
    one_back (λ r. r.demand) c.args.self.now.problem c.loop-a.invariant.units (omega arith) most (omega arith)

pub overflow_add-n : goal.overflow_add-n
overflow_add-n c =
    let sum = (units (goal.at.overflow_add-n c).In-loop-a).is in
    let cap = due_cap c.args.self.now.problem (c.loop-a.a - 1) (c.args.self.now.t + 1) in
    search rules

pub made_or_waiting-requires-clause-few : goal.made_or_waiting-requires-clause-few
made_or_waiting-requires-clause-few c =
    let sum = (units (goal.at.made_or_waiting-requires-clause-few c).In-loop-a).is in
    omega (arith, due_cap c.args.self.now.problem (c.loop-a.a - 1) (c.args.self.now.t + 1))

pub loop-a-preserved : goal.loop-a-preserved
loop-a-preserved c =
    let most = c.loop-a.auto.a in
    let row = c.args.self.now.row in
    let units = units (goal.at.loop-a-preserved c).In-loop-a in
    let w = c.loop-a.invariant.written in
    let old = w.left (c.loop-a.a - 1) (omega arith) in
    record {
      units = rw c.from-n.ensures units;
      written = write _ _ (c.loop-a.a - 1) _ _ _ c.made_or_waiting.result (omega arith) (omega arith) w (c.made_or_waiting.ensures ∙ rw (c.from-n.ensures, units.is, old) refl);
    }
