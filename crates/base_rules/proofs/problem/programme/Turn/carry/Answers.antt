use Rattle.std.proofs.Common.{◌+◌, ◌-◌, refl, ◌∙◌, arith, rules}
use Rattle.std.proofs.Math.Nat.{min_comm}
use Rattle.base_rules.specs.Programme.{row_at}
use Rattle.base_rules.proofs.Steps.{holding_cap, Summed, one_back}
use Rattle.base_rules.proofs.Writes.{write}
use Rattle.base_rules.proofs.problem.programme.Turn.carry.Goals as goal
use Rattle.base_rules.proofs.problem.programme.Turn.carry.Goals.{In-loop-s}

-- with the hold price of the row before
held : (c : In-loop-s) → Summed (λ r. r.hold) c.args.self.now.problem (c.loop-s.s - 1) c.args.self.now.t (c.loop-s.holding + (row_at c.args.self.now.problem.rows.now (c.loop-s.s - 1)).hold)
held c =
    let most = c.loop-s.auto.s in
    let row = c.args.self.now.row in
    one_back (λ r. r.hold) c.args.self.now.problem c.loop-s.invariant.held (omega arith) most (omega arith)

pub overflow_add-holding : goal.overflow_add-holding
overflow_add-holding c =
    let most = c.loop-s.auto.s in
    let row = c.args.self.now.row in
    let sum = (one_back (λ r. r.hold) c.args.self.now.problem c.loop-s.invariant.held (omega arith) most (omega arith)).is in
    let cap = holding_cap c.args.self.now.problem (c.loop-s.s - 1) c.args.self.now.t in
    search rules

pub kept-requires-clause-few : goal.kept-requires-clause-few
kept-requires-clause-few c =
    let sum = (held (goal.at.kept-requires-clause-few c).In-loop-s).is in
    omega (arith, holding_cap c.args.self.now.problem (c.loop-s.s - 1) c.args.self.now.t)

pub loop-s-preserved : goal.loop-s-preserved
loop-s-preserved c =
    let most = c.loop-s.auto.s in
    let row = c.args.self.now.row in
    let held = held (goal.at.loop-s-preserved c).In-loop-s in
    let w = c.loop-s.invariant.written in
    let old = w.left (c.loop-s.s - 1) (omega arith) in
    record {
      held = held;
      written = write _ _ (c.loop-s.s - 1) _ _ _ c.cheaper.result (omega arith) (omega arith) w (c.cheaper.ensures.cost ∙ min_comm _ _ ∙ rw (c.kept.ensures, held.is, old) refl);
    }
