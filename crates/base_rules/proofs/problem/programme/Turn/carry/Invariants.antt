use Rattle.std.proofs.Common.{◌+◌, ◌*◌, min}
use Rattle.base_rules.specs.Programme.{row_at, aged, cost_at}
use Rattle.base_rules.proofs.Steps.{Summed}
use Rattle.base_rules.proofs.Writes.{Written}
use Rattle.base_rules.proofs.problem.programme.Turn.carry.Given as goal

abbrev pub invariant-loop-s : goal.invariant-loop-s
invariant-loop-s l =
    let rows = l.self.problem.rows.now in
    let t = l.self.t in
    record {
      held : Summed (λ r. r.hold) l.self.problem l.s t l.holding;
      written : Written (λ s. min (aged rows s t * (row_at rows t).demand + cost_at l.initial.hand s) l.new.cost) t l.s l.initial.hand l.hand;
    }
