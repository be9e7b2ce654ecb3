use Rattle.std.proofs.Common.{◌≡◌, ◌*◌, ◌≤◌, length, drop}
use Rattle.base_rules.specs.Verdicts.{plus, verdict_from, verdict}
use Rattle.base_rules.proofs.problem.Problem.verdict.Given as goal

abbrev pub invariant-loop-t : goal.invariant-loop-t
invariant-loop-t l =
    let rows = l.self.rows.now in
    let t = length l.yielded in
    record {
      so_far : verdict l.self.kind rows l.plan ≡ plus l.cost (verdict_from l.self.kind t l.made l.demanded (drop t rows) (drop t l.plan));
      made : l.made ≤ t * 3200000;
      demanded : l.demanded ≤ t * 100000;
      cost : l.cost ≤ t * 12000000000000000;
    }
