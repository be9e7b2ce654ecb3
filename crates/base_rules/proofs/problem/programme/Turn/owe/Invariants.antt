use Rattle.std.proofs.Common.{◌+◌, drop}
use Rattle.base_rules.specs.Programme.{lot_or_wait, row_at, due, cost_at}
use Rattle.base_rules.specs.Verdicts.{may_owe}
use Rattle.base_rules.proofs.Steps.{Summed}
use Rattle.base_rules.proofs.Writes.{Written}
use Rattle.base_rules.proofs.problem.programme.Turn.owe.Given as goal

abbrev pub invariant-loop-a : goal.invariant-loop-a
invariant-loop-a l =
    let rows = l.self.problem.rows.now in
    let t = l.self.t in
    record {
      units : Summed (λ r. r.demand) l.self.problem l.a (t + 1) l.n;
      written : Written (λ a. lot_or_wait (may_owe l.self.problem.kind (drop (t + 1) rows)) (row_at rows t) (due rows a (t + 1)) l.fresh (cost_at l.initial.owed a)) (t + 1) l.a l.initial.owed l.owed;
    }
