use Rattle.base_rules.proofs.Grids.{Owes, Hands}
use Rattle.base_rules.proofs.problem.Problem.least.Given as goal

abbrev pub invariant-loop-t : goal.invariant-loop-t
invariant-loop-t l = record { owed : Owes l.self l.t l.owed; hand : Hands l.self l.t l.hand }
