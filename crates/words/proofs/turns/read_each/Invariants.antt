use Rattle.std.proofs.Common.{◌≡◌, vec_len}
use Rattle.std.specs.Fn.{FnReturnsAt}
use Rattle.words.proofs.InTurn.{SoFar}
use Rattle.words.proofs.turns.read_each.Given as goal

abbrev pub invariant-loop-place : goal.invariant-loop-place
invariant-loop-place g l = SoFar (FnReturnsAt g.R.Fn l.fn.read) (goal.B-post g l.fn.bad) l.words l.place l.all.items × (vec_len l.all ≡ l.place)
