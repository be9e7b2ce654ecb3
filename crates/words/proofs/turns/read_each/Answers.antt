use Rattle.std.proofs.Common.{of_calls, arith}
use Rattle.std.specs.Fn.{FnReturnsAt}
use Rattle.words.proofs.InTurn.{none_read, all_read, bad_read, one_read}
use Rattle.words.proofs.turns.read_each.Goals as goal

pub loop-place-init : goal.loop-place-init
loop-place-init g c = (none_read (FnReturnsAt g.R.Fn c.args.read) (goal.B-post g c.args.bad) c.args.words.now _ c.new-all.ensures.items, c.new-all.ensures.len)

pub returns-in_default-clause-each : goal.returns-in_default-clause-each
returns-in_default-clause-each g c = record {
  answers =
      bad_read (FnReturnsAt g.R.Fn c.args.read) (goal.B-post g c.args.bad) c.args.words.now c.loop-place.place c.loop-place.all.items c.loop-place.invariant.0
      c.index-words-place.result c.as_str.result.now c.loop-place-test.true c.index-words-place.is c.as_str.ensures.value c.bad.result (search of_calls) c.bad.ensures;
}

pub loop-place-preserved : goal.loop-place-preserved
loop-place-preserved g c = (
  one_read (FnReturnsAt g.R.Fn c.args.read) (goal.B-post g c.args.bad) c.args.words.now c.loop-place.place c.loop-place.all.items c.loop-place.invariant.0
      c.index-words-place.result c.as_str.result.now c.loop-place-test.true c.index-words-place.is c.as_str.ensures.value c.in-Some.one _ (search of_calls) c.in_ok-push.ensures.items,
  omega (arith, c.in_ok-push.ensures.len, c.loop-place.invariant.1),
)

pub returns-clause-each : goal.returns-clause-each
returns-clause-each g c = record { answers = all_read (FnReturnsAt g.R.Fn c.args.read) (goal.B-post g c.args.bad) c.args.words.now c.loop-place.place c.loop-place.all.items c.loop-place.invariant.0 c.loop-place-test.false }
