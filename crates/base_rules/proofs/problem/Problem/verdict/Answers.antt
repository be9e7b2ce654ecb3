use Rattle.std.proofs.Common.{Err, ◌∷◌, [], length, refl, sym, ap, ◌∙◌, arith, rules, length-append}
use Rattle.std.proofs.lemmas.Bool.Decides.{nat_tests}
use Rattle.base_rules.proofs.Weighs.{Low, low_at, short, goes_on}
use Rattle.base_rules.proofs.Zipped.{At, counted_turn, at_turn}
use Rattle.base_rules.proofs.problem.Problem.verdict.Goals as goal
use Rattle.base_rules.proofs.problem.Problem.verdict.Goals.{In-Some}

turn : (c : In-Some) → At c.args.self.now.rows.now c.args.plan.now (length c.loop-t.yielded) c.in-Some.t c.in-Some.row.now c.in-Some.lot.now
turn c = at_turn (counted_turn c.args.self.now.rows.now c.args.plan.now c.loop-t.yielded c.into_iter-t-iterator.result c.loop-t.t-iterator c.next.new.self (cc) (cc) (cc) c.loop-t.yielded_by _ _ c.in-Some.is c.next.ensures.steps)

low : (c : In-Some) → Low (length c.loop-t.yielded) c.in-Some.row.now c.in-Some.lot.now
low c = low_at c.args.self.now c.requires (turn c)

pub overflow_add-demanded : goal.overflow_add-demanded
overflow_add-demanded c = let low = low (goal.at.overflow_add-demanded c).In-Some in search rules

pub returns-then-made-demanded : goal.returns-then-made-demanded
returns-then-made-demanded c =
    let at = turn (goal.at.returns-then-made-demanded c).In-Some in
    ap Err (c.fault-then-made-demanded.ensures ∙ rw c.shortage.ensures) ∙ short c.args.self.now.kind c.loop-t.made c.loop-t.demanded c.loop-t.cost at (grind (arith, nat_tests)) (grind (arith, nat_tests)) ∙ sym c.loop-t.invariant.so_far

pub period_cost-cost-requires : goal.period_cost-cost-requires
period_cost-cost-requires c =
    let low = low (goal.at.period_cost-cost-requires c).In-Some in
    record { within = low.within; small = low.amount; low = omega arith; few = omega arith }

pub loop-t-preserved : goal.loop-t-preserved
loop-t-preserved c =
    let at = turn (goal.at.loop-t-preserved c).In-Some in
    let low = low (goal.at.loop-t-preserved c).In-Some in
    let longer = length-append c.loop-t.yielded ((c.in-Some.t, (c.in-Some.row, c.in-Some.lot)) ∷ []) in
    record {
      so_far = rw longer (c.loop-t.invariant.so_far ∙ goes_on _ _ _ _ at (grind (arith, nat_tests)) (grind (arith, nat_tests)) ∙ rw (c.period_cost-cost.ensures.cost, c.from-made.ensures, c.from-demanded.ensures) refl);
      made = omega arith;
      demanded = omega arith;
      cost = omega arith;
    }
