use Rattle.std.proofs.Common.{◌≡◌, ◌+◌, ◌-◌, ◌<◌, length, subst, arith}
use Rattle.base_rules.proofs.Grids.{Owes, Hands, owes_none, hands_none, owes_back, hands_back, hand_low, owed_low}
use Rattle.base_rules.proofs.problem.Problem.least.Goals as goal

pub loop-t-init : goal.loop-t-init
loop-t-init c = record { owed = owes_none c.args.self.now; hand = hands_none c.args.self.now }

pub owe-requires-clause-fresh : goal.owe-requires-clause-fresh
owe-requires-clause-fresh c = hand_low c.args.self.now c.loop-t.t c.loop-t.hand (c.loop-t.t - 1) c.loop-t.invariant.hand (omega arith)

pub owe-requires-clause-each : goal.owe-requires-clause-each
owe-requires-clause-each c = λ a le. owed_low c.args.self.now c.loop-t.t c.loop-t.owed a c.loop-t.invariant.owed (omega arith)

pub carry-requires : goal.carry-requires
carry-requires c = record { each = λ s lt. omega (arith, hand_low c.args.self.now c.loop-t.t c.loop-t.hand s c.loop-t.invariant.hand (omega arith)) }

pub loop-t-preserved : goal.loop-t-preserved
loop-t-preserved c =
    let p = c.args.self.now in
    let t = c.loop-t.t - 1 in
    let most = c.loop-t.auto.t in
    let back : c.loop-t.t ≡ t + 1 = omega arith in
    let row : t < length p.rows.now = omega arith in
    let o = subst (λ n. Owes p n c.loop-t.owed) back c.loop-t.invariant.owed in
    let h = subst (λ n. Hands p n c.loop-t.hand) back c.loop-t.invariant.hand in
    let o' = owes_back p t row c.loop-t.owed c.owe.new.owed c.loop-t.hand o h c.owe.ensures in
    record { owed = o'; hand = hands_back p t row c.loop-t.hand c.carry.new.hand c.owe.new.owed h o' c.carry.ensures }
