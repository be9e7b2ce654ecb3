-- The value that was computed has the defining property.
use Rattle.std.proofs.Common.{◌≡◌, arith}
use Rattle.std.proofs.lemmas.Grind.{common_steps}
use Rattle.money.specs.Rounding.{divided_up}
use Rattle.money.proofs.Division.{divided_up-RoundedUp}
use Rattle.money.proofs.amounts.ScaledMoney.rounded_up.Goals as goal

pub returns-clause-least : goal.returns-clause-least
returns-clause-least c =
    let e : c.new.result.count ≡ divided_up c.args.self.count c.args.scale.number = grind (arith, common_steps) in
    rw e (divided_up-RoundedUp c.args.self.count c.args.scale.number c.args.scale.least)
