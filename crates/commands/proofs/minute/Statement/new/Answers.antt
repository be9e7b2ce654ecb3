use Rattle.std.proofs.Common.{◌≡◌, pos, IfErr, rules}
use Rattle.commands.specs.declared.ledger.Posting.TheVariants.{Charge}
use Rattle.commands.specs.declared.ledger.Refusal.TheVariants.{OutOfRange}
use Rattle.commands.specs.Ledger.{worths, all_out, Beyond}
use Rattle.commands.proofs.Refusals.{memory_short}
use Rattle.commands.proofs.minute.Statement.new.Goals as goal

pub returns-in_err-ledger-clause-few : goal.returns-in_err-ledger-clause-few
returns-in_err-ledger-clause-few c = λ few.
    let cause : IfErr c.from_residual.result (λ e. e ≡ OutOfRange → Beyond Charge (all_out (pos 0) (worths c.args.times.now))) = search rules in
    memory_short _ _ few cause
