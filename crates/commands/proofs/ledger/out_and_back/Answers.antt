use Rattle.std.proofs.Common.{arith}
use Rattle.commands.proofs.Balances.{after_charge, restored, not_below}
use Rattle.commands.proofs.Refusals.{passed_on}
use Rattle.commands.proofs.ledger.out_and_back.Goals as goal

pub returns-in_err-post_all-clause-answer : goal.returns-in_err-post_all-clause-answer
returns-in_err-post_all-clause-answer c =
    passed_on _ _ _ _ c.from_residual.ensures.1 (λ e. let beyond = c.in_err-post_all.ensures.cause e in grind (arith, after_charge, beyond))

-- handing back never leaves the range
pub returns-in_err-post_all-2-clause-answer : goal.returns-in_err-post_all-2-clause-answer
returns-in_err-post_all-2-clause-answer c =
    passed_on _ _ _ _ c.from_residual-in_err-post_all-2.ensures.1
    (λ e. let beyond = c.in_err-post_all-2.ensures.cause e in absurd (not_below c.args.account.now.balance.count c.args.account.now.held (grind (arith, restored, beyond))))

pub returns-clause-same : goal.returns-clause-same
returns-clause-same c = grind (arith, restored)
