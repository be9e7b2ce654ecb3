use Rattle.std.proofs.Common.{◌+◌, drop, arith}
use Rattle.std.proofs.lemmas.Grind.{common_steps}
use Rattle.std.proofs.lemmas.List.{drop_more}
use Rattle.commands.specs.Ledger.{worths}
use Rattle.commands.proofs.Balances.{stays_beyond}
use Rattle.commands.proofs.Refusals.{refused_for}
use Rattle.commands.proofs.ledger.post_all.Goals as goal

pub returns-in_err-entry-clause-cause : goal.returns-in_err-entry-clause-cause
returns-in_err-entry-clause-cause c =
    let way = c.args.posting in
    let here = drop_more c.args.times.now c.loop-period.period c.index-times-period.result c.loop-period-test.true in
    let beyond = stays_beyond way _ (worths (drop (c.loop-period.period + 1) c.args.times.now)) c.in_err-entry.ensures.cause in
    refused_for _ (grind (arith, common_steps, here, beyond))

pub loop-period-preserved : goal.loop-period-preserved
loop-period-preserved c =
    let here = drop_more c.args.times.now c.loop-period.period c.index-times-period.result c.loop-period-test.true in
    grind (arith, common_steps, here)
