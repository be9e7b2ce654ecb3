use Rattle.std.proofs.Common.{Some, None}
use Rattle.item_words.proofs.Commas.{row_is}
use Rattle.item_words.proofs.items.row_word.Goals as goal

pub returns-in_err-demand : goal.returns-in_err-demand
returns-in_err-demand c =
    rw c.from_residual-in_err-demand.ensures
    (row_is c.args.word.now c.in_ok-setup.rest.now c.in_ok-unit.rest.now c.in_ok-hold.rest.now c.in_ok-short.rest.now
    c.in_ok-setup.setup c.in_ok-unit.unit c.in_ok-hold.hold c.in_ok-short.short None
    c.in_ok-setup.ensures c.in_ok-unit.ensures c.in_ok-hold.ensures c.in_ok-short.ensures c.in_err-demand.ensures)

pub returns : goal.returns
returns c =
    row_is c.args.word.now c.in_ok-setup.rest.now c.in_ok-unit.rest.now c.in_ok-hold.rest.now c.in_ok-short.rest.now
    c.in_ok-setup.setup c.in_ok-unit.unit c.in_ok-hold.hold c.in_ok-short.short (Some c.in_ok-demand.demand)
    c.in_ok-setup.ensures c.in_ok-unit.ensures c.in_ok-hold.ensures c.in_ok-short.ensures c.in_ok-demand.ensures
