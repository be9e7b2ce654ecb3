use Rattle.std.proofs.Common.{Ok, sym, ap, ◌∙◌}
use Rattle.words.proofs.Texts.{no_words}
use Rattle.item_commands.specs.Printed.{answer}
use Rattle.item_commands.proofs.dispatch.run_item.Goals as goal

pub returns-in_default : goal.returns-in_default
returns-in_default c = ap answer (no_words c.args.words.now c.in_default.len_below) ∙ ap Ok (sym c.in_ok-from_str.ensures.ok)
