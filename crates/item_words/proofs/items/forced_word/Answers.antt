use Rattle.std.proofs.Common.{true, false, ◌∙◌}
use Rattle.item_words.proofs.Marks.{forced_by_dash}
use Rattle.item_words.proofs.items.forced_word.Goals as goal

pub returns-then-eq : goal.returns-then-eq
returns-then-eq c = forced_by_dash c.args.word.now true c.if-eq.ensures

pub returns-else-eq : goal.returns-else-eq
returns-else-eq c = c.forced_periods.ensures ∙ forced_by_dash c.args.word.now false c.if-eq.ensures
