use Rattle.std.proofs.Common.{of_calls}
use Rattle.item_words.specs.Items.{row_word}
use Rattle.item_words.specs.declared.mistakes.Misuse.TheVariants.{BadRow}
use Rattle.words.proofs.InTurn.{each_means}
use Rattle.item_words.proofs.items.row_words.Goals as goal

pub returns : goal.returns
returns c = each_means row_word BadRow _ _ c.read_each.ensures.each (λ w o k. search of_calls) (λ n m k. search of_calls)
