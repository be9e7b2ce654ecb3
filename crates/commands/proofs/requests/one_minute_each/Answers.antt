use Rattle.std.proofs.Common.{of_calls}
use Rattle.money.specs.Postings.{worth}
use Rattle.words.proofs.InTurn.{each_means_by}
use Rattle.commands.specs.declared.mistakes.Misuse.TheVariants.{BadPrice}
use Rattle.commands.specs.Meanings.{minute_word}
use Rattle.commands.proofs.requests.one_minute_each.Goals as goal

pub returns-clause-means : goal.returns-clause-means
returns-clause-means c = each_means_by worth minute_word BadPrice _ _ c.read_each.ensures.each (λ w o k. search of_calls) (λ n m k. search of_calls)
