use Rattle.std.proofs.Common.{◌∙◌, rules, tests}
use Rattle.std.proofs.lemmas.Iterator.{YieldsList-from_slice}
use Rattle.std.proofs.lemmas.Iterator.Search.{position_from_yields_List}
use Rattle.item_words.proofs.Places.{is_plan, place_is}
use Rattle.item_words.proofs.items.plan_place.Goals as goal

pub returns-clause-means : goal.returns-clause-means
returns-clause-means c =
    position_from_yields_List is_plan _ _ c.position.result c.position.ensures.ran (YieldsList-from_slice c.args.words.now cc) (λ x b q k. search (rules, tests))
    ∙ place_is c.args.words.now
