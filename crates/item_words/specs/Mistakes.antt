-- What is wrong with the words of an item, in words.
use Rattle.std.specs.Prelude.{ℕ, List, ◌++◌, codes, decimal}
use Rattle.item_words.specs.declared.mistakes.Misuse.{Misuse}
use Rattle.item_words.specs.declared.mistakes.Misuse.TheVariants.{UnknownVerb, NoRule, BadRule, NoOpening, BadOpening, NoForced, BadForced, BadRow, NoPlan, BadLot}

-- what is wrong with the words of an item
abbrev pub misuse_text : Misuse → List ℕ
misuse_text UnknownVerb = codes "the verb is not known"
misuse_text NoRule = codes "the rule is missing"
misuse_text BadRule = codes "the rule is not a whole number from 0 to 255"
misuse_text NoOpening = codes "the opening stock is missing"
misuse_text BadOpening = codes "the opening stock is not a whole number from 0 to 4294967295"
misuse_text NoForced = codes "the forced periods are missing"
misuse_text BadForced = codes "the forced periods are neither - nor periods from 0 to 31, rising and joined by commas"
misuse_text (BadRow period) = codes "the row of period " ++ (decimal period ++ codes " is not five whole numbers joined by commas")
misuse_text NoPlan = codes "the word plan is missing"
misuse_text (BadLot period) = codes "the lot of period " ++ (decimal period ++ codes " is neither - nor an amount, with or without ! behind it")

-- where the usage is found
abbrev pub usage_hint : List ℕ
usage_hint = codes "run lotaudit alone for its usage"
