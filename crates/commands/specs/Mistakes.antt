-- What is wrong with the words of a command, in words.
use Rattle.std.specs.Prelude.{ℕ, List, ◌++◌, codes, decimal}
use Rattle.commands.specs.declared.mistakes.Misuse.{Misuse}
use Rattle.commands.specs.declared.mistakes.Misuse.TheVariants.{UnknownVerb, NoScale, BadScale, NoPrice, TooManyPrices, BadPrice}

-- what is wrong with the words of a command
abbrev pub misuse_text : Misuse → List ℕ
misuse_text UnknownVerb = codes "the verb is not known"
misuse_text NoScale = codes "the scale is missing"
misuse_text BadScale = codes "the scale is not a whole number from 1 to 1000"
misuse_text NoPrice = codes "the prices are missing"
misuse_text TooManyPrices = codes "there are more than 32 prices"
misuse_text (BadPrice period) = codes "the price of period " ++ (decimal period ++ codes " is not a whole number from 0 to 100000")

-- the usage that is said with it
abbrev pub usage_line : List ℕ
usage_line = codes "usage: lotaudit minute SCALE PRICE..."
