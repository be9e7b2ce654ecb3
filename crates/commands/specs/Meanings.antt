-- What the words of a command mean.
use Rattle.std.specs.Prelude.{ℕ, ◌*◌, cond, List, [], ◌∷◌, length, Some, None, Ok, Err, vec_items, Option, Result, Vec, ◌==◌, nat_lt}
use Rattle.std.specs.declared.alloc.Global.{Global}
use Rattle.std.specs.Option.{option_map}
use Rattle.money.specs.Limits.{scale_of, price_of}
use Rattle.money.specs.declared.priced.PricedTime.{PricedTime}
use Rattle.words.specs.Readings.{number, limited}
use Rattle.words.specs.Turns.{read_each}
use Rattle.commands.specs.declared.mistakes.Misuse.{Misuse}
use Rattle.commands.specs.declared.mistakes.Misuse.TheVariants.{NoScale, BadScale, NoPrice, TooManyPrices, BadPrice}
use Rattle.commands.specs.declared.requests.MinuteRequest.{MinuteRequest}
use Rattle.commands.specs.Ledger.{worths}

-- the scale that a word writes
abbrev pub scale_word : List ℕ → Option ℕ
scale_word word = limited scale_of (number word)

-- the capacity price that a word writes
abbrev pub price_word : List ℕ → Option ℕ
price_word word = limited price_of (number word)

-- the worth of one minute at the price that a word writes
abbrev pub minute_word : List ℕ → Option ℕ
minute_word word = option_map (λ price. price * 1) (price_word word)

-- the worth of one minute at each word's price; the lowest period with a bad price is named
abbrev pub one_minute : List (List ℕ) → Result (List ℕ) Misuse
one_minute words = read_each minute_word BadPrice 0 words

-- what the verb `minute` is asked for
pub record Minute : Type 0 where
  pub scale : ℕ
  pub worths : List ℕ

-- those worths at the scale k
abbrev pub at_scale : ℕ → Result (List ℕ) Misuse → Result Minute Misuse
at_scale k (Ok ns) = Ok (record { scale = k; worths = ns })
at_scale k (Err m) = Err m

-- the prices after a scale: 1 to 32 of them
abbrev pub price_words : Option ℕ → List (List ℕ) → Result Minute Misuse
price_words None words = Err BadScale
price_words (Some k) words = cond (length words == 0) (Err NoPrice) (cond (nat_lt 32 (length words)) (Err TooManyPrices) (at_scale k (one_minute words)))

-- the words SCALE PRICE...
abbrev pub minute_words : List (List ℕ) → Result Minute Misuse
minute_words [] = Err NoScale
minute_words (w ∷ ws) = price_words (scale_word w) ws

-- the worths of the priced times that an answer holds
abbrev pub worths_in : Vec PricedTime Global → List ℕ
worths_in times = worths (vec_items times)

-- the request that an answer holds
abbrev pub request_in : MinuteRequest → Minute
request_in q = record { scale = q.scale.number; worths = worths_in q.times }
