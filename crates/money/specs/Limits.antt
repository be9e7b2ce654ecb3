-- The limits of a scale, of a capacity price and of a period's minutes.
use Rattle.std.specs.Prelude.{ℕ, cond, ◌&&◌, Some, None, Option, nat_le}

-- a number, if it is from `least` to `most`
abbrev pub within : ℕ → ℕ → ℕ → Option ℕ
within least most n = cond (nat_le least n && nat_le n most) (Some n) None

-- a scale is 1 to 1,000
abbrev pub scale_of : ℕ → Option ℕ
scale_of = within 1 1000

-- a capacity price is at most 100,000 K-ths a minute
abbrev pub price_of : ℕ → Option ℕ
price_of = within 0 100000

-- a period has at most 1,000,000,000 minutes
abbrev pub minutes_of : ℕ → Option ℕ
minutes_of = within 0 1000000000
