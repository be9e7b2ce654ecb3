-- The account of priced time: what a posting comes to, and the balance after it.
use Rattle.std.specs.Prelude.{ℕ, ◌*◌, cond, ℤ, pos, ◌+ℤ◌, ◌-ℤ◌, Ok, Err, Result}
use Rattle.money.specs.declared.amounts.Amount.{Amount}
use Rattle.money.specs.declared.amounts.Kths.{Kths}
use Rattle.money.specs.declared.amounts.OutOfRange.{OutOfRange}
use Rattle.money.specs.declared.priced.PricedTime.{PricedTime}
use Rattle.money.specs.Range.{in_range, in_kths}

-- price × minutes, in K-ths
abbrev pub worth : PricedTime → ℕ
worth t = t.price.number * t.minutes.number

-- the balance b after a worth of n K-ths is charged
abbrev pub charged : ℤ → ℕ → ℤ
charged b n = b +ℤ pos n

-- the balance b after a worth of n K-ths is handed back
abbrev pub handed_back : ℤ → ℕ → ℤ
handed_back b n = b -ℤ pos n

-- the answer to a posting of n K-ths that would bring the balance to v: n, or a refusal where v is out of range
abbrev pub answered : ℤ → ℕ → Result (Amount Kths) OutOfRange
answered v n = cond (in_range v) (Ok (in_kths (pos n))) (Err (record {}))

-- the balance after such a posting: v, or as it was where v is out of range
abbrev pub balanced : Amount Kths → ℤ → Amount Kths
balanced old v = cond (in_range v) (in_kths v) old
