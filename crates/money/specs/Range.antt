-- Exact results, and the range in which they are kept.
use Rattle.std.specs.Prelude.{◌^◌, Bool, false, cond, ℤ, pos, negsuc, Ok, Err, Result, ◌==◌, nat_lt}
use Rattle.money.specs.declared.amounts.Amount.{Amount}
use Rattle.money.specs.declared.amounts.Kths.{Kths}
use Rattle.money.specs.declared.amounts.OutOfRange.{OutOfRange}
use Rattle.money.specs.declared.amounts.Whole.{Whole}

-- this many of a unit
abbrev pub amount : {U : Type 0} → ℤ → Amount U
amount v = record { count = v; unit = record {} }

-- whole money of this many units
abbrev pub whole : ℤ → Amount Whole
whole v = amount v

-- money of this many K-ths
abbrev pub in_kths : ℤ → Amount Kths
in_kths v = amount v

-- nothing is owed either way
abbrev pub is_zero : ℤ → Bool
is_zero (pos n) = n == 0
is_zero (negsuc n) = false

-- from -2^63 to 2^63 - 1
abbrev pub in_range : ℤ → Bool
in_range (pos n) = nat_lt n (2 ^ 63)
in_range (negsuc n) = nat_lt n (2 ^ 63)

-- exactly v as money of a kind, or a refusal where v is out of range
abbrev pub exactly : {M : Type 0} → (ℤ → M) → ℤ → Result M OutOfRange
exactly kind v = cond (in_range v) (Ok (kind v)) (Err (record {}))
