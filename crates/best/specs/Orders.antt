-- The better of two entries under an order, and the orders of three kinds of entry.
use Rattle.std.specs.Prelude.{◌≡◌, Bool, true, false, cond, ◌&&◌, ◌||◌, Some, None, Option, ◌==◌, int_lt, nat_lt}
use Rattle.std.specs.Ordering.{is_lt}
use Rattle.std.specs.declared.cmp.Ordering.{Ordering}
use Rattle.best.specs.declared.entries.Cost.{Cost}
use Rattle.best.specs.declared.entries.Bound.{Bound}
use Rattle.best.specs.declared.entries.Candidate.{Candidate}

-- x stands strictly before y in an order
abbrev pub before : {E : Type 0} → (E → E → Ordering) → E → E → Bool
before order x y = is_lt (order x y)

-- in this order the first entry stands before the second just where `first` says so
abbrev pub Puts : {E : Type 0} → (E → E → Ordering) → (E → E → Bool) → Type 0
Puts {E} order first = (x y : E) → before order x y ≡ first x y

-- only entries that are the same tie
abbrev pub OnlySameTie : {E : Type 0} → (E → E → Bool) → Type 0
OnlySameTie {E} first = (x y : E) → first x y ≡ false → first y x ≡ false → x ≡ y

-- what an order shows: no two entries stand before each other, what stands before an entry stands before all that come after it, and only the same entries tie
pub record Ranks {E : Type 0} (first same : E → E → Bool) : Type 0 where
  pub one_way : (x y : E) → first x y ≡ true → first y x ≡ false
  pub through : (x y z : E) → first x y ≡ true → first y z ≡ true → first x z ≡ true
  pub total : (x y : E) → first x y ≡ false → first y x ≡ false → same x y ≡ true

-- the better of the older entry, if there is one, and e; at a tie the older one
abbrev pub better : {E : Type 0} → (E → E → Bool) → Option E → E → E
better first None e = e
better first (Some old) e = cond (first e old) e old

-- neither the older entry nor e stands before the better of them
abbrev pub NoneBefore : {E : Type 0} → (E → E → Bool) → Option E → E → Type 0
NoneBefore first None e = first e e ≡ false
NoneBefore first (Some old) e = (first old (better first (Some old) e) ≡ false) × (first e (better first (Some old) e) ≡ false)

-- the lower cost first
abbrev pub cost_first : Cost → Cost → Bool
cost_first x y = nat_lt x.0 y.0

-- the higher bound first
abbrev pub bound_first : Bound → Bound → Bool
bound_first x y = int_lt y.0 x.0

-- the lower cost first, and of equal costs the earlier period
abbrev pub candidate_first : Candidate → Candidate → Bool
candidate_first x y = nat_lt x.cost y.cost || (x.cost == y.cost && nat_lt x.period y.period)
