-- The one division, rounded up.
use Rattle.std.specs.Prelude.{ℕ, zero, suc, ◌/◌, ℤ, pos, negsuc, ◌*ℤ◌, neg_ℤ, ◌≤ℤ◌}

-- v divided by k and rounded up
abbrev pub divided_up : ℤ → ℕ → ℤ
divided_up (pos zero) k = pos zero
divided_up (pos (suc a)) k = pos (suc (a / k))
divided_up (negsuc a) k = neg_ℤ (pos (suc a / k))

-- n is the smallest whole number that, times k, is not below v
pub record RoundedUp (v : ℤ) (k : ℕ) (n : ℤ) : Type 0 where
  pub reaches : v ≤ℤ (n *ℤ pos k)
  pub least : (m : ℤ) → v ≤ℤ (m *ℤ pos k) → n ≤ℤ m
