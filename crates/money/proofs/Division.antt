-- The division rounded up has its defining property.
use Rattle.std.proofs.Common.{◌≡◌, ℕ, zero, suc, ◌*◌, ◌/◌, ◌<◌, ◌≤◌, ℤ, pos, negsuc, ◌*ℤ◌, neg_ℤ, ◌≤ℤ◌, refl, suc-mul, mul-pos, zero-mul, div-mul-le_self, arith}
use native.Mathlib.Nat.{lt-div-mul-add}
use Rattle.std.proofs.lemmas.Int.{ints}
use Rattle.std.proofs.lemmas.Nat.{div_below, le-div}
use Rattle.money.specs.Rounding.{divided_up, RoundedUp}

neg_times : (q k : ℕ) → neg_ℤ (pos q) *ℤ pos k ≡ neg_ℤ (pos (q * k))
neg_times zero k = rw zero-mul
neg_times (suc q) k = refl

least_zero : (k : ℕ) → 1 ≤ k → (m : ℤ) → pos 0 ≤ℤ (m *ℤ pos k) → pos 0 ≤ℤ m
least_zero k h (pos m) e = omega (arith, ints)
least_zero k h (negsuc m) e = let p : 0 < suc m * k = mul-pos (omega arith) h in omega (arith, ints)

least_above : (a k : ℕ) → 1 ≤ k → (m : ℤ) → pos (suc a) ≤ℤ (m *ℤ pos k) → pos (suc (a / k)) ≤ℤ m
least_above a k h (pos m) e = let p : a < m * k = omega (arith, ints) in let d = div_below a k m h p in omega (arith, ints)
least_above a k h (negsuc m) e = omega (arith, ints)

least_below : (a k : ℕ) → 1 ≤ k → (m : ℤ) → negsuc a ≤ℤ (m *ℤ pos k) → neg_ℤ (pos (suc a / k)) ≤ℤ m
least_below a k h (pos m) e = omega (arith, ints)
least_below a k h (negsuc m) e =
    let p : suc m * k ≤ suc a = omega (arith, ints) in let d = le-div (suc m) (suc a) k h p in omega (arith, ints)

pub divided_up-RoundedUp : (v : ℤ) (k : ℕ) → 1 ≤ k → RoundedUp v k (divided_up v k)
divided_up-RoundedUp (pos zero) k h = record { reaches = let z = zero-mul k in omega (arith, ints); least = least_zero k h }
divided_up-RoundedUp (pos (suc a)) k h =
    record {
      reaches = let d = lt-div-mul-add {a = a} h in let s = suc-mul (a / k) k in omega (arith, ints);
      least = least_above a k h;
    }
divided_up-RoundedUp (negsuc a) k h =
    record {
      reaches = let d = div-mul-le_self (suc a) k in rw (neg_times (suc a / k) k) (omega (arith, ints));
      least = least_below a k h;
    }
