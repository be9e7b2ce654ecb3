-- The balance after postings: it moves one way, and what is handed back undoes what was charged.
use Rattle.std.proofs.Common.{◌≡◌, ℕ, ◌*◌, ◌≤◌, true, List, [], ◌∷◌, length, ℤ, pos, negsuc, ◌-ℤ◌, sum, mul-le-mul, mul-le-mul_right, suc-mul, arith, ltb-true}
use Rattle.std.proofs.lemmas.List.Sums.{sum_by-cons}
use Rattle.std.proofs.lemmas.Int.{ints}
use Rattle.money.specs.Range.{in_range}
use Rattle.money.specs.Postings.{worth, charged, handed_back}
use Rattle.money.specs.declared.priced.PricedTime.{PricedTime}
use Rattle.commands.specs.declared.ledger.Posting.{Posting}
use Rattle.commands.specs.declared.ledger.Posting.TheVariants.{Charge, HandBack}
use Rattle.commands.specs.Ledger.{worths, balance_after, all_out, Beyond}

pub after_charge : (b : ℤ) (ns : List ℕ) → balance_after Charge b ns ≡ all_out b ns
after_charge b [] = omega (arith, ints)
after_charge b (n ∷ ns) = let h = after_charge (charged b n) ns in let s = sum_by-cons (λ x. x) n ns in omega (arith, ints)

after_hand_back : (b : ℤ) (ns : List ℕ) → balance_after HandBack b ns ≡ b -ℤ pos (sum ns)
after_hand_back b [] = omega (arith, ints)
after_hand_back b (n ∷ ns) = let h = after_hand_back (handed_back b n) ns in let s = sum_by-cons (λ x. x) n ns in omega (arith, ints)

-- charging all out and handing the same back leaves the balance where it was
pub restored : (b : ℤ) (ns : List ℕ) → balance_after HandBack (balance_after Charge b ns) ns ≡ b
restored b ns = let c = after_charge b ns in let h = after_hand_back (balance_after Charge b ns) ns in omega (arith, ints)

-- postings that go on the same way do not come back from beyond the range
pub stays_beyond : (way : Posting) (b : ℤ) (ns : List ℕ) → Beyond way b → Beyond way (balance_after way b ns)
stays_beyond Charge b ns h = let f = after_charge b ns in omega (arith, ints)
stays_beyond HandBack b ns h = let f = after_hand_back b ns in omega (arith, ints)

-- a balance in range is not below it
pub not_below : (v : ℤ) → in_range v ≡ true → Beyond HandBack v → ⊥
not_below (pos n) i h = omega (arith, ints)
not_below (negsuc n) i h = omega (arith, ints, ltb-true)

-- what periods come to at most, by the limits of a price and of a period's minutes
worths_small : (ts : List PricedTime) → sum (worths ts) ≤ length ts * 100000000000000
worths_small [] = omega arith
worths_small (t ∷ ts) =
    let h = worths_small ts in
    let p : worth t ≤ 100000000000000 = mul-le-mul t.price.most t.minutes.most in
    let s = suc-mul (length ts) 100000000000000 in
    let c = sum_by-cons (λ x. x) (worth t) (worths ts) in
    omega arith

-- 32 periods stay in range
pub few_within : (ts : List PricedTime) → length ts ≤ 32 → Beyond Charge (all_out (pos 0) (worths ts)) → ⊥
few_within ts few h =
    let s = worths_small ts in
    let m : length ts * 100000000000000 ≤ 32 * 100000000000000 = mul-le-mul_right 100000000000000 few in
    omega (arith, ints)
