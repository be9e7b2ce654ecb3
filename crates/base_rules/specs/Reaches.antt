-- A fitting plan reaches the programme's value, so that it is the least.
use Rattle.std.specs.Prelude.{◌≡◌, ℕ, zero, suc, ◌+◌, ◌*◌, ◌≤◌, min, Bool, true, false, List, [], ◌∷◌, Ok, refl}
use Rattle.std.proofs.Common.{ap, subst, ◌∙◌, ⊎_elim, arith}
use Rattle.std.proofs.lemmas.Bool.{cases_lt, both_ways}
use Rattle.item.specs.declared.records.Lot.{Lot}
use Rattle.item.specs.declared.records.Row.{Row}
use Rattle.item.specs.Least.{lot}
use Rattle.base_rules.specs.declared.kinds.Kind.{Kind}
use Rattle.base_rules.specs.Verdicts.{may_owe, verdict_from}
use Rattle.base_rules.specs.Programme.{block, hand, owed}
use Rattle.base_rules.specs.Fitting.{Fits}
use Rattle.base_rules.specs.Turns.{turned, price_over, price_under}
use Rattle.base_rules.specs.Sums.{demands}

-- the lesser of two values, each reached
lesser : (P : ℕ → Type 0) (a b : ℕ) → P a → P b → P (min a b)
lesser P a b p q = ⊎_elim (λ l. let e : a ≡ min a b = omega arith in subst P e p) (λ l. let e : b ≡ min a b = omega arith in subst P e q) (cases_lt a b)

module _ (kind : Kind) (m : ℕ) where
  -- a plan from some stock, which is paid at p
  pub record Reached (p : ℕ) (rs : List Row) (value : ℕ) : Type 0 where
    pub stock : ℕ
    pub lots : List Lot
    pub cost : ℕ
    pub small : stock ≤ demands rs
    pub fits : Fits m rs lots
    pub admitted : (t x d : ℕ) → x ≡ d + stock → verdict_from kind t x d rs lots ≡ Ok cost
    pub worth : cost + stock * p ≡ value

  -- a plan that makes good n units owed
  pub record Served (n : ℕ) (rs : List Row) (value : ℕ) : Type 0 where
    pub lots : List Lot
    pub fits : Fits m rs lots
    pub admitted : (t x d : ℕ) → x + n ≡ d → verdict_from kind t x d rs lots ≡ Ok value

  keeps : (p : ℕ) (r : Row) (rs : List Row) (v : ℕ) → Reached (p + r.hold) rs v → Reached p (r ∷ rs) (p * r.demand + v)
  keeps p r rs v k = record {
    stock = r.demand + k.stock;
    lots = lot 0 false ∷ k.lots;
    cost = r.hold * k.stock + k.cost;
    small = omega (arith, k.small);
    fits = (omega arith, k.fits);
    admitted = λ t x d e.
        let left : x + 0 ≡ d + r.demand + k.stock = omega arith in
        turned kind t x d k.cost r rs (lot 0 false) k.lots (λ _. refl) (λ _. omega arith) (k.admitted (t + 1) (x + 0) (d + r.demand) left)
        ∙ ap Ok (omega (arith, price_over r (lot 0 false) (x + 0) (d + r.demand) k.stock left));
    worth = omega (arith, k.worth);
  }

  makes : (n : ℕ) (r : Row) (rs : List Row) (v : ℕ) → n + demands (r ∷ rs) ≤ m → Reached (r.unit + r.hold) rs v → Served n (r ∷ rs) (r.setup + r.unit * (n + r.demand) + v)
  makes n r rs v b k =
      let a = n + r.demand + k.stock in
      record {
        lots = lot a true ∷ k.lots;
        fits = (omega (arith, k.small), k.fits);
        admitted = λ t x d e.
            let left : x + a ≡ d + r.demand + k.stock = omega arith in
            turned kind t x d k.cost r rs (lot a true) k.lots (λ z. absurd (both_ways true z refl)) (λ _. omega arith) (k.admitted (t + 1) (x + a) (d + r.demand) left)
            ∙ ap Ok (omega (arith, k.worth, price_over r (lot a true) (x + a) (d + r.demand) k.stock left));
      }

  waits : (n : ℕ) (r : Row) (rs : List Row) (v : ℕ) → (may_owe kind rs ≡ false → n + r.demand ≡ 0) → Served (n + r.demand) rs v → Served n (r ∷ rs) (r.short * (n + r.demand) + v)
  waits n r rs v may k = record {
    lots = lot 0 false ∷ k.lots;
    fits = (omega arith, k.fits);
    admitted = λ t x d e.
        let left : x + 0 + (n + r.demand) ≡ d + r.demand = omega arith in
        turned kind t x d v r rs (lot 0 false) k.lots (λ _. refl) (λ no_debt. let z = may no_debt in omega arith) (k.admitted (t + 1) (x + 0) (d + r.demand) left)
        ∙ ap Ok (omega (arith, price_under r (lot 0 false) (x + 0) (d + r.demand) (n + r.demand) left));
  }

  from_none : (p : ℕ) (rs : List Row) (v : ℕ) → Served 0 rs v → Reached p rs v
  from_none p rs v k = record { stock = 0; lots = k.lots; cost = v; small = omega arith; fits = k.fits; admitted = λ t x d e. k.admitted t x d (omega arith); worth = omega arith }

  blocks : (n : ℕ) (r : Row) (rs : List Row) (b : Bool) (o make wait : ℕ) → may_owe kind rs ≡ b → n + r.demand ≡ o → Served n (r ∷ rs) make → Served (n + r.demand) rs wait → Served n (r ∷ rs) (block b r.short o make wait)
  blocks n r rs true o make wait is e new old =
      lesser (Served n (r ∷ rs)) _ _ new (subst (λ i. Served n (r ∷ rs) (r.short * i + wait)) e (waits n r rs wait (λ y. absurd (both_ways _ y is)) old))
  blocks n r rs false zero make wait is e new old =
      let free : r.short * (n + r.demand) + wait ≡ wait = rw e (omega arith) in
      lesser (Served n (r ∷ rs)) _ _ new (subst (Served n (r ∷ rs)) free (waits n r rs wait (λ _. e) old))
  blocks n r rs false (suc o) make wait is e new old = new

  pub record Reaches (rs : List Row) : Type 0 where
    pub at_hand : (p : ℕ) → demands rs ≤ m → Reached p rs (hand kind p rs)
    pub owing : (n : ℕ) → n + demands rs ≤ m → Served n rs (owed kind n rs)

  pub reaches : (rs : List Row) → Reaches rs
  reaches [] = record {
    at_hand = λ p b. record { stock = 0; lots = []; cost = 0; small = omega arith; fits = tt; admitted = λ t x d e. refl; worth = omega arith };
    owing = λ n b. record { lots = []; fits = tt; admitted = λ t x d e. refl };
  }
  reaches (r ∷ rs) =
      let ih = reaches rs in
      let block_of : (n : ℕ) → n + demands (r ∷ rs) ≤ m → Served n (r ∷ rs) (owed kind n (r ∷ rs)) =
      λ n b. blocks n r rs (may_owe kind rs) (n + r.demand) _ _ refl refl (makes n r rs _ b (ih.at_hand (r.unit + r.hold) (omega arith))) (ih.owing (n + r.demand) (omega arith)) in
      record {
        at_hand = λ p b. lesser (Reached p (r ∷ rs)) _ _ (keeps p r rs _ (ih.at_hand (p + r.hold) (omega arith))) (from_none p (r ∷ rs) _ (block_of 0 (omega arith)));
        owing = block_of;
      }
