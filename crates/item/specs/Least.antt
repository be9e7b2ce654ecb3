-- The least cost over all plans that fit and are admitted.
use Rattle.std.specs.Prelude.{◌≡◌, ℕ, zero, suc, ◌≤◌, min, Bool, true, false, List, [], ◌∷◌, length, Some, None, Ok, Option, ◌≢◌}
use Rattle.item.specs.declared.records.Lot.{Lot}
use Rattle.item.specs.declared.records.Row.{Row}
use Rattle.item.specs.Limits.{most_amount, fits}
use Rattle.item.specs.Verdicts.{Verdict}
use Rattle.std.specs.Result.{result_ok}

-- the lower of two costs, where there are any
abbrev pub lower : Option ℕ → Option ℕ → Option ℕ
lower (Some a) (Some b) = Some (min a b)
lower (Some a) None = Some a
lower None b = b

-- the lowest of f 0 to f m; never worked out
unfoldable pub lowest_to : ℕ → (ℕ → Option ℕ) → Option ℕ
lowest_to zero f = f 0
lowest_to (suc m) f = lower (lowest_to m f) (f (suc m))

-- a lot
abbrev pub lot : ℕ → Bool → Lot
lot n b = record { amount = n; setup = b }

-- the lowest of f over all plans of so many periods, no amount above m; never worked out
unfoldable pub lowest_plan : ℕ → ℕ → (List Lot → Option ℕ) → Option ℕ
lowest_plan m zero f = f []
lowest_plan m (suc k) f = lowest_to m (λ n. lower (lowest_plan m k (λ ls. f (lot n false ∷ ls))) (lowest_plan m k (λ ls. f (lot n true ∷ ls))))

-- the least cost of all plans that fit and are admitted, or none if no such plan is
abbrev pub least_cost : (List Row → List Lot → Verdict) → List Row → Option ℕ
least_cost v rows = lowest_plan most_amount (length rows) (λ plan. result_ok (v rows plan))

-- n is the least: a plan that fits costs it, and none that fits costs less
pub record IsLeast (v : List Row → List Lot → Verdict) (rows : List Row) (n : ℕ) : Type 0 where
  pub reached : (plan : List Lot) × (fits rows plan ≡ true) × (v rows plan ≡ Ok n)
  pub lowest : (plan : List Lot) (k : ℕ) → fits rows plan ≡ true → v rows plan ≡ Ok k → n ≤ k

-- no plan that fits is admitted
abbrev pub NoneAdmitted : (List Row → List Lot → Verdict) → List Row → Type 0
NoneAdmitted v rows = (plan : List Lot) (k : ℕ) → fits rows plan ≡ true → v rows plan ≢ Ok k

-- what a least cost says of all plans, or that there is none
abbrev pub LeastMeans : (List Row → List Lot → Verdict) → List Row → Option ℕ → Type 0
LeastMeans v rows None = NoneAdmitted v rows
LeastMeans v rows (Some n) = IsLeast v rows n
