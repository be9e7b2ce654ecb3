-- Loops over two lists side by side, with a count.
use Rattle.std.proofs.Common.{◌≡◌, ℕ, ◌+◌, ◌<◌, false, List, [], ◌∷◌, length, get_or, map, Some, Option, refl, ap, subst, arith}
use Rattle.std.proofs.iter.Yields.{fronts}
use Rattle.std.proofs.lemmas.Iterator.{zips}
use Rattle.std.proofs.lemmas.List.{length-map}
use Rattle.std.proofs.lemmas.Slice.Zip.{zip_turn}
use Rattle.std.specs.Borrow.{Bor}
use Rattle.std.specs.declared.iter.Enumerate.{Enumerate}
use Rattle.std.specs.declared.iter.Zip.{Zip}
use Rattle.std.specs.declared.slice.Iter.{Iter}
use Rattle.std.specs.Iterator.{Yields}
use Rattle.std.specs.Iterator.Adapters.{enumerate_source, enumerate_count, enumerate_steps, zip_first, zip_second}
use Rattle.std.specs.Slice.Iter.{iter_rest}
use Rattle.item.specs.declared.records.Lot.{Lot}
use Rattle.item.specs.declared.records.Row.{Row}
use Rattle.item.specs.Least
use Rattle.base_rules.specs.Programme.{blank, row_at}
use Rattle.base_rules.specs.Stocks.{lot_at}

module _ {A B : Type 0} where
  -- such a loop without its count
  uncounted : (xs : List (ℕ × (Bor A × Bor B))) (s t : Enumerate (Zip (Iter A) (Iter B))) → Yields (enumerate_steps (zips fronts fronts)) s xs t →
      Yields (zips fronts fronts) (enumerate_source s) (map (λ x. x.1) xs) (enumerate_source t) × (enumerate_count t ≡ enumerate_count s + length xs)
  uncounted [] s t y = (ap enumerate_source y, omega (arith, ap enumerate_count y))
  uncounted (x ∷ xs) s t y =
      let step = y.1 in
      let rest = uncounted xs y.0 t y.2 in
      ((enumerate_source y.0, step.0, rest.0), omega (arith, step.2, rest.1))

  -- where a turn is: `zip_turn` with the count
  pub counted_turn : (ks : List A) (vs : List B) (xs : List (ℕ × (Bor A × Bor B))) (s t u : Enumerate (Zip (Iter A) (Iter B))) {r : Option (ℕ × (Bor A × Bor B))} →
      iter_rest (zip_first (enumerate_source s)) ≡ ks → iter_rest (zip_second (enumerate_source s)) ≡ vs → enumerate_count s ≡ 0 → Yields (enumerate_steps (zips fronts fronts)) s xs t →
      (k : ℕ) (p : Bor A × Bor B) → r ≡ Some (k, p) → enumerate_steps (zips fronts fronts) t r u →
      ((length xs < length ks) × (length xs < length vs) × ((d : A) → p.0.now ≡ get_or ks (length xs) d) × ((d : B) → p.1.now ≡ get_or vs (length xs) d)) × (k ≡ length xs)
  counted_turn ks vs xs s t u {r} first second none y k p is step =
      let given = subst (λ o. enumerate_steps (zips fronts fronts) t o u) is step in
      let v = uncounted xs s t y in
      let z = zip_turn ks vs (map (λ x. x.1) xs) (enumerate_source s) (enumerate_source t) (enumerate_source u) _ first second v.0 p refl given.0 in
      let long = length-map xs (λ x. x.1) in
      (rw long at z, omega (arith, given.1, v.1))

-- period, row and lot are those of place k
pub record At (rows : List Row) (plan : List Lot) (k period : ℕ) (row : Row) (lot : Lot) : Type 0 where
  pub in_rows : k < length rows
  pub in_plan : k < length plan
  pub is : period ≡ k
  pub row_is : row ≡ row_at rows k
  pub lot_is : lot ≡ lot_at plan k

pub at_turn : {rows : List Row} {plan : List Lot} {k period : ℕ} {row : Row} {lot : Lot} →
    ((k < length rows) × (k < length plan) × ((d : Row) → row ≡ get_or rows k d) × ((d : Lot) → lot ≡ get_or plan k d)) × (period ≡ k) → At rows plan k period row lot
at_turn z = record { in_rows = z.0.0; in_plan = z.0.1; is = z.1; row_is = z.0.2 blank; lot_is = z.0.3 (Least.lot 0 false) }
