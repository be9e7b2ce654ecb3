-- A plan that fits, row by row.
use Rattle.std.specs.Prelude.{◌≡◌, ℕ, suc, ◌≤◌, true, List, [], ◌∷◌, length, ◌==◌, nat_le, refl}
use Rattle.std.proofs.Common.{ap, arith}
use Rattle.std.proofs.lemmas.Bool.{and_parts, and_from, leb-true, le-leb, eqb-true, eq-eqb}
use Rattle.item.specs.declared.records.Lot.{Lot}
use Rattle.item.specs.declared.records.Row.{Row}
use Rattle.item.specs.Limits.{most_amount, amounts_up_to, fits}

-- one lot for each row, no amount above m
abbrev pub Fits : ℕ → List Row → List Lot → Type 0
Fits m [] [] = Unit {0}
Fits m [] (l ∷ ls) = ⊥
Fits m (r ∷ rs) [] = ⊥
Fits m (r ∷ rs) (l ∷ ls) = (l.amount ≤ m) × Fits m rs ls

by_parts : (m : ℕ) (rs : List Row) (ls : List Lot) → length ls ≡ length rs → amounts_up_to m ls ≡ true → Fits m rs ls
by_parts m [] [] e s = tt
by_parts m [] (l ∷ ls) e s = absurd (omega arith)
by_parts m (r ∷ rs) [] e s = absurd (omega arith)
by_parts m (r ∷ rs) (l ∷ ls) e s =
    let p = and_parts (nat_le l.amount m) (amounts_up_to m ls) s in
    (leb-true l.amount m p.0, by_parts m rs ls (omega arith) p.1)

long : (m : ℕ) (rs : List Row) (ls : List Lot) → Fits m rs ls → length ls ≡ length rs
long m [] [] f = refl
long m [] (l ∷ ls) f = absurd f
long m (r ∷ rs) [] f = absurd f
long m (r ∷ rs) (l ∷ ls) f = ap suc (long m rs ls f.1)

small : (m : ℕ) (rs : List Row) (ls : List Lot) → Fits m rs ls → amounts_up_to m ls ≡ true
small m [] [] f = refl
small m [] (l ∷ ls) f = absurd f
small m (r ∷ rs) [] f = absurd f
small m (r ∷ rs) (l ∷ ls) f = and_from (nat_le l.amount m) (amounts_up_to m ls) (le-leb l.amount m f.0) (small m rs ls f.1)

pub fits_rows : (rs : List Row) (ls : List Lot) → fits rs ls ≡ true → Fits most_amount rs ls
fits_rows rs ls f = let p = and_parts (length ls == length rs) (amounts_up_to most_amount ls) f in by_parts most_amount rs ls (eqb-true _ _ p.0) p.1

pub rows_fit : (rs : List Row) (ls : List Lot) → Fits most_amount rs ls → fits rs ls ≡ true
rows_fit rs ls f = and_from (length ls == length rs) (amounts_up_to most_amount ls) (eq-eqb _ _ (long most_amount rs ls f)) (small most_amount rs ls f)
