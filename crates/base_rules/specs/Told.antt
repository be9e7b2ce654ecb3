-- Rows that were told: few, and each within its limits.
use Rattle.std.specs.Prelude.{◌≡◌, ℕ, zero, suc, ◌<◌, ◌≤◌, true, List, [], ◌∷◌, length, nat_le, refl}
use Rattle.std.proofs.Common.{arith}
use Rattle.std.proofs.lemmas.Bool.{and_parts, and_from, leb-true, le-leb}
use Rattle.item.specs.declared.records.Row.{Row}
use Rattle.item.specs.Laws.{lawful_rows}
use Rattle.item.specs.Limits.{most_rows, most_demand, row_within, rows_within, demands_within}
use Rattle.base_rules.specs.Programme.{row_at}

pub record Limits (r : Row) : Type 0 where
  pub setup : r.setup ≤ 20000000000
  pub unit : r.unit ≤ 200000000
  pub hold : r.hold ≤ 100000000
  pub short : r.short ≤ 100000000
  pub demand : r.demand ≤ 100000

abbrev pub Told : List Row → Type 0
Told rs = (length rs ≤ 32) × ((k : ℕ) → k < length rs → Limits (row_at rs k))

pub limits : (r : Row) → row_within r ≡ true → Limits r
limits r h =
    let a = and_parts (nat_le r.setup 20000000000) _ h in
    let b = and_parts (nat_le r.unit 200000000) _ a.1 in
    let c = and_parts (nat_le r.hold 100000000) _ b.1 in
    let d = and_parts (nat_le r.short 100000000) _ c.1 in
    record { setup = leb-true _ _ a.0; unit = leb-true _ _ b.0; hold = leb-true _ _ c.0; short = leb-true _ _ d.0; demand = leb-true _ _ d.1 }

pub within_at : (rows : List Row) (i : ℕ) → rows_within rows ≡ true → i < length rows → row_within (row_at rows i) ≡ true
within_at [] i h lt = absurd (omega arith)
within_at (r ∷ rs) zero h lt = (and_parts (row_within r) (rows_within rs) h).0
within_at (r ∷ rs) (suc i) h lt = within_at rs i (and_parts (row_within r) (rows_within rs) h).1 (omega arith)

pub told : (rows : List Row) → length rows ≤ 32 → rows_within rows ≡ true → Told rows
told rows few within = (few, λ k lt. limits (row_at rows k) (within_at rows k within lt))

demands_within_lem : (rows : List Row) → rows_within rows ≡ true → demands_within rows ≡ true
demands_within_lem [] h = refl
demands_within_lem (r ∷ rs) h =
    let p = and_parts (row_within r) (rows_within rs) h in
    and_from (nat_le r.demand most_demand) (demands_within rs) (le-leb _ _ (limits r p.0).demand) (demands_within_lem rs p.1)

-- rows that were told are rows of which the laws speak
pub lawful_told : (rows : List Row) → length rows ≤ 32 → rows_within rows ≡ true → lawful_rows rows ≡ true
lawful_told rows few within = and_from (nat_le (length rows) most_rows) (demands_within rows) (le-leb _ _ few) (demands_within_lem rows within)
