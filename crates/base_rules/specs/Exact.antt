-- The programme's value is the least cost.
use Rattle.std.specs.Prelude.{◌≡◌, ◌≤◌, true, List, length, Some, None, Ok, Option, refl}
use Rattle.std.proofs.Common.{ap, ◌∙◌, arith}
use Rattle.std.proofs.lemmas.Bool.{le-leb}
use Rattle.std.specs.Option.{ok_or}
use Rattle.item.specs.declared.records.Row.{Row}
use Rattle.item.specs.declared.records.Refusal.TheVariants.{NotOpened}
use Rattle.item.specs.declared.tables.Opened.{Opened}
use Rattle.item.specs.Calls.{named_least, least_answer, ProperHeld}
use Rattle.item.specs.Laws.{lawful_rows}
use Rattle.item.specs.Least.{least_cost, IsLeast}
use Rattle.item.specs.Limits.{most_amount, most_cost, rows_within}
use Rattle.item.specs.Tables.{rows_of, held_if_opened}
use Rattle.item.proofs.Leasts.{least_is}
use Rattle.base_rules.specs.declared.kinds.Kind.{Kind}
use Rattle.base_rules.specs.Verdicts.{verdict, holds_base_header, base_rule}
use Rattle.base_rules.specs.Programme.{owed}
use Rattle.base_rules.specs.Bounds.{owed_below}
use Rattle.base_rules.specs.Caps.{owed_cap}
use Rattle.base_rules.specs.Fitting.{fits_rows, rows_fit}
use Rattle.base_rules.specs.Reaches.{reaches}
use Rattle.base_rules.specs.Sums.{demands_fit}
use Rattle.base_rules.specs.Told.{told, lawful_told}

pub is_least : (kind : Kind) (rows : List Row) → lawful_rows rows ≡ true → IsLeast (verdict kind) rows (owed kind 0 rows)
is_least kind rows h =
    let k = (reaches kind most_amount rows).owing 0 (omega (arith, demands_fit rows h)) in
    record {
      reached = (k.lots, rows_fit rows k.lots k.fits, k.admitted 0 0 0 refl);
      lowest = λ plan c f e. owed_below kind most_amount c rows plan (fits_rows rows plan f) e;
    }

pub exact : (kind : Kind) (rows : List Row) → lawful_rows rows ≡ true → least_cost (verdict kind) rows ≡ Some (owed kind 0 rows)
exact kind rows h = least_is (verdict kind) rows (owed kind 0 rows) (is_least kind rows h)

-- it is never too high to be named
least_low : (kind : Kind) (rows : List Row) → length rows ≤ 32 → rows_within rows ≡ true → owed kind 0 rows ≤ most_cost
least_low kind rows few within = omega (arith, owed_cap kind 0 rows (told rows few within).1 (omega arith))

-- the answer of a rule that was opened
pub least_told : (kind : Kind) (o : Option Opened) (p : Opened) → Ok p ≡ ok_or o NotOpened → least_answer (base_rule kind) (held_if_opened o) ≡ Ok (owed kind 0 (rows_of p))
least_told kind None p e = absurd cc
least_told kind (Some o) p e =
    let same : o ≡ p = cc in
    let rows = rows_of o in
    ap named_least (exact kind rows (lawful_told rows o.few o.within)) ∙ rw (le-leb _ _ (least_low kind rows o.few o.within)) (ap (λ (q : Opened). Ok (owed kind 0 (rows_of q))) same)

-- what a base rule holds is a known header and rows within their limits
pub proper : (kind : Kind) (o : Option Opened) → holds_base_header (held_if_opened o) ≡ true → ProperHeld (base_rule kind) (held_if_opened o)
proper kind None known = tt
proper kind (Some o) known = record { known = known; few = o.few; within = o.within }
