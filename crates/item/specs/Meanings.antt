-- What a rule means, and what it holds.
use Rattle.std.specs.Prelude.{Bool, List}
use Rattle.item.specs.declared.records.Header.{Header}
use Rattle.item.specs.declared.records.Lot.{Lot}
use Rattle.item.specs.declared.records.Row.{Row}
use Rattle.item.specs.Verdicts.{Verdict}

-- which headers a rule knows, and its verdict on a header, rows and a plan; a cost is exact
pub record Meaning : Type 0 where
  pub knows : Header → Bool
  pub verdict : Header → List Row → List Lot → Verdict

-- the header opened, and the rows told since
pub data Held : Type 0 where
  unopened : Held
  opened : Header → List Row → Held
