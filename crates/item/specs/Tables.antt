-- What a table of rows holds.
use Rattle.std.specs.Prelude.{List, Some, None, Ok, Err, Option, Result}
use Rattle.std.specs.Borrow.{Bor}
use Rattle.std.specs.Option.{ok_or}
use Rattle.item.specs.declared.records.Refusal.{Refusal}
use Rattle.item.specs.declared.records.Refusal.TheVariants.{NotOpened}
use Rattle.item.specs.declared.records.Row.{Row}
use Rattle.item.specs.declared.tables.Opened.{Opened}
use Rattle.item.specs.declared.tables.RowTable.{RowTable}
use Rattle.item.specs.Meanings.{Held, unopened, opened}

-- the rows told since the header was opened
abbrev pub rows_of : Opened → List Row
rows_of o = o.rows.items

-- the header opened, with those rows
abbrev pub held_of : Opened → Held
held_of o = opened o.header (rows_of o)

-- what was opened, if anything was
abbrev pub held_if_opened : Option Opened → Held
held_if_opened None = unopened
held_if_opened (Some o) = held_of o

-- what a table holds
abbrev pub held_in : RowTable → Held
held_in t = held_if_opened t.opened

-- what was opened, or the refusal of a call before an opening
abbrev pub opened_answer : RowTable → Result Opened Refusal
opened_answer t = ok_or t.opened NotOpened

-- what an answer refers to
abbrev pub referred : Result (Bor Opened) Refusal → Result Opened Refusal
referred (Ok o) = Ok o.now
referred (Err e) = Err e
