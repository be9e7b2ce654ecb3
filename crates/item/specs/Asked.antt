-- An item put to a rule: its header opened, its rows told in turn, then asked about.
use Rattle.std.specs.Prelude.{◌≡◌, ℕ, ◌<◌, true, List, [], ◌∷◌, Ok, Err, Result}
use Rattle.item.specs.declared.records.Header.{Header}
use Rattle.item.specs.declared.records.Lot.{Lot}
use Rattle.item.specs.declared.records.Refusal.{Refusal}
use Rattle.item.specs.declared.records.Refusal.TheVariants.{CostTooHigh}
use Rattle.item.specs.declared.records.Row.{Row}
use Rattle.item.specs.Calls.{open_answer, tell_answer, held_after_tell, weigh_answer, least_answer}
use Rattle.item.specs.Least.{IsLeast}
use Rattle.item.specs.Limits.{most_cost, fits}
use Rattle.item.specs.Meanings.{Meaning, Held, opened}
use Rattle.item.specs.Verdicts.{Verdict}

-- what follows, unless this was refused
abbrev pub and_then : {A B : Type 0} → Result A Refusal → (A → Result B Refusal) → Result B Refusal
and_then (Ok a) f = f a
and_then (Err e) f = Err e

-- telling rows in turn, up to the first that is refused
abbrev pub tell_all_answer : List Row → Held → Result (Unit {0}) Refusal
tell_all_answer [] held = Ok tt
tell_all_answer (r ∷ rs) held = and_then (tell_answer r held) (λ _. tell_all_answer rs (held_after_tell r held))

-- what is held after this, or what was held if this was refused
abbrev pub held_if : {A : Type 0} → Result A Refusal → Held → Held → Held
held_if (Ok a) after before = after
held_if (Err e) after before = before

-- what is held after telling rows in turn, up to the first that is refused
abbrev pub held_after_tell_all : List Row → Held → Held
held_after_tell_all [] held = held
held_after_tell_all (r ∷ rs) held = held_if (tell_answer r held) (held_after_tell_all rs (held_after_tell r held)) held

-- opening a header and telling its rows
abbrev pub fill_answer : Meaning → Header → List Row → Result (Unit {0}) Refusal
fill_answer m h rows = and_then (open_answer m h) (λ _. tell_all_answer rows (opened h []))

-- what is held after that
abbrev pub held_after_fill : Meaning → Header → List Row → Held → Held
held_after_fill m h rows held = held_if (open_answer m h) (held_after_tell_all rows (opened h [])) held

-- the least cost of an item
abbrev pub item_least : Meaning → Header → List Row → Result ℕ Refusal
item_least m h rows = and_then (fill_answer m h rows) (λ _. least_answer m (opened h rows))

-- the verdict on an item's plan
abbrev pub item_verdict : Meaning → Header → List Row → List Lot → Result Verdict Refusal
item_verdict m h rows plan = and_then (fill_answer m h rows) (λ _. weigh_answer m plan (opened h rows))

-- what an answer about the least says of all plans that fit and are admitted: a number is the least cost, and by a cost too high they all are
pub record AnsweredLeast (m : Meaning) (h : Header) (rows : List Row) (r : Result ℕ Refusal) : Type 0 where
  pub number : (n : ℕ) → r ≡ Ok n → IsLeast (m.verdict h) rows n
  pub too_high : r ≡ Err CostTooHigh → (plan : List Lot) (k : ℕ) → fits rows plan ≡ true → m.verdict h rows plan ≡ Ok k → most_cost < k
