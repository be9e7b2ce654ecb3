-- What the words of an item and of its plan mean.
use Rattle.std.specs.Prelude.{ℕ, ◌+◌, ◌-◌, ◌^◌, Bool, true, false, cond, ◌&&◌, List, [], ◌∷◌, length, take, drop, Some, None, Ok, Err, vec_items, codes, Option, Result, String, ◌==◌, nat_le, nat_lt, slice_index}
use Rattle.std.specs.Borrow.{Bor}
use Rattle.std.specs.declared.alloc.Global.{Global}
use Rattle.std.specs.List.{position}
use Rattle.std.specs.Option.{option_map}
use Rattle.std.specs.Str.{bytes_eq}
use Rattle.item.specs.declared.records.Header.{Header}
use Rattle.item.specs.declared.records.Lot.{Lot}
use Rattle.item.specs.declared.records.Row.{Row}
use Rattle.item_words.specs.declared.mistakes.Misuse.{Misuse}
use Rattle.item_words.specs.declared.mistakes.Misuse.TheVariants.{NoRule, BadRule, NoOpening, BadOpening, NoForced, BadForced, BadRow, NoPlan, BadLot}
use Rattle.item_words.specs.declared.items.ItemRequest.{ItemRequest}
use Rattle.item_words.specs.declared.items.PlanRequest.{PlanRequest}
use Rattle.words.specs.Readings.{texts, number, limited, number_below}
use Rattle.words.specs.Turns.{read_each}

-- a byte in front of the first of some fields
abbrev pub in_first : ℕ → List (List ℕ) → List (List ℕ)
in_first b [] = (b ∷ []) ∷ []
in_first b (f ∷ fs) = (b ∷ f) ∷ fs

-- the fields of a word, which is cut at each comma
abbrev pub fields : List ℕ → List (List ℕ)
fields [] = [] ∷ []
fields (b ∷ bs) = cond (b == 44) ([] ∷ fields bs) (in_first b (fields bs))

-- what is read next, if this was read
abbrev pub then_read : {A B : Type 0} → Option A → (A → Option B) → Option B
then_read None next = None
then_read (Some a) next = next a

-- p, if it is a period from `lowest` on
abbrev pub period_from : ℕ → ℕ → Option ℕ
period_from lowest p = cond (nat_le lowest p && nat_lt p 32) (Some p) None

-- the period that a field writes, from `lowest` on
abbrev pub period_field : ℕ → List ℕ → Option ℕ
period_field lowest field = limited (period_from lowest) (number field)

-- the sum of the bits of the periods that fields write, rising from `lowest` on
abbrev pub forced_fields : ℕ → List (List ℕ) → Option ℕ
forced_fields lowest [] = Some 0
forced_fields lowest (f ∷ fs) = then_read (period_field lowest f) (λ p. option_map (λ bits. 2 ^ p + bits) (forced_fields (p + 1) fs))

-- the forced set that a word writes: none for `-`, else the periods between its commas
abbrev pub forced_word : List ℕ → Option ℕ
forced_word word = cond (bytes_eq word (codes "-")) (Some 0) (forced_fields 0 (fields word))

-- the price in the first of two fields or more, and the fields after it
abbrev pub price_field : List (List ℕ) → Option (ℕ × List (List ℕ))
price_field [] = None
price_field (f ∷ []) = None
price_field (f ∷ g ∷ gs) = option_map (λ n. (n, g ∷ gs)) (number_below 64 f)

-- the demand in the only field that is left
abbrev pub demand_field : List (List ℕ) → Option ℕ
demand_field [] = None
demand_field (f ∷ []) = number_below 32 f
demand_field (f ∷ g ∷ gs) = None

-- a row
abbrev pub row_of : ℕ → ℕ → ℕ → ℕ → ℕ → Row
row_of setup unit hold short demand = record { setup = setup; unit = unit; hold = hold; short = short; demand = demand }

-- the row that fields write: four prices and a demand
abbrev pub row_fields : List (List ℕ) → Option Row
row_fields fs =
    then_read (price_field fs) (λ s. then_read (price_field s.1) (λ u. then_read (price_field u.1) (λ h. then_read (price_field h.1) (λ b.
    option_map (row_of s.0 u.0 h.0 b.0) (demand_field b.1)))))

-- the row that a word writes
abbrev pub row_word : List ℕ → Option Row
row_word word = row_fields (fields word)

-- the last byte of a word is the mark `!`
abbrev pub marked : List ℕ → Bool
marked word = slice_index word (length word - 1) == 33

-- a word without its last byte
abbrev pub unmarked : List ℕ → List ℕ
unmarked word = take (length word - 1) word

-- an amount with or without a setup
abbrev pub lot_of : Bool → ℕ → Lot
lot_of setup amount = record { amount = amount; setup = setup }

-- the lot that a word writes: nothing for `-`, an amount without a setup where it has the mark, else one with a setup
abbrev pub lot_word : List ℕ → Option Lot
lot_word word = cond (bytes_eq word (codes "-")) (Some (lot_of false 0)) (cond (marked word) (option_map (lot_of false) (number_below 32 (unmarked word))) (option_map (lot_of true) (number_below 32 word)))

-- the words ROW...
abbrev pub row_words : List (List ℕ) → Result (List Row) Misuse
row_words words = read_each row_word BadRow 0 words

-- the words LOT...
abbrev pub lot_words : List (List ℕ) → Result (List Lot) Misuse
lot_words words = read_each lot_word BadLot 0 words

-- a header, and the words after it
abbrev pub forced_then : ℕ → ℕ → Option ℕ → List (List ℕ) → Result (Header × List (List ℕ)) Misuse
forced_then rule opening None words = Err BadForced
forced_then rule opening (Some forced) words = Ok (record { rule = rule; opening = opening; forced = forced }, words)

-- the words FORCED ... after an opening stock
abbrev pub opening_then : ℕ → Option ℕ → List (List ℕ) → Result (Header × List (List ℕ)) Misuse
opening_then rule None words = Err BadOpening
opening_then rule (Some opening) [] = Err NoForced
opening_then rule (Some opening) (w ∷ ws) = forced_then rule opening (forced_word w) ws

-- the words OPENING FORCED ... after a rule
abbrev pub rule_then : Option ℕ → List (List ℕ) → Result (Header × List (List ℕ)) Misuse
rule_then None words = Err BadRule
rule_then (Some rule) [] = Err NoOpening
rule_then (Some rule) (w ∷ ws) = opening_then rule (number_below 32 w) ws

-- the words RULE OPENING FORCED, and those after them
abbrev pub header_words : List (List ℕ) → Result (Header × List (List ℕ)) Misuse
header_words [] = Err NoRule
header_words (w ∷ ws) = rule_then (number_below 8 w) ws

-- an item: its header and its rows
pub record Item : Type 0 where
  pub header : Header
  pub rows : List Row

-- the item of a header and rows
abbrev pub item_of : Header → Result (List Row) Misuse → Result Item Misuse
item_of h (Ok rows) = Ok (record { header = h; rows = rows })
item_of h (Err m) = Err m

-- the rows after a header
abbrev pub header_then : Result (Header × List (List ℕ)) Misuse → Result Item Misuse
header_then (Ok p) = item_of p.0 (row_words p.1)
header_then (Err m) = Err m

-- the words RULE OPENING FORCED ROW...
abbrev pub item_words : List (List ℕ) → Result Item Misuse
item_words words = header_then (header_words words)

-- the place of the first word that is `plan`
abbrev pub plan_place : List (List ℕ) → Option ℕ
plan_place words = position (λ w. bytes_eq w (codes "plan")) words

-- an item and a plan for it
pub record Planned : Type 0 where
  pub item : Item
  pub plan : List Lot

-- the lots after an item
abbrev pub item_then : Result Item Misuse → Result (List Lot) Misuse → Result Planned Misuse
item_then (Ok i) (Ok lots) = Ok (record { item = i; plan = lots })
item_then (Ok i) (Err m) = Err m
item_then (Err m) lots = Err m

-- the words ROW... before `plan` and LOT... after it, by its place
abbrev pub place_then : Header → List (List ℕ) → Option ℕ → Result Planned Misuse
place_then h words None = Err NoPlan
place_then h words (Some n) = item_then (item_of h (row_words (take n words))) (lot_words (drop (n + 1) words))

-- the rows and the plan after a header
abbrev pub header_then_plan : Result (Header × List (List ℕ)) Misuse → Result Planned Misuse
header_then_plan (Ok p) = place_then p.0 p.1 (plan_place p.1)
header_then_plan (Err m) = Err m

-- the words RULE OPENING FORCED ROW... plan LOT...
abbrev pub plan_words : List (List ℕ) → Result Planned Misuse
plan_words words = header_then_plan (header_words words)

-- the price and the fields after it that an answer holds
abbrev pub price_in : ℕ × Bor (List ℕ) → ℕ × List (List ℕ)
price_in p = (p.0, fields p.1.now)

-- the header and the words after it that an answer holds
abbrev pub header_in : Header × Bor (List (String Global)) → Header × List (List ℕ)
header_in p = (p.0, texts p.1.now)

-- the item that a request holds
abbrev pub item_in : ItemRequest → Item
item_in q = record { header = q.header; rows = vec_items q.rows }

-- the item and the plan that a request holds
abbrev pub plan_in : PlanRequest → Planned
plan_in q = record { item = item_in q.item; plan = vec_items q.plan }
