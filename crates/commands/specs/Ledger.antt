-- The ledger of an account of priced time.
use Rattle.std.specs.Prelude.{◌≡◌, ℕ, ◌+◌, ◌^◌, cond, List, [], ◌∷◌, ◌++◌, map, ℤ, pos, ◌+ℤ◌, neg_ℤ, ◌≤ℤ◌, ◌<ℤ◌, Ok, Err, vec_items, sum, Result, Vec}
use Rattle.std.specs.declared.alloc.Global.{Global}
use Rattle.money.specs.declared.amounts.OutOfRange.{OutOfRange as TooLarge}
use Rattle.money.specs.declared.priced.PricedTime.{PricedTime}
use Rattle.money.specs.Postings.{worth, charged, handed_back}
use Rattle.money.specs.Range.{in_range, in_kths}
use Rattle.commands.specs.declared.ledger.Entry.{Entry}
use Rattle.commands.specs.declared.ledger.Posting.{Posting}
use Rattle.commands.specs.declared.ledger.Posting.TheVariants.{Charge, HandBack}
use Rattle.commands.specs.declared.ledger.Refusal.{Refusal}
use Rattle.commands.specs.declared.ledger.Refusal.TheVariants.{Memory, OutOfRange}

-- the worth of each period's priced time
abbrev pub worths : List PricedTime → List ℕ
worths times = map worth times

-- the balance b after a worth of n K-ths is posted
abbrev pub posted : Posting → ℤ → ℕ → ℤ
posted Charge b n = charged b n
posted HandBack b n = handed_back b n

-- the balance b after each period's worth is posted the same way
abbrev pub balance_after : Posting → ℤ → List ℕ → ℤ
balance_after way b [] = b
balance_after way b (n ∷ ns) = balance_after way (posted way b n) ns

-- the balance b when all the worths ns are out
abbrev pub all_out : ℤ → List ℕ → ℤ
all_out b ns = b +ℤ pos (sum ns)

-- charging leaves the range of 64 bits at its top, handing back at its bottom
abbrev pub Beyond : Posting → ℤ → Type 0
Beyond Charge v = pos (2 ^ 63) ≤ℤ v
Beyond HandBack v = v <ℤ neg_ℤ (pos (2 ^ 63))

-- the entry of one posting
abbrev pub entry : Posting → ℕ → ℤ → ℕ → Entry
entry way period b n = record { period = period; posting = way; amount = in_kths (pos n); balance = in_kths (posted way b n) }

-- the answer to one posting: its entry, or a refusal where the balance would be out of range
abbrev pub posted_entry : Posting → ℕ → ℤ → ℕ → Result Entry TooLarge
posted_entry way period b n = cond (in_range (posted way b n)) (Ok (entry way period b n)) (Err (record {}))

-- the entries of those postings, from a period on
abbrev pub entries : Posting → ℕ → ℤ → List ℕ → List Entry
entries way period b [] = []
entries way period b (n ∷ ns) = entry way period b n ∷ entries way (period + 1) (posted way b n) ns

-- the ledger of worths that are all charged to a balance b, and then all handed back
abbrev pub out_and_back : ℤ → List ℕ → List Entry
out_and_back b ns = entries Charge 0 b ns ++ entries HandBack 0 (balance_after Charge b ns) ns

-- what charging the worths ns to a balance b and handing them back answers: the ledger, or a refusal for its own cause
abbrev pub Answers : Result (Vec Entry Global) Refusal → ℤ → List ℕ → Type 0
Answers (Ok ledger) b ns = vec_items ledger ≡ out_and_back b ns
Answers (Err Memory) b ns = Unit {0}
Answers (Err OutOfRange) b ns = Beyond Charge (all_out b ns)
