-- What the program prints.
use Rattle.std.specs.Prelude.{ℕ, cond, List, ◌++◌, ℤ, codes, decimal}
use Rattle.std.specs.List.{flat_map}
use Rattle.std.specs.Fmt.{signed_decimal}
use Rattle.money.specs.Range.{is_zero}
use Rattle.commands.specs.declared.ledger.Entry.{Entry}
use Rattle.commands.specs.declared.ledger.Posting.{Posting}
use Rattle.commands.specs.declared.ledger.Posting.TheVariants.{Charge, HandBack}

-- a posting's word
abbrev pub posting_text : Posting → List ℕ
posting_text Charge = codes "charged"
posting_text HandBack = codes "handed back"

-- an entry, as in `period 0: charged 1, balance 1`
abbrev pub entry_text : Entry → List ℕ
entry_text e =
    codes "period " ++ (decimal e.period ++ (codes ": " ++ (posting_text e.posting ++ (codes " " ++ (signed_decimal e.amount.count ++ (codes ", balance " ++ signed_decimal e.balance.count))))))

-- the end of a statement
abbrev pub closing : ℤ → List ℕ
closing balance = cond (is_zero balance) (codes ", closed\n") (codes "\n")

-- the last line of a statement at the scale k, as in `balance 0 in K-ths at scale 3, whole 0, closed`
abbrev pub balance_text : ℕ → ℤ → ℤ → List ℕ
balance_text k balance whole =
    codes "balance " ++ (signed_decimal balance ++ (codes " in K-ths at scale " ++ (decimal k ++ (codes ", whole " ++ (signed_decimal whole ++ closing balance)))))

-- an entry's line
abbrev pub line_text : Entry → List ℕ
line_text e = entry_text e ++ codes "\n"

-- a statement: a line for each entry, and the last line
abbrev pub statement_text : ℕ → List Entry → ℤ → ℤ → List ℕ
statement_text k ledger balance whole = flat_map line_text ledger ++ balance_text k balance whole

-- how the program is used, in full
abbrev pub usage_text : List ℕ
usage_text = codes "usage: lotaudit minute SCALE PRICE...\n  SCALE is a whole number from 1 to 1000.\n  There are 1 to 32 PRICEs, one for each period, each a whole number from 0 to 100000, in K-ths.\n  One minute of each period is charged at its price, then handed back.\n"
