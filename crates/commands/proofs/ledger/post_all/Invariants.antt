use Rattle.std.proofs.Common.{◌≡◌, ◌++◌, drop, vec_items}
use Rattle.commands.specs.Ledger.{worths, entries, balance_after}
use Rattle.commands.proofs.ledger.post_all.Given as goal

-- with what is left to post, the ledger and the balance come to those at the end
abbrev pub invariant-loop-period : goal.invariant-loop-period
invariant-loop-period l =
    record {
      ledger_left : vec_items l.ledger ++ entries l.posting l.period l.account.balance.count (worths (drop l.period l.times)) ≡ vec_items l.initial.ledger ++ entries l.posting 0 l.initial.account.balance.count (worths l.times);
      balance_left : balance_after l.posting l.account.balance.count (worths (drop l.period l.times)) ≡ balance_after l.posting l.initial.account.balance.count (worths l.times);
    }
