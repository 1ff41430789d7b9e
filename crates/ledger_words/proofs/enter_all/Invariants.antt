-- `ledger_words::enter_all`: the loop in place, and the sum at its end.
-- Assumes nothing.
use Rattle.std.proofs.Common.{◌≡◌, length}
use Rattle.ledger_words.specs.LedgerWords.{ledger_words, accounts_in, ledger_in}
use Rattle.ledger_words.proofs.Loops.{Entering}
use Rattle.ledger_words.proofs.enter_all.Given as goal

abbrev pub invariant-loop-bytes : goal.invariant-loop-bytes
invariant-loop-bytes l =
    Entering (ledger_in l.initial.words) l.block (accounts_in l.words l.sum) l.bytes-index
    × (length l.words ≡ ledger_words)
