-- `ledger_words::first_fault`: the loop on a copy.
-- Assumes nothing.
use Rattle.ledger_words.specs.LedgerWords.{accounts_in, ledger_in}
use Rattle.ledger_words.proofs.Loops.{Entering}
use Rattle.ledger_words.proofs.first_fault.Given as goal

abbrev pub invariant-loop-bytes : goal.invariant-loop-bytes
invariant-loop-bytes l = Entering (ledger_in l.words) l.block (accounts_in l.copy l.sum) l.bytes-index
