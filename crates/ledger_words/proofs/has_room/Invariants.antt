-- `ledger_words::has_room`: the loop that looks for room.
-- Assumes nothing.
use Rattle.ledger_words.specs.LedgerWords.{ledger_in}
use Rattle.ledger_words.proofs.Loops.{Looked}
use Rattle.ledger_words.proofs.has_room.Given as goal

abbrev pub invariant-loop-bytes : goal.invariant-loop-bytes
invariant-loop-bytes l = Looked (ledger_in l.words) l.block l.any l.high l.bytes-index
