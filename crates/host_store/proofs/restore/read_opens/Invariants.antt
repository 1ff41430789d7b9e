-- `host_store::restore::read_opens`: the table so far, and the lines that are left to read.
-- Assumes nothing.
use Rattle.host_store.proofs.restore.OpenLines.{Left}
use Rattle.host_store.proofs.restore.read_opens.Given as goal

abbrev pub invariant-loop-at : goal.invariant-loop-at
invariant-loop-at l = Left l.text l.lowest.0 l.closed l.table l.least l.at
