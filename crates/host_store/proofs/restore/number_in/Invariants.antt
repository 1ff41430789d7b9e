-- `host_store::restore::number_in`: the number in the bytes from i on.
-- Assumes nothing.
use Rattle.host_store.proofs.restore.Reading.{Numbered}
use Rattle.host_store.proofs.restore.number_in.Given as goal

abbrev pub invariant-loop-i : goal.invariant-loop-i
invariant-loop-i l = Numbered l.bytes l.at l.size l.x l.i
