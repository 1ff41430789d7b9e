-- `host_store::restore::read_bytes`: what is read so far, and what is left of the line.
-- Assumes nothing.
use Rattle.host_store.proofs.restore.Reading.{Taken}
use Rattle.host_store.proofs.restore.read_bytes.Given as goal

abbrev pub invariant-loop-byte : goal.invariant-loop-byte
invariant-loop-byte g l = Taken l.text l.at g.row.N l.byte-items l.from l.byte-index
