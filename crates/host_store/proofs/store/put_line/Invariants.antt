-- `host_store::store::put_line`: two characters a byte, and a newline; the invariant says what is left to put.
-- Assumes nothing.
use Prim.Native.Nat.{◌-◌}
use lib.ListN.{length}
use Rattle.host_store.proofs.store.Putting.{Put}
use Rattle.host_store.proofs.store.put_line.Given as goal

abbrev pub invariant-loop-b : goal.invariant-loop-b
invariant-loop-b l = Put l.initial.out l.at l.bytes l.out l.end l.b-index
