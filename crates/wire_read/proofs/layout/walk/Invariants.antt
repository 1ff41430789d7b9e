-- `wire_read::layout::walk` goes from message to message as the definition does.
-- Assumes nothing.
use Prim.Native.Nat.{◌+◌, ◌-◌, ◌≤◌}
use lib.ListN.{length}
use Rattle.wire_read.proofs.layout.Reading.{Walked}
use Rattle.wire_read.proofs.layout.walk.Given as goal

abbrev pub invariant-loop-found : goal.invariant-loop-found
invariant-loop-found l = Walked l.f l.at l.messages l.data_bytes × (length l.f ≤ 9000)

abbrev pub decreases-loop-found : goal.decreases-loop-found
decreases-loop-found l = length l.f + 18 - l.at
