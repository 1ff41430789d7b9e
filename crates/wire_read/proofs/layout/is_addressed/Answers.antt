-- `wire_read::layout::is_addressed`: both IDs, the destination first.
-- Assumes nothing.
use native.Mathlib.Omega.{arith}
use Rattle.std.proofs.lemmas.Bool.Decides.{nat_tests}
use Rattle.wire.specs.Reading.{addressed}
use Rattle.wire_read.specs.Finding.{header_of}
use Rattle.wire_read.proofs.layout.is_addressed.Goals as goal

pub returns-then-head-own : goal.returns-then-head-own
unfolding addressed header_of
returns-then-head-own c = grind (arith, nat_tests)

pub returns-else-head-own : goal.returns-else-head-own
unfolding addressed header_of
returns-else-head-own c = grind (arith, nat_tests)
