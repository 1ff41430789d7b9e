-- `wire::next_header` is the definition, where an end can be a slice's.
-- Assumes nothing.
use native.Mathlib.Omega.{arith}
use Rattle.std.proofs.lemmas.Bool.Decides.{nat_tests}
use Rattle.wire.specs.Format.{next_header, header_after}
use Rattle.wire.proofs.next_header.Goals as goal

pub returns : goal.returns
unfolding next_header header_after
returns c = grind (arith, nat_tests)
