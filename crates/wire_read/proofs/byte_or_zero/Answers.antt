-- `wire_read::byte_or_zero`: a field of one byte is that byte, and 0 past the end.
-- Assumes nothing.
use lib.ListN.{get_or-eq_default}
use native.Mathlib.Omega.{arith}
use Rattle.std.proofs.lemmas.Grind.{common_steps}
use Rattle.octets.proofs.Octets.{field-1}
use Rattle.wire_read.proofs.byte_or_zero.Goals as goal

pub returns : goal.returns
returns c = rw (field-1 c.args.f.now c.args.at) (grind (arith, common_steps, get_or-eq_default))
