-- `wire_write::set_follows`: a byte past the slot's end is none.
-- Assumes nothing.
use mathlib.Core.Path.{refl, sym}
use Prim.Native.Nat.{◌+◌}
use native.Mathlib.Omega.{arith}
use lib.Seq.{set_out}
use Rattle.wire_write.proofs.set_follows.Goals as goal

pub returns-then-slot-lt-MESSAGE_HEADER : goal.returns-then-slot-lt-MESSAGE_HEADER
returns-then-slot-lt-MESSAGE_HEADER c = let a = c.args in sym (set_out a.slot.now (a.last + 23) 1 (omega arith))

pub returns-then-slot-last : goal.returns-then-slot-last
returns-then-slot-last c = let a = c.args in sym (set_out a.slot.now (a.last + 23) 1 (omega arith))

pub returns : goal.returns
returns c = refl
