-- `host_store::restore::number_in`: the number in the bytes read so far, from the last on.
-- Assumes nothing.
use mathlib.Core.Path.{refl}
use Prim.Native.Nat.{◌+◌, ◌-◌}
use native.Mathlib.Omega.{arith}
use Rattle.host_store.proofs.restore.Reading.{numbered-start, numbered-room, numbered-turn}
use Rattle.host_store.proofs.restore.number_in.Goals as goal

pub loop-i-init : goal.loop-i-init
loop-i-init c = numbered-start _ _ _

pub overflow_mul-x : goal.overflow_mul-x
overflow_mul-x c = omega (arith, numbered-room c.loop-i.invariant c.requires.0 c.loop-i-test.true)

pub overflow_add-x-in-loop-i : goal.overflow_add-x-in-loop-i
overflow_add-x-in-loop-i c =
    omega (
      arith,
      c.type_inv.bytes (c.args.at + (c.loop-i.i - 1)),
      numbered-room c.loop-i.invariant c.requires.0 c.loop-i-test.true,
    )

pub loop-i-preserved : goal.loop-i-preserved
loop-i-preserved c =
    numbered-turn c.loop-i.invariant c.requires.0 c.loop-i-test.true _ _ refl refl
    (omega (arith, c.type_inv.bytes (c.args.at + (c.loop-i.i - 1))))
