-- `host_store::store::put_line`: two characters a byte, and a newline; the invariant says what is left to put.
-- Assumes nothing.
use mathlib.Core.Path.{refl}
use native.Mathlib.Omega.{arith}
use Rattle.host_store.proofs.store.Putting.{put-turn, put-end}
use Rattle.host_store.proofs.store.put_line.Goals as goal

pub loop-b-preserved : goal.loop-b-preserved
loop-b-preserved c =
    put-turn _ _ _ c.loop-b.invariant c.loop-b-test.true refl c.digit.ensures
    c.digit-in-loop-b.ensures

pub returns : goal.returns
returns c =
    record {
      value = omega arith;
      out_after = put-end c.loop-b.invariant c.loop-b-test.false;
    }
