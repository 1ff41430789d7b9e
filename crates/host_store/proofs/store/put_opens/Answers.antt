-- `host_store::store::put_opens`: the lines put so far and those that are left.
-- Assumes nothing.
use Rattle.host_store.proofs.store.Putting.{puts-room, puts-turn, puts-end}
use Rattle.host_store.proofs.store.put_opens.Goals as goal

pub put_open-end-requires : goal.put_open-end-requires
put_open-end-requires c = puts-room c.loop-j.invariant c.loop-j-test.true

pub loop-j-preserved : goal.loop-j-preserved
loop-j-preserved c =
    puts-turn c.loop-j.invariant c.loop-j-test.true _ _ c.put_open-end.auto.out
    c.put_open-end.ensures.value c.put_open-end.ensures.out_after

pub returns : goal.returns
returns c = puts-end c.loop-j.invariant c.loop-j-test.false
