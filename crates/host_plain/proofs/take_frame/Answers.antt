-- `host_plain::take_frame`: a refusal leaves all as it was, and else the frame is marked.
-- Assumes nothing.
use Rattle.std.proofs.Common.{refl}
use Rattle.host_plain.proofs.Receiving.{stopped, took}
use Rattle.host_plain.proofs.take_frame.Goals as goal

pub returns-in-Err : goal.returns-in-Err
returns-in-Err c =
    let a = c.args in
    rw c.refuse.ensures (stopped a.pair a.f.now a.memory.now a.number.0 _ _ (rw (← c.in-Err.is) c.take_all_or_none.ensures))

pub returns-in-Ok : goal.returns-in-Ok
returns-in-Ok c =
    let a = c.args in
    took a.pair a.f.now a.memory.now a.number.0 _ _ (rw (← c.in-Ok.is) c.take_all_or_none.ensures) _ c.accept.ensures
    a.number refl _ c.run_from.ensures
