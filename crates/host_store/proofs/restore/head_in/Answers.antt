-- `host_store::restore::head_in`: the first line's numbers, each where its width puts it.
-- Assumes nothing.
use Rattle.host_store.proofs.restore.Reading.{head-numbers}
use Rattle.host_store.proofs.restore.head_in.Goals as goal

pub returns : goal.returns
returns c =
    head-numbers _ _ c.u16_at.ensures c.u16_at-2.ensures c.u16_at-3.ensures c.number_in.ensures.0 c.u32_at.ensures
    c.u32_at-2.ensures
