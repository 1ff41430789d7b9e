-- `host_store::restore::open_in`: a transaction's numbers, each where its width puts it.
-- Assumes nothing.
use Rattle.host_store.proofs.restore.Reading.{open-numbers}
use Rattle.host_store.proofs.restore.open_in.Goals as goal

pub returns : goal.returns
returns c = open-numbers _ _ c.u32_at.ensures c.u32_at-2.ensures c.u16_at.ensures c.u16_at-2.ensures
