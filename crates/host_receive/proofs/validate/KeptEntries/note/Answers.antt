-- `host_receive::validate::Kept::note`: the entry is kept and marked.
-- Assumes nothing.
use Rattle.std.proofs.Common.{arith}
use Rattle.host_receive.proofs.validate.Overlay.{kept-marks}
use Rattle.host_receive.proofs.validate.KeptEntries.note.Goals as goal

pub returns : goal.returns
returns c =
    λ w table g like free.
    rw c.with_mark-self.ensures
    (kept-marks g _ (omega arith) _ _ c.put_entry.ensures.holds_entry c.put_entry.auto.w)
