-- `host_receive::validate::Apart::note`: the entry is marked, or it was empty and is empty again.
-- Assumes nothing.
use Rattle.std.proofs.Common.{arith}
use Rattle.host_receive.proofs.validate.Overlay.{apart-marks}
use Rattle.host_receive.proofs.validate.ApartEntries.note.Goals as goal

pub returns-then-not-o : goal.returns-then-not-o
returns-then-not-o c = λ w table g like free. rw c.with_mark-self.ensures (apart-marks g _ (omega arith) _)
