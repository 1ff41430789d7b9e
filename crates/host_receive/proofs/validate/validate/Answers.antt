-- `host_receive::validate::validate`: no entry is changed at the start.
-- Assumes nothing.
use Rattle.std.proofs.Common.{refl}
use Rattle.host_receive.proofs.validate.Overlay.{apart-start, kept-start}
use Rattle.host_receive.proofs.validate.validate.Goals as goal

pub find-requires : goal.find-requires
find-requires c = apart-start _

pub find-requires-in-Err-MetAgain : goal.find-requires-in-Err-MetAgain
find-requires-in-Err-MetAgain c = kept-start _ _ refl
