-- `host_plain::move_one`: the first is cleared, and goes round to the end.
-- Assumes nothing.
use Rattle.std.proofs.Common.{◌∙◌}
use Rattle.host_plain.proofs.Marks.{moved_round}
use Rattle.host_plain.proofs.move_one.Goals as goal

pub returns : goal.returns
returns c = c.rotate_left.ensures.after ∙ moved_round c.args.marks.now c.requires
