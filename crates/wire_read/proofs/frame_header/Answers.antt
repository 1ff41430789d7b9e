-- `wire_read::frame_header`: the fields of the first ten bytes are the frame's.
-- Assumes nothing.
use mathlib.Core.Path.{◌∙◌}
use Rattle.wire_read.proofs.Parts.{header-part}
use Rattle.wire_read.proofs.frame_header.Goals as goal

pub returns-in-Some : goal.returns-in-Some
returns-in-Some c =
    c.header_fields.ensures ∙ rw c.in-Some.ensures.cases.same (header-part c.args.f.now)
