-- `wire_write::headers::ack_frame`: the start is 0 where nothing is acknowledged.
-- Assumes nothing.
use mathlib.Core.Path.{◌∙◌}
use borrow.Author.Tests.{eq-eqb, ne_eqb}
use Rattle.wire.specs.Writing.{ack_frame}
use Rattle.wire_write.proofs.headers.ack_frame.Goals as goal

pub returns-then-count-eq0 : goal.returns-then-count-eq0
unfolding ack_frame
returns-then-count-eq0 c = c.frame_head.ensures ∙ rw (eq-eqb _ _ c.if-count-eq0.true)

pub returns : goal.returns
unfolding ack_frame
returns c = c.frame_head-2.ensures ∙ rw (ne_eqb _ _ c.if-count-eq0.false)
