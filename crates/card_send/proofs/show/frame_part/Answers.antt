-- `frame_part`: the slot's start and the frame's length, where they lie in the slots.
-- Assumes nothing.
use Rattle.card_send.proofs.show.Parts.{frame-inside, frame-outside}
use Rattle.card_send.proofs.show.frame_part.Goals as goal

pub returns-then-offset-len : goal.returns-then-offset-len
returns-then-offset-len c =
    let a = c.args in
    frame-inside a.words.now _ c.head_of-h.ensures a.slots.now a.n.0 _ _
    c.slot_start-offset.ensures.0
    c.size_at-len.ensures c.if-offset-len.true

pub returns : goal.returns
returns c =
    let a = c.args in
    frame-outside a.words.now _ c.head_of-h.ensures a.slots.now a.n.0 _ _
    c.slot_start-offset.ensures.0
    c.size_at-len.ensures c.if-offset-len.false
