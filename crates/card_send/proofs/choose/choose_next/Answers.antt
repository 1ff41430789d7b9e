-- `choose_next`: the lent acknowledgement, or the bytes of the frame's part.
-- Assumes nothing.
use mathlib.Core.Path.{◌∙◌}
use Rattle.card_send.proofs.choose.Choosing.{frame-goes-out, lent-goes-out, nothing-goes-out}
use Rattle.card_send.proofs.choose.choose_next.Goals as goal

pub bytes_of-requires : goal.bytes_of-requires
bytes_of-requires c =
    let a = c.args in
    (frame-goes-out a.words.now a.slots.now a.ack.now c.in-Ok-Frame.part (rw c.in-Ok-Frame.field-0-is at c.in-Ok-Frame.ensures.chosen)).inside

pub returns-in-Ok-Acknowledgement : goal.returns-in-Ok-Acknowledgement
returns-in-Ok-Acknowledgement c =
    let a = c.args in
    lent-goes-out a.words.now a.slots.now a.ack.now (rw c.in-Ok-Acknowledgement.field-0-is at c.in-Ok-Acknowledgement.ensures.chosen)

pub returns-in-Ok-Frame : goal.returns-in-Ok-Frame
returns-in-Ok-Frame c =
    let a = c.args in
    c.bytes_of.ensures
    ∙ (frame-goes-out a.words.now a.slots.now a.ack.now c.in-Ok-Frame.part (rw c.in-Ok-Frame.field-0-is at c.in-Ok-Frame.ensures.chosen)).is

pub returns-in-Err : goal.returns-in-Err
returns-in-Err c =
    let a = c.args in
    nothing-goes-out a.words.now a.slots.now a.ack.now _ c.in-Err.ensures.refused
