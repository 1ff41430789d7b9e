-- `show_frame`: the bytes of the part that is shown.
-- Assumes nothing.
use mathlib.Core.Path.{◌∙◌}
use Rattle.card_send.proofs.show.Parts.{shown-is, nothing-shown}
use Rattle.card_send.proofs.show.show_frame.Goals as goal

pub bytes_of-requires : goal.bytes_of-requires
bytes_of-requires c =
    let a = c.args in
    rw c.in-Ok.ensures.shown (shown-is a.words.now a.slots.now a.n.0).inside

pub returns-in-Ok : goal.returns-in-Ok
returns-in-Ok c =
    let a = c.args in
    c.bytes_of.ensures ∙ rw c.in-Ok.ensures.shown (shown-is a.words.now a.slots.now a.n.0).is

pub returns-in-Err : goal.returns-in-Err
returns-in-Err c =
    let a = c.args in
    nothing-shown a.words.now a.slots.now a.n.0 _ c.in-Err.ensures.refused
