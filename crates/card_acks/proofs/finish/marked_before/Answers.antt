-- `marked_before`: the marks of those opened.
-- Assumes nothing.
use Rattle.card_acks.proofs.finish.InPlace.{finished-before}
use Rattle.card_acks.proofs.finish.marked_before.Goals as goal

pub returns : goal.returns
returns c =
    let a = c.args in
    finished-before a.words.now _ c.head_of-h.ensures _ _ c.opened.ensures c.below.ensures
