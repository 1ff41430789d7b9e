-- `acknowledged_marks`: marked before or in the range, and sealed.
-- Assumes nothing.
use Rattle.card_acks.proofs.cover.InPlace.{acknowledged-by}
use Rattle.card_acks.proofs.cover.acknowledged_marks.Goals as goal

pub returns : goal.returns
returns c =
    let a = c.args in
    acknowledged-by a.words.now _ c.head_of-h.ensures a.range.start.0 a.range.count _ _ _ c.unreleased.ensures
    c.covered.ensures c.below-sealed.ensures
