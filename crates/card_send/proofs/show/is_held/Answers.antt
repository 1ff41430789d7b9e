-- `is_held`: sealed, and its mark is clear.
-- Assumes nothing.
use borrow.Author.Tests.{le-ltb}
use Rattle.card_send.proofs.show.Parts.{not-sealed, sealed-held}
use Rattle.card_send.proofs.show.is_held.Goals as goal

pub returns-then-d-unreleased : goal.returns-then-d-unreleased
returns-then-d-unreleased c =
    let a = c.args in
    sealed-held a.words.now _ c.head_of-h.ensures _ c.unreleased.ensures a.n.0 _
    c.distance-d.ensures
    c.if-d-unreleased.true _ c.is_marked.ensures

pub returns-else-d-unreleased : goal.returns-else-d-unreleased
returns-else-d-unreleased c =
    let a = c.args in
    rw (le-ltb _ _ c.if-d-unreleased.false)
    (not-sealed a.words.now _ c.head_of-h.ensures _ c.unreleased.ensures a.n.0 _
    c.distance-d.ensures
    c.if-d-unreleased.false)
