-- `is_taking`: opened, and not all of its messages are added.
-- Assumes nothing.
use borrow.Author.Tests.{le-ltb}
use Rattle.card_build.proofs.admit.InPlace.{takes_none, takes-some}
use Rattle.card_build.proofs.admit.is_taking.Goals as goal

pub returns-then-distance-opened : goal.returns-then-distance-opened
returns-then-distance-opened c =
    let a = c.args in
    takes-some a.words.now _ c.head_of-h.ensures _ c.opened.ensures a.t.0 _
    c.distance.ensures
    c.if-distance-opened.true _ _ c.sending_at-e.ensures c.messages_needed.ensures

pub returns-else-distance-opened : goal.returns-else-distance-opened
returns-else-distance-opened c =
    let a = c.args in
    rw (le-ltb _ _ c.if-distance-opened.false)
    (takes_none a.words.now _ c.head_of-h.ensures _ c.opened.ensures a.t.0 _
    c.distance.ensures
    c.if-distance-opened.false)
