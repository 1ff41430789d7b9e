-- `is_finished`: the mark, or what is known of the transaction.
-- Assumes nothing.
use mathlib.Core.Path.{◌≡◌, ◌∙◌}
use Rattle.bitmap.specs.Marks.{mark}
use Rattle.card_acks.specs.Finishing.{finished_now}
use Rattle.card_acks.proofs.finish.InPlace.{entry-is}
use Rattle.card_acks.proofs.finish.is_finished.Goals as goal

pub returns-then-is_marked : goal.returns-then-is_marked
unfolding finished_now
returns-then-is_marked c =
    let a = c.args in
    let m : c.is_marked.result ≡ mark a.h.finished a.i = c.is_marked.ensures in
    rw (← m, c.if-is_marked.true)

pub returns : goal.returns
unfolding finished_now
returns c =
    let a = c.args in
    let m : c.is_marked.result ≡ mark a.h.finished a.i = c.is_marked.ensures in
    rw (← m, c.if-is_marked.false)
    (c.is_all_released.ensures
    ∙ rw (c.sending_at-e.ensures, c.advance.ensures, entry-is _ a.h.lowest.0 a.i))
