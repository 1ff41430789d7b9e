-- `marked_now`: mark by mark, of the transactions opened.
-- Assumes nothing.
use mathlib.Core.Path.{sym, ◌∙◌}
use Rattle.bitmap.proofs.Marks.{none-marked, one_more}
use Rattle.card_words.specs.Words.{card_of}
use Rattle.card_acks.proofs.finish.InPlace.{within-32, one-is, finished-all, finished-is, lowest-is, looked-at}
use Rattle.card_acks.proofs.finish.marked_now.Goals as goal
use Rattle.card_acks.proofs.finish.marked_now.Goals.{then-is_finished, else-is_finished}

pub loop-i-init : goal.loop-i-init
loop-i-init c = none-marked 32 _

pub loop-i-preserved : goal.loop-i-preserved
loop-i-preserved c =
    let a = c.args in
    let w = a.words.now in
    let most = looked-at w _ c.head_of-h.ensures _ _ c.opened.ensures c.min-i-end.ensures in
    one_more 32 _ _ _ c.loop-i.invariant
    (within-32 (card_of w).sendings a.released.from.0 a.released.base.0 _ most _ c.loop-i-test.true)
    (c.is_finished.ensures
    ∙ one-is (card_of w).sendings a.released.from.0 a.released.base.0 _ most _ _ _ c.loop-i-test.true (finished-is w _ c.head_of-h.ensures) (lowest-is w _ c.head_of-h.ensures))
    (elim c.if-is_finished.branch [
      | then-is_finished w ↦ w.finished-is ∙ w.with_mark-finished.ensures ∙ sym (rw w.if-is_finished.true)
      | else-is_finished w ↦ w.finished-is ∙ sym (rw w.if-is_finished.false)
    ])

pub returns : goal.returns
returns c =
    let a = c.args in
    let w = a.words.now in
    let most = looked-at w _ c.head_of-h.ensures _ _ c.opened.ensures c.min-i-end.ensures in
    finished-all (card_of w).sendings a.released.from.0 a.released.base.0 _ most c.loop-i.invariant c.loop-i-test.false
