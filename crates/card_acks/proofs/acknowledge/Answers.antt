-- `acknowledge`: the frames are marked and released, then transactions finish.
-- Assumes nothing.
use native.Mathlib.Omega.{arith}
use Rattle.bitmap.proofs.Marks.{ones-le}
use Rattle.card_acks.proofs.InPlace.{released-now}
use Rattle.card_acks.proofs.acknowledge.Goals as goal

pub overflow_cast-run : goal.overflow_cast-run
overflow_cast-run c =
    omega (
      arith,
      c.run_length-run.ensures,
      ones-le 64 c.acknowledged_marks-acked.result,
    )

pub returns : goal.returns
returns c =
    let a = c.args in
    λ l. released-now a.words.now _ c.head_of-h.ensures a.range.start.0 a.range.count _ _ _ _ _ _ _ _ _
    c.acknowledged_marks-acked.ensures c.run_length-run.ensures c.shifted.ensures c.advance-base.ensures
    c.finished_marks-finished.ensures c.run_length-gone.ensures c.shifted-2.ensures c.advance.ensures
    (c.put_head.ensures.0 l)
