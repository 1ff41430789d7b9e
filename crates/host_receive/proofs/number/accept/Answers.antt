-- `host_receive::number::accept`: the mark and the move of the frame window, and the run on the marks before it moves.
-- Assumes nothing.
use Rattle.std.proofs.Common.{ℕ, ap, ◌∙◌, arith}
use Rattle.bitmap.proofs.Marks.{ones-le}
use Rattle.host_receive.specs.Counting.{run_within}
use Rattle.host_receive.specs.Numbering.{accepted_head, run_of_accepted}
use Rattle.host_receive.proofs.number.accept.Goals as goal

pub overflow_cast-past : goal.overflow_cast-past
overflow_cast-past c = omega (arith, c.run_length-past.ensures, ones-le 64 c.with_mark-marked.result)

pub returns : goal.returns
unfolding accepted_head run_of_accepted
returns c =
    record {
      value =
          c.run_within-run.ensures
          ∙ ap (λ (marks : ℕ). run_within marks c.distance-d.result) c.with_mark-marked.ensures
          ∙ rw (
            c.distance-d.ensures,
            c.marks-marks.ensures,
            c.next-next.ensures,
          );
      words_after =
          c.put_head.ensures.w_after ∙ rw (
            c.shifted.ensures,
            c.advance.ensures,
            c.peer.ensures,
            c.own.ensures,
            c.run_length-past.ensures,
            c.with_mark-marked.ensures,
            c.distance-d.ensures,
            c.marks-marks.ensures,
            c.next-next.ensures,
          );
      accepts = λ l.
          c.put_head.ensures.holds_head l ∙ rw (
            c.shifted.ensures,
            c.advance.ensures,
            c.peer.ensures,
            c.own.ensures,
            c.run_length-past.ensures,
            c.with_mark-marked.ensures,
            c.distance-d.ensures,
            c.marks-marks.ensures,
            c.next-next.ensures,
          );
    }
