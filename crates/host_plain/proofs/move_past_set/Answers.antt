-- `host_plain::move_past_set` moves the marks place by place, as long as the first is set.
-- Assumes nothing.
use Rattle.std.proofs.Common.{arith}
use Rattle.host_plain.proofs.Marks.{set-le, passing-start, passing-turn, passing-done}
use Rattle.host_plain.proofs.move_past_set.Goals as goal

pub loop-marks-init : goal.loop-marks-init
loop-marks-init c = passing-start _ c.requires.0

pub overflow_add-places : goal.overflow_add-places
overflow_add-places c = omega (arith, c.loop-marks.invariant, set-le c.args.marks.now, c.requires.1)

pub loop-marks-smaller : goal.loop-marks-smaller
loop-marks-smaller c = (passing-turn c.loop-marks-test.true c.loop-marks.invariant c.move_one.ensures).1

pub loop-marks-preserved : goal.loop-marks-preserved
loop-marks-preserved c = (passing-turn c.loop-marks-test.true c.loop-marks.invariant c.move_one.ensures).0

pub returns : goal.returns
returns c =
    let whole = passing-done c.loop-marks-test.false c.loop-marks.invariant in
    record { value = whole.0; marks_after = whole.1 }
