-- `host_plain::move_past_set` moves the marks place by place, as long as the first is set.
-- Assumes nothing.
use Rattle.host_plain.specs.Plain.{leading_set}
use Rattle.host_plain.proofs.Marks.{Passing}
use Rattle.host_plain.proofs.move_past_set.Given as goal

abbrev pub invariant-loop-marks : goal.invariant-loop-marks
invariant-loop-marks l = Passing l.initial.marks l.marks l.places

abbrev pub decreases-loop-marks : goal.decreases-loop-marks
decreases-loop-marks l = leading_set l.marks
