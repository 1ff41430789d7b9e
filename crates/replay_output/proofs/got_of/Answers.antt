-- `replay_output::got_of`: by whether the answer is negative.
-- Assumes nothing.
use Rattle.replay_output.proofs.Getting.{got-failed, got-some}
use Rattle.replay_output.proofs.got_of.Goals as goal

pub returns-then-said-lt0 : goal.returns-then-said-lt0
returns-then-said-lt0 c = got-failed c.args.said _ c.ranges.said c.if-said-lt0.true

pub returns : goal.returns
returns c = got-some c.args.said _ c.ranges.said _ c.if-said-lt0.false c.count.ensures.value
