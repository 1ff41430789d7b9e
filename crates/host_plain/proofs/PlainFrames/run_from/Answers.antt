-- `host_plain::PlainFrames::run_from` counts number after number.
-- Assumes nothing.
use Rattle.std.proofs.Common.{sym, ◌∙◌}
use Rattle.host_plain.proofs.Receiving.{counting-stops, counting-full, counting-on}
use Rattle.host_plain.proofs.PlainFrames.run_from.Goals as goal

pub returns-then-not-is_settled : goal.returns-then-not-is_settled
returns-then-not-is_settled c =
    counting-stops c.loop-run.invariant
    (sym c.is_settled.ensures ∙ c.if-not-is_settled.true)

pub loop-run-preserved : goal.loop-run-preserved
loop-run-preserved c =
    counting-on c.loop-run.invariant c.loop-run-test.true
    (sym c.is_settled.ensures ∙ c.if-not-is_settled.false) _ c.advance-number.ensures

pub returns : goal.returns
returns c = counting-full c.loop-run.invariant c.loop-run-test.false
