-- `replay_text::answer::put_text` puts number behind number, and a newline behind the last.
-- Assumes nothing.
use Rattle.std.proofs.Common.{arith}
use Rattle.replay_text.proofs.answer.AnswerLine.{begun-start, begun-turn, begun-done}
use Rattle.replay_text.proofs.answer.put_text.Goals as goal

pub loop-x-init : goal.loop-x-init
loop-x-init c = begun-start _ _ c.args.text.now (omega arith) c.requires

pub put_number-n-requires : goal.put_number-n-requires
put_number-n-requires c = omega (arith, c.loop-x.invariant)

pub loop-x-preserved : goal.loop-x-preserved
loop-x-preserved c =
    let put = c.put_number-n.ensures in
    begun-turn c.loop-x.invariant _ _ c.loop-x-test.true put.value.0 put.value.1 put.text_after

pub bounds-text-n : goal.bounds-text-n
bounds-text-n c = omega (arith, c.loop-x.invariant)

pub overflow_add-result : goal.overflow_add-result
overflow_add-result c = omega (arith, c.loop-x.invariant)

pub returns : goal.returns
returns c =
    let whole = begun-done c.loop-x.invariant c.loop-x-test.false in
    record { upper_bound = whole.0; text_after = whole.1 }
