-- `replay_text::answer::put_number`: the digits that the library gives are the number's, and stand behind the space.
-- Assumes nothing.
use Rattle.std.proofs.Common.{◌∙◌, arith}
use Rattle.replay_text.proofs.answer.Decimal.{decimal-is, few-digits}
use Rattle.replay_text.proofs.answer.AnswerLine.{number_put}
use Rattle.replay_text.proofs.answer.put_number.Goals as goal

pub overflow_add-result-2 : goal.overflow_add-result-2
overflow_add-result-2 c =
    omega (arith, c.requires, few-digits c.decimal-n.result c.args.x c.ranges.x.fits c.decimal-n.ensures.len.2)

pub returns : goal.returns
returns c =
    let a = c.args in
    let n = c.decimal-n.result in
    let k = c.decimal-n.ensures in
    let whole =
    number_put a.text.now _ c.decimal-n.new.out a.at a.x n k.in_bounds.1 (few-digits n a.x c.ranges.x.fits k.len.2)
    (k.digits ∙ decimal-is n a.x k.len.0 k.len.1 k.len.2)
    (omega arith) c.write.ensures.memory_after in
    record { value = whole.0; text_after = whole.1 }
