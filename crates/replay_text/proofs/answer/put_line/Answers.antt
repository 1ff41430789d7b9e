-- `replay_text::answer::put_line`: the text is made in a local array, and written whole or not at all.
-- Assumes nothing.
use Rattle.std.proofs.Common.{length, sym, ap, ◌∙◌, arith}
use Rattle.replay_text.proofs.answer.AnswerLine.{too_many, line-inside, line-put, no_room}
use Rattle.replay_text.proofs.answer.put_line.Goals as goal

pub returns-then-numbers-gt-NUMBERS_MOST : goal.returns-then-numbers-gt-NUMBERS_MOST
returns-then-numbers-gt-NUMBERS_MOST c =
    let a = c.args in
    let whole = too_many a.out.now a.at a.letter a.numbers.now c.if-numbers-gt-NUMBERS_MOST.true in
    record { value = whole.0; out_after = whole.1 }

pub slice_bounds-write-end : goal.slice_bounds-write-end
slice_bounds-write-end c = c.put_text-n.ensures.upper_bound.1 ∙ sym (ap length c.put_text-n.ensures.text_after)

pub overflow_add-result : goal.overflow_add-result
overflow_add-result c =
    let a = c.args in
    let text = c.put_text-n.ensures in
    let put = c.write.ensures in
    omega (
      arith,
      line-inside a.out.now a.at a.letter a.numbers.now _ _ _ _ c.if-numbers-gt-NUMBERS_MOST.false text.text_after
          text.upper_bound.1 put.value put.memory_after c.if-write.true,
    )

pub returns-then-write : goal.returns-then-write
returns-then-write c =
    let a = c.args in
    let text = c.put_text-n.ensures in
    let put = c.write.ensures in
    let whole =
    line-put a.out.now a.at a.letter a.numbers.now _ _ _ _ c.if-numbers-gt-NUMBERS_MOST.false text.text_after
    text.upper_bound.1 put.value put.memory_after c.if-write.true in
    record { value = whole.0; out_after = whole.1 }

pub returns : goal.returns
returns c =
    let a = c.args in
    let text = c.put_text-n.ensures in
    let put = c.write.ensures in
    let whole =
    no_room a.out.now a.at a.letter a.numbers.now _ _ _ _ c.if-numbers-gt-NUMBERS_MOST.false text.text_after
    text.upper_bound.1 put.value put.memory_after c.if-write.false in
    record { value = whole.0; out_after = whole.1 }
