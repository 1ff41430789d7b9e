-- `hexadecimal::pairs::take_pairs`: each turn takes a pair of what is left to take, and the piece has two characters for each.
-- Assumes nothing.
use native.Mathlib.Omega.{arith}
use lib.ListN.{length}
use Rattle.hexadecimal.proofs.line.Digits.{looked-up}
use Rattle.hexadecimal.proofs.pairs.Laws.{most-kept, left-start, left-waiting, left-stops, left-turn, left-done}
use Rattle.hexadecimal.proofs.pairs.take_pairs.Goals as goal

pub returns-then-line : goal.returns-then-line
returns-then-line c =
    let whole = (left-waiting _ _ _ _ c.if-line.true) in
    record { value = whole.0; frame_after = whole.1 }

pub overflow_add-until : goal.overflow_add-until
overflow_add-until c = let a = c.args in omega (arith, most-kept a.line.len (length a.frame.now) a.from (length a.piece.now))

pub loop-len-init : goal.loop-len-init
loop-len-init c = left-start _ _ _ _ _ c.if-line.false (omega arith)

pub returns-then-high-gt15 : goal.returns-then-high-gt15
returns-then-high-gt15 c =
    let whole = (left-stops c.loop-len.invariant c.loop-len-test.true _ _
    (looked-up _ _ _ c.digit_values-values.ensures c.digit_value-high.ensures)
    (looked-up _ _ _ c.digit_values-values.ensures c.digit_value-low.ensures)
    c.then-high-gt15.either) in
    record { value = whole.0; frame_after = whole.1 }

pub loop-len-preserved : goal.loop-len-preserved
loop-len-preserved c =
    left-turn c.loop-len.invariant c.loop-len-test.true _ _
    (looked-up _ _ _ c.digit_values-values.ensures c.digit_value-high.ensures)
    (looked-up _ _ _ c.digit_values-values.ensures c.digit_value-low.ensures)
    c.if-high-gt15.false c.if-low-gt15.false

pub returns-after-loop-len : goal.returns-after-loop-len
returns-after-loop-len c =
    let whole = (left-done c.loop-len.invariant c.loop-len-test.false) in
    record { value = whole.0; frame_after = whole.1 }
