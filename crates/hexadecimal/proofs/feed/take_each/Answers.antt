-- `hexadecimal::feed::take_each`: from character to character, as the definition goes.
-- Assumes nothing.
use mathlib.Core.Path.{◌≡◌, refl}
use native.Mathlib.Omega.{arith}
use borrow.Author.Tests.{not-true, not-false}
use Rattle.hexadecimal.proofs.line.Digits.{looked-up, value-is, value_none}
use Rattle.hexadecimal.proofs.line.Taking.{
  walked_start,
  walked-turn,
  walked-kept,
  walked-newline,
  walked_end,
  on-bad,
  on-high,
  on-full,
}
use Rattle.hexadecimal.proofs.feed.take_each.Goals as goal

pub loop-at-init : goal.loop-at-init
loop-at-init c = (walked_start _ _ _, omega arith, omega arith)

pub returns-then-c-eq10 : goal.returns-then-c-eq10
returns-then-c-eq10 c =
    let whole = (walked-newline c.loop-at.invariant.0 c.loop-at-test.true c.if-c-eq10.true) in
    record { value = whole.0; frame_after = whole.1 }

pub loop-at-preserved-then-d-gt15 : goal.loop-at-preserved-then-d-gt15
loop-at-preserved-then-d-gt15 c =
    let d-is = looked-up _ _ _ c.digit_values-values.ensures c.digit_value-d.ensures in (
      walked-turn c.loop-at.invariant.0 _ c.loop-at-test.true c.if-c-eq10.false
          (on-bad _ _ _ _ _ _ (value_none _ _ d-is c.if-d-gt15.true))
          refl,
      omega arith,
      omega arith,
    )

pub loop-at-preserved-then-not-line : goal.loop-at-preserved-then-not-line
loop-at-preserved-then-not-line c =
    let d-is = looked-up _ _ _ c.digit_values-values.ensures c.digit_value-d.ensures in (
      walked-turn c.loop-at.invariant.0 _ c.loop-at-test.true c.if-c-eq10.false
          (on-high _ _ _ _ _ _ _ (value-is _ _ d-is c.if-d-gt15.false) (not-true _ c.if-not-line.true))
          refl,
      omega arith,
      omega arith,
    )

pub loop-at-preserved-then-line-ge-COUNTED : goal.loop-at-preserved-then-line-ge-COUNTED
loop-at-preserved-then-line-ge-COUNTED c =
    let d-is = looked-up _ _ _ c.digit_values-values.ensures c.digit_value-d.ensures in (
      walked-turn c.loop-at.invariant.0 _ c.loop-at-test.true c.if-c-eq10.false
          (on-full _ _ _ _ _ _ _ (value-is _ _ d-is c.if-d-gt15.false)
          (not-false _ c.if-not-line.false) c.if-line-ge-COUNTED.true)
          refl,
      omega arith,
      omega arith,
    )

pub loop-at-preserved : goal.loop-at-preserved
loop-at-preserved c =
    let d-is = looked-up _ _ _ c.digit_values-values.ensures c.digit_value-d.ensures in (
      walked-kept c.loop-at.invariant.0 _ _ c.keep.ensures
          c.loop-at-test.true c.if-c-eq10.false
          (value-is _ _ d-is c.if-d-gt15.false) (not-false _ c.if-not-line.false)
          c.if-line-ge-COUNTED.false,
      omega arith,
      omega arith,
    )

pub returns : goal.returns
returns c =
    let whole = (walked_end c.loop-at.invariant.0 c.loop-at-test.false) in
    let last : c.max.result ≡ c.loop-at.at = omega arith in
    record { value = rw last whole.0; frame_after = whole.1 }
