-- `host_store::restore::read_bytes`: two digits a byte, and then the newline.
-- Assumes nothing.
use mathlib.Core.Path.{◌≡◌, ◌∙◌}
use Prim.Native.Nat.{ℕ, ◌+◌, ◌≤◌, ◌<◌}
use native.Mathlib.Omega.{arith}
use lib.ListN.{length-replicate}
use borrow.Author.Tests.{eq-eqb, ne_eqb}
use Rattle.std.specs.Prelude.{Option, None, Some, unwrap_or, IfSome}
use Rattle.host_store.proofs.restore.Reading.{taken-begun, taken-high, taken-low, taken-turn, taken-end}
use Rattle.host_store.proofs.restore.read_bytes.Goals as goal

-- A digit's value, and 16 where there is none.
digit-most : (o : Option ℕ) → IfSome o (λ d. d < 16) → unwrap_or o 16 ≤ 16
digit-most None h = omega arith
digit-most (Some d) h = omega (arith, h)

pub loop-byte-init : goal.loop-byte-init
loop-byte-init g c = taken-begun _ _ _ _ (length-replicate _ _)

pub returns-in_err-high : goal.returns-in_err-high
returns-in_err-high g c =
    let k = c.digit_value-low.ensures in
    rw c.from_residual.ensures
    (taken-high c.loop-byte.invariant 16 (unwrap_or c.digit_value-low.result 16) (omega arith)
    (c.in_err-high.ensures.value, omega arith) (k.value, digit-most _ k.digit) (omega arith))

pub returns-in_err-byte : goal.returns-in_err-byte
returns-in_err-byte g c =
    rw c.from_residual-in_err-byte.ensures
    (taken-low c.loop-byte.invariant c.in_ok-high.field-0 16 (omega arith)
    (c.in_ok-high.ensures.value, omega (arith, c.in_ok-high.ensures.digit)) (c.in_err-byte.ensures.value, omega arith)
    (omega arith))

pub loop-byte-preserved : goal.loop-byte-preserved
loop-byte-preserved g c =
    taken-turn c.loop-byte.invariant c.in_ok-high.field-0 c.in_ok-byte.field-0 (omega arith)
    (c.in_ok-high.ensures.value, omega (arith, c.in_ok-high.ensures.digit))
    (c.in_ok-byte.ensures.value, omega (arith, c.in_ok-byte.ensures.digit))
    (omega (arith, c.in_ok-high.ensures.digit)) (omega (arith, c.in_ok-byte.ensures.digit))

pub returns-then-text-from-eq10 : goal.returns-then-text-from-eq10
returns-then-text-from-eq10 g c =
    taken-end c.loop-byte.invariant (omega arith) ∙ rw (eq-eqb _ 10 c.if-text-from-eq10.true)

pub returns-else-text-from-eq10 : goal.returns-else-text-from-eq10
returns-else-text-from-eq10 g c =
    taken-end c.loop-byte.invariant (omega arith) ∙ rw (ne_eqb _ 10 c.if-text-from-eq10.false)
