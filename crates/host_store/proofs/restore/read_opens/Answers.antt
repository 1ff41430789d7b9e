-- `host_store::restore::read_opens`: line by line, each in the entry that its number gives.
-- Assumes nothing.
use mathlib.Core.Path.{refl, sym, ap, ◌∙◌}
use native.Mathlib.Omega.{arith}
use Rattle.std.proofs.Common.{Some}
use Rattle.host_stored.specs.Form.{empty_table}
use Rattle.host_store.specs.Steps.{line_in}
use Rattle.host_store.proofs.restore.OpenLines.{left-start, left-none, left-bad, left-inside, left-turn, left_end}
use Rattle.host_store.proofs.restore.read_opens.Goals as goal

pub returns-then-text-ne0 : goal.returns-then-text-ne0
returns-then-text-ne0 c = left-none c.args.text.now _ _ c.requires c.if-text-ne0.true

pub loop-at-init : goal.loop-at-init
unfolding empty_table
loop-at-init c = left-start _ _ _ c.requires c.if-text-ne0.false

pub returns-in_err-line : goal.returns-in_err-line
returns-in_err-line c =
    rw c.from_residual.ensures
    (left-bad c.loop-at.invariant
    c.loop-at-test.true _ (sym (ap line_in c.in_err-line.was) ∙ c.read_open.ensures) refl)

pub overflow_add-least : goal.overflow_add-least
overflow_add-least c =
    omega (
      arith,
      c.distance-least.ensures,
      left-inside
          c.loop-at.invariant
          c.loop-at-test.true (line_in (Some c.in_ok-line.line))
          (sym (ap line_in c.in_ok-line.was) ∙ c.read_open.ensures) refl,
    )

pub loop-at-preserved : goal.loop-at-preserved
loop-at-preserved c =
    left-turn c.loop-at.invariant
    c.loop-at-test.true (line_in (Some c.in_ok-line.line))
    (sym (ap line_in c.in_ok-line.was) ∙ c.read_open.ensures)
    refl _ c.distance-least.ensures

pub returns-else-text-ne0 : goal.returns-else-text-ne0
returns-else-text-ne0 c = left_end c.loop-at.invariant c.loop-at-test.false

-- The last step: no more is left.
pub returns-in_ok-line : goal.returns-in_ok-line
returns-in_ok-line c =
    let last =
    left-turn c.loop-at.invariant
    c.loop-at-test.true (line_in (Some c.in_ok-line.line))
    (sym (ap line_in c.in_ok-line.was) ∙ c.read_open.ensures)
    refl _ c.distance-least.ensures in
    left_end last (omega arith)
