-- `host_words::describe::count_open` counts the open ones.
-- Assumes nothing.
use mathlib.Core.Path.{◌∙◌}
use native.Mathlib.Omega.{arith}
use borrow.Author.Tests.{lt-ltb, le-ltb}
use Rattle.host_words.proofs.describe.Filling.{counting-start, counting-turn, counting-done}
use Rattle.host_words.proofs.describe.count_open.Goals as goal
use Rattle.host_words.proofs.describe.count_open.Goals.{then-o-gt0, else-o-gt0}

pub loop-j-init : goal.loop-j-init
loop-j-init c = counting-start _

pub overflow_add-count : goal.overflow_add-count
overflow_add-count c = omega (arith, c.loop-j.invariant)

pub loop-j-preserved : goal.loop-j-preserved
loop-j-preserved c =
    counting-turn c.loop-j.invariant _ c.loop-j-test.true
    (elim c.if-o-gt0.branch [
      | then-o-gt0 w ↦ w.count-is ∙ rw (← c.entry_at-o.ensures, lt-ltb _ _ w.if-o-gt0.true)
      | else-o-gt0 w ↦ w.count-is ∙ rw (← c.entry_at-o.ensures, le-ltb _ _ w.if-o-gt0.false)
    ])

pub returns : goal.returns
returns c = counting-done c.loop-j.invariant c.loop-j-test.false
