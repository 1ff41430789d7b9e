-- `table_words::describe::describe` stores our ID, and then the places in turn.
-- Assumes nothing.
use mathlib.Core.Path.{refl}
use Rattle.table_words.proofs.describe.Describing.{storing-start, storing-turn, storing-done}
use Rattle.table_words.proofs.describe.describe.Goals as goal

pub loop-k-init : goal.loop-k-init
loop-k-init c = storing-start _ _ _ c.own.ensures refl

pub loop-k-preserved : goal.loop-k-preserved
loop-k-preserved c =
    storing-turn c.loop-k.invariant _ c.loop-k-test.true
    c.put_three.ensures

pub returns : goal.returns
returns c = storing-done c.loop-k.invariant c.loop-k-test.false
