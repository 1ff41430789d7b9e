-- `host_words::describe::describe` stores the head, and then the open ones in turn.
-- Assumes nothing.
use mathlib.Core.Path.{refl, sym}
use native.Mathlib.Omega.{arith}
use lib.Dec.{lit≤}
use Rattle.host_words.proofs.describe.Filling.{storing-start, storing-turn, storing-done}
use Rattle.host_words.proofs.describe.describe.Goals as goal

pub slice_bounds-put_head-end : goal.slice_bounds-put_head-end
slice_bounds-put_head-end c = refl

pub put_head-requires : goal.put_head-requires
put_head-requires c = lit≤ tt

pub loop-j-init : goal.loop-j-init
loop-j-init c = storing-start _ _ _ c.count_open.ensures c.put_head.ensures

pub slice_bounds-put_open-end : goal.slice_bounds-put_open-end
slice_bounds-put_open-end c = sym c.loop-j.invariant.long

pub put_open-at-requires : goal.put_open-at-requires
put_open-at-requires c = (
  omega (arith, c.loop-j.invariant.long, c.loop-j.invariant.low, c.loop-j-test.true),
  omega (arith, c.loop-j.invariant.low, c.loop-j-test.true),
)

pub loop-j-preserved : goal.loop-j-preserved
loop-j-preserved c =
    storing-turn c.loop-j.invariant _ _
    c.loop-j-test.true c.put_open-at.ensures

pub returns : goal.returns
returns c = storing-done c.loop-j.invariant c.loop-j-test.false
