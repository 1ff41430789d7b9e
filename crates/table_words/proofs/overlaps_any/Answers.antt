-- `table_words::overlaps_any`: place by place.
-- Assumes nothing.
use Rattle.table_words.proofs.Laws.{clear-start, clear-turn, clear-found, clear-done}
use Rattle.table_words.proofs.overlaps_any.Goals as goal

pub loop-k-init : goal.loop-k-init
loop-k-init c = clear-start _ _ _

pub returns-then-overlaps_at : goal.returns-then-overlaps_at
returns-then-overlaps_at c =
    clear-found _ c.loop-k-test.true c.loop-k.invariant
    c.overlaps_at.ensures c.if-overlaps_at.true

pub loop-k-preserved : goal.loop-k-preserved
loop-k-preserved c =
    clear-turn _ c.loop-k-test.true c.loop-k.invariant
    c.overlaps_at.ensures c.if-overlaps_at.false

pub returns : goal.returns
returns c = clear-done c.loop-k-test.false c.loop-k.invariant
