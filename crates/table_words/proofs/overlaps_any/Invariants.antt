-- `table_words::overlaps_any`: place by place.
-- Assumes nothing.
use Rattle.table_words.proofs.Laws.{Clear}
use Rattle.table_words.proofs.overlaps_any.Given as goal

abbrev pub invariant-loop-k : goal.invariant-loop-k
invariant-loop-k l = Clear l.w l.first l.size l.k
