-- `host_words::pack::put_table` stores the table entry by entry.
-- Assumes nothing.
use Rattle.host_words.proofs.pack.Packing.{Storing}
use Rattle.host_words.proofs.pack.put_table.Given as goal

abbrev pub invariant-loop-i : goal.invariant-loop-i
invariant-loop-i l = Storing l.initial.w l.w l.fn.table l.i
