-- `table_register::open`: place by place.
-- Assumes nothing.
use Rattle.table_register.proofs.Changing.{Freed}
use Rattle.table_register.proofs.open.Given as goal

abbrev pub invariant-loop-k : goal.invariant-loop-k
invariant-loop-k l = Freed l.words l.own l.k
