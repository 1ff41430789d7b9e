-- `table_words::describe::describe` stores our ID, and then the places in turn.
-- Assumes nothing.
use Rattle.table_words.proofs.describe.Describing.{Storing}
use Rattle.table_words.proofs.describe.describe.Given as goal

abbrev pub invariant-loop-k : goal.invariant-loop-k
invariant-loop-k l = Storing l.w l.out l.k
