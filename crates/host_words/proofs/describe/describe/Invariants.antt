-- `host_words::describe::describe` stores the head, and then the open ones in turn.
-- Assumes nothing.
use Prim.Native.Nat.{◌-◌}
use Rattle.host_words.specs.Words.{pair_of}
use Rattle.host_words.proofs.describe.Filling.{Storing}
use Rattle.host_words.proofs.describe.describe.Given as goal

abbrev pub invariant-loop-j : goal.invariant-loop-j
invariant-loop-j l = Storing (pair_of l.words) l.out l.at l.j

abbrev pub decreases-loop-j : goal.decreases-loop-j
decreases-loop-j l = 32 - l.j
