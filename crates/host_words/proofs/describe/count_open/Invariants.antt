-- `host_words::describe::count_open` counts the open ones.
-- Assumes nothing.
use Prim.Native.Nat.{◌-◌}
use Rattle.host_words.specs.Words.{pair_of}
use Rattle.host_words.proofs.describe.Filling.{Counting}
use Rattle.host_words.proofs.describe.count_open.Given as goal

abbrev pub invariant-loop-j : goal.invariant-loop-j
invariant-loop-j l = Counting (pair_of l.words) l.count l.j

abbrev pub decreases-loop-j : goal.decreases-loop-j
decreases-loop-j l = 32 - l.j
