-- `host_store::store::put_opens`: the lines put so far and those that are left.
-- Assumes nothing.
use Prim.Native.Nat.{◌-◌}
use Rattle.host_words.specs.Words.{pair_of}
use Rattle.host_store.proofs.store.Putting.{Puts}
use Rattle.host_store.proofs.store.put_opens.Given as goal

abbrev pub invariant-loop-j : goal.invariant-loop-j
invariant-loop-j l = Puts l.initial.out l.at (pair_of l.words) l.out l.end l.j

abbrev pub decreases-loop-j : goal.decreases-loop-j
decreases-loop-j l = 32 - l.j
