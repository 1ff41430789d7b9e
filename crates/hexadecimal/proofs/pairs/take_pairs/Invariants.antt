-- `hexadecimal::pairs::take_pairs`: each turn takes a pair of what is left to take, and the piece has two characters for each.
-- Assumes nothing.
use Prim.Native.Nat.{◌-◌}
use Rattle.hexadecimal.proofs.pairs.Laws.{Left}
use Rattle.hexadecimal.proofs.pairs.take_pairs.Given as goal

abbrev pub invariant-loop-len : goal.invariant-loop-len
invariant-loop-len l = Left l.line l.fn.frame l.piece l.from l.until l.len l.half l.at l.frame

abbrev pub decreases-loop-len : goal.decreases-loop-len
decreases-loop-len l = l.until - l.len
