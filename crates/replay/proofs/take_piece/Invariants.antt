-- `replay::take_piece`: each turn takes at least one character.
-- Assumes nothing.
use Rattle.std.proofs.Common.{length}
use Rattle.replay.proofs.take_piece.Given as goal

abbrev pub decreases-loop-rest : goal.decreases-loop-rest
decreases-loop-rest g l = length l.rest
