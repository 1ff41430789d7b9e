-- `hexadecimal::feed::take_each`: from character to character, as the definition goes.
-- Assumes nothing.
use Prim.Native.Nat.{◌≤◌, max}
use lib.ListN.{length}
use Rattle.hexadecimal.specs.Walking.{state_of, Walked}
use Rattle.hexadecimal.proofs.feed.take_each.Given as goal

abbrev pub invariant-loop-at : goal.invariant-loop-at
invariant-loop-at l =
    Walked (state_of l.fn.line l.fn.frame) l.piece l.from (state_of l.line l.frame) l.at
    × (l.from ≤ l.at) × (l.at ≤ max l.from (length l.piece))
