-- The table of digits; and how far a walk over a piece has come, which proofs follow.
use Rattle.std.specs.Prelude.{◌≡◌, List, [], ◌∷◌, ℕ, zero, suc, ◌+◌, length, drop}
use Rattle.hexadecimal.specs.Line.{digit, up_to_newline, has_newline}
use Rattle.hexadecimal.specs.Taking.{State, value_or16, after}
use Rattle.hexadecimal.specs.declared.line.Line.{Line}

-- The values of n characters, from character i on.
unfoldable pub values_from : ℕ → ℕ → List ℕ
values_from zero i = []
values_from (suc n) i = value_or16 (digit i) ∷ values_from n (suc i)

unfoldable pub digit_values : List ℕ
digit_values = values_from 256 0

abbrev pub state_of : Line → List ℕ → State
state_of line frame = record { line = line; frame = frame }

-- A walk over a piece that began at one index and in one state has come to another: going on from there gives the
-- state, the index and the end that the whole walk gives.
pub record Walked (begun : State) (piece : List ℕ) (from : ℕ) (s : State) (at : ℕ) : Type 0 where
  pub size : length s.frame ≡ length begun.frame
  pub is : after begun (up_to_newline (drop from piece)) ≡ after s (up_to_newline (drop at piece))
  pub at-is : from + length (up_to_newline (drop from piece)) ≡ at + length (up_to_newline (drop at piece))
  pub ended_is : has_newline (drop from piece) ≡ has_newline (drop at piece)
