-- The state of a replay from fragments with the plain host: nine words for the place that it has reached, a plain pair,
-- which stands for a pair of the first host, a frame buffer of 9,000 bytes and the memory. Any words and any pair are a
-- state.
use Rattle.std.specs.Prelude.{◌≡◌, ℕ, List}
use Rattle.host_plain.specs.declared.PlainPair.{PlainPair}
use Rattle.host_equal.specs.Described.{pair_of_plain}
use Rattle.replay_text.specs.Feeding.{Replaying, at_start}
use Rattle.replay_text.specs.Place.{state_of}

abbrev pub replaying_of : List ℕ → PlainPair → List ℕ → List ℕ → Replaying
replaying_of place pair frame memory = state_of place (pair_of_plain pair) frame memory

-- Just opened, whatever the frame buffer has.
abbrev pub OpensReplay : List ℕ → PlainPair → List ℕ → Type 0
OpensReplay place pair memory = (frame : List ℕ) → replaying_of place pair frame memory ≡ at_start
