-- The state of a replay from fragments as it is lent: nine words for the place that it has reached, 67 for the host, a
-- frame buffer of 9,000 bytes and the memory. Any words are a state.
use Rattle.std.specs.Prelude.{◌≡◌, ℕ, List}
use Rattle.host_words.specs.Words.{pair_of}
use Rattle.replay_text.specs.Feeding.{Replaying, at_start}
use Rattle.replay_text.specs.Place.{state_of}

abbrev pub replaying_of : List ℕ → List ℕ → List ℕ → List ℕ → Replaying
replaying_of place words frame memory = state_of place (pair_of words) frame memory

-- Just opened, whatever the frame buffer has.
abbrev pub OpensReplay : List ℕ → List ℕ → List ℕ → Type 0
OpensReplay place words memory = (frame : List ℕ) → replaying_of place words frame memory ≡ at_start
