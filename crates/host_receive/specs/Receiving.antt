-- What the functions of receiving promise over lent words, by what the words hold.
use Rattle.std.specs.Prelude.{◌≡◌, ℕ, ◌^◌, ◌<◌, ◌≤◌, true, false, ◌≢◌, List, length}
use Rattle.seq.specs.Ring.{distance, frame_space}
use Rattle.bitmap.specs.Marks.{mark}
use Rattle.wire.specs.Reading.{number, flags, addressed}
use Rattle.host.specs.declared.Answer.{Answer}
use Rattle.host.specs.declared.Pair.{Pair}
use Rattle.host.specs.Host.{refused, receive_of, LeavesWords}
use Rattle.host_words.specs.Words.{word_count, other_length, pair_of}

-- Receiving a frame in 67 words: the pair that they hold then, the memory and the answer are those of the pair that
-- they held. Words of another number stay as they are, as does the memory, and the answer is no refusal of the rules.
-- The words themselves change only where the frame is accepted.
abbrev pub Receives : List ℕ → List ℕ → List ℕ → List ℕ → List ℕ → Answer → Type 0
Receives w f memory left memory-left a =
    (length w ≡ word_count
    → (pair_of left ≡ (receive_of (pair_of w) f memory).pair) × (memory-left ≡ (receive_of (pair_of w) f memory).memory)
    × (a ≡ (receive_of (pair_of w) f memory).answer))
    × (length w ≢ word_count → (left ≡ w) × (memory-left ≡ memory) × (a ≡ refused other_length 0))
    × LeavesWords a w left

-- ---- what the private function promises; nothing of this needs to be believed

-- A frame with messages whose header is in order.
pub record Awaited (p : Pair) (f : List ℕ) (num d : ℕ) : Type 0 where
  pub least : 10 ≤ length f
  pub most : length f ≤ 9000
  pub mine : addressed p.own p.peer f ≡ true
  pub flag : flags f ≡ 1
  pub num-is : num ≡ number f
  pub d-is : d ≡ distance frame_space p.next.0 num
  pub next_fits : p.next.0 < frame_space
  pub marks-fit : p.marks < 2 ^ 64

-- What is made of it where it is to be taken in.
abbrev pub TakesFrame : List ℕ → List ℕ → List ℕ → ℕ → List ℕ → List ℕ → Answer → Type 0
TakesFrame w f memory num left memory-left a =
    (d : ℕ) → Awaited (pair_of w) f num d → d < 64 → mark (pair_of w).marks d ≡ false → length w ≡ word_count
    → (pair_of left ≡ (receive_of (pair_of w) f memory).pair) × (memory-left ≡ (receive_of (pair_of w) f memory).memory)
    × (a ≡ (receive_of (pair_of w) f memory).answer) × LeavesWords a w left
