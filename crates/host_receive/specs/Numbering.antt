-- The window of frame numbers in lent words. Nothing of this needs to be believed: host_receive/proofs/Awaiting.antt
-- shows that it is what by_number and accepting of host/specs/Host.antt say.
use Rattle.std.specs.Prelude.{◌≡◌, ℕ, Bool, false, cond, not, List, length, nat_le}
use Rattle.seq.specs.Ring.{distance, frame_space}
use Rattle.bitmap.specs.Marks.{mark, with_mark}
use Rattle.bitmap.specs.Window.{marked_and_moved}
use Rattle.host_receive.specs.Counting.{run_within}
use Rattle.host_words.specs.declared.Head.{Head}
use Rattle.host_words.specs.Words.{word_count, pair_of, head_part, joined}

-- Whether a frame d past the next one is in the window and was not accepted yet.
unfoldable pub is_new : ℕ → ℕ → Bool
is_new marks d = cond (nat_le 64 d) false (not (mark marks d))

-- What stands before the table after a frame was accepted, with the transactions' window that it leaves.
unfoldable pub accepted_head : Head → ℕ → ℕ → ℕ → Head
accepted_head h num lowest closed =
    let window = marked_and_moved frame_space 64 h.next.0 h.marks num in
    record {
      own = h.own;
      peer = h.peer;
      next = record { 0 = window.first };
      marks = window.marks;
      lowest = record { 0 = lowest };
      closed = closed;
    }

-- The run of numbers that an accepted frame acknowledges, counted on the marks before the window moves.
unfoldable pub run_of_accepted : Head → ℕ → ℕ
run_of_accepted h num =
    let d = distance frame_space h.next.0 num in
    run_within (with_mark 64 h.marks d) d

abbrev pub Accepts : List ℕ → List ℕ → ℕ → ℕ → ℕ → Type 0
Accepts w left num lowest closed =
    length w ≡ word_count → pair_of left ≡ joined (accepted_head (head_part (pair_of w)) num lowest closed) (pair_of w).table
