-- What a read brought, and the buffer in which the answers of a replay wait to be written.
use Rattle.std.specs.Prelude.{◌≡◌, ℕ, ◌+◌, ◌≤◌, ◌<◌, min, Bool, true, false, List, ℤ, pos, negsuc, length, Option, Some, None, Result, Ok, Err}
use Rattle.replay_text.specs.AnswerLine.{line_end, with_line}
use Rattle.replay_text.specs.Report.{letter_of, numbers_of}
use Rattle.host.specs.declared.Answer.{Answer}
use Rattle.replay_output.specs.declared.Room.{Room}

-- What the answer to a read into a piece of this length means: a negative one that reading failed, and any other one
-- how many bytes came, 0 at the input's end.
unfoldable pub got_of : ℤ → ℕ → Option ℕ
got_of (pos k) len = Some (min k len)
got_of (negsuc k) len = None

-- No more is to come.
abbrev pub at_end : Option ℕ
at_end = Some 0

-- Nothing is kept, and nothing more is written.
abbrev pub stopped : Room
stopped = record { used = 0; failed = true }

-- Whether the used part was written: where nothing is used it was, and where more is used than there is it was not.
-- Else the operating system says it.
abbrev pub Writes : List ℕ → ℕ → Bool → Type 0
Writes out used written = (used ≡ 0 → written ≡ true) × (length out < used → written ≡ false)

-- Making room: after a failure it has failed, and so it has where more is used than there is; where the longest line
-- fits, all stays as it is; and else nothing is used, since what was there is written or lost. Which of the two is the
-- operating system's to say, but where nothing was used nothing is lost.
abbrev pub Makes : List ℕ → ℕ → Bool → Room → Type 0
Makes out used failed made =
    (failed ≡ true → made ≡ stopped)
    × (length out < used → made ≡ stopped)
    × (failed ≡ false → used + 170 ≤ length out → made ≡ record { used = used; failed = false })
    × (failed ≡ false → length out < used + 170 → made.used ≡ 0)
    × (failed ≡ false → used ≡ 0 → made ≡ record { used = 0; failed = false })

-- The answer's line behind what is used. A refused call has no line.
abbrev pub room_after : {E : Type 0} → List ℕ → Room → Result (Option Answer) E → Room
room_after out room (Ok (Some a)) = record {
  used = line_end out room.used (letter_of a) (numbers_of a);
  failed = room.failed;
}
room_after out room (Ok None) = room
room_after out room (Err reason) = room

abbrev pub out_after : {E : Type 0} → List ℕ → Room → Result (Option Answer) E → List ℕ
out_after out room (Ok (Some a)) = with_line out room.used (letter_of a) (numbers_of a)
out_after out room (Ok None) = out
out_after out room (Err reason) = out
