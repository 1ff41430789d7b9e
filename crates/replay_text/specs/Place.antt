-- The place of a replay from fragments as nine lent words; the state that it holds together with a pair, a frame buffer
-- and a memory; and what a call does with the words before and after a host is asked. Any words are a place.
use Rattle.std.specs.Prelude.{◌≡◌, ℕ, ◌+◌, ◌%◌, ◌^◌, Bool, false, cond, not, List, [], ◌∷◌, length, ◌==◌, nat_le, slice_index, Option, Result, Ok, Err}
use Rattle.refusal.specs.declared.Reason.{Reason}
use Rattle.refusal.specs.declared.Reason.TheVariants.{ReplayClosed}
use Rattle.hexadecimal.specs.declared.line.Line.{Line}
use Rattle.hexadecimal.specs.Taking.{start, taken_from, frame_after, empty_line}
use Rattle.host.specs.declared.Answer.{Answer}
use Rattle.host.specs.declared.Pair.{Pair}
use Rattle.replay_text.specs.declared.line.Totals.{Totals}
use Rattle.replay_text.specs.Report.{answered_line, totalled}
use Rattle.replay_text.specs.Text.{lines_most}
use Rattle.replay_text.specs.Feeding.{Replaying, Step, ClosedStep}
use Rattle.replay_text.specs.Describing.{held_of}
use Rattle.replay_text.specs.Reply.{Reply}
use Rattle.replay_text.specs.declared.place.Place.{Place}
use Rattle.replay_text.specs.declared.place.Taking.{Taking}
use Rattle.replay_text.specs.declared.place.Fed.{Fed}
use Rattle.replay_text.specs.declared.place.Closed.{Closed}

-- ---- the words

-- A word that is not 0 says yes.
abbrev pub is_set : ℕ → Bool
is_set word = not (word == 0)

-- The totals so far in words 0 to 2, the count of answered lines in 3, whether it is closed in 4, and in 5 to 8 what is
-- known of the line being read: its bytes, the digit that waits, whether one does, and whether a character was bad.
abbrev pub totals_in : List ℕ → Totals
totals_in place = record { messages = slice_index place 0; bytes = slice_index place 1; completed = slice_index place 2 }

abbrev pub lines_in : List ℕ → ℕ
lines_in place = slice_index place 3

abbrev pub closed_in : List ℕ → Bool
closed_in place = is_set (slice_index place 4)

abbrev pub line_of : List ℕ → Line
line_of place = record {
  len = slice_index place 5;
  half = slice_index place 6 % 16;
  odd = is_set (slice_index place 7);
  bad = is_set (slice_index place 8);
}

abbrev pub place_words : Totals → ℕ → ℕ → Line → List ℕ
place_words totals lines closed line =
    totals.messages ∷ totals.bytes ∷ totals.completed ∷ lines ∷ closed ∷ line.len ∷ line.half
    ∷ cond line.odd 1 0 ∷ cond line.bad 1 0 ∷ []

abbrev pub place_of : List ℕ → Place
place_of place = record {
  totals = totals_in place;
  lines = lines_in place;
  closed = slice_index place 4;
  line = line_of place;
}

-- ---- the state, with whatever host describes the pair; the line's bytes stand at the start of the frame buffer

abbrev pub state_of : List ℕ → Pair → List ℕ → List ℕ → Replaying
state_of place pair frame memory = record {
  pair = pair;
  memory = memory;
  held = held_of (line_of place) frame;
  totals = totals_in place;
  lines = lines_in place;
  closed = closed_in place;
}

-- What a host says of the line being read: its answer, and the pair and the memory that it leaves.
abbrev pub Answers : List ℕ → Pair → List ℕ → List ℕ → Answer → Pair → List ℕ → Type 0
Answers place pair frame memory answer pair_left memory-left =
    (answer ≡ (answered_line pair (line_of place) frame memory).answer)
    × ((pair_left ≡ (answered_line pair (line_of place) frame memory).pair)
    × (memory-left ≡ (answered_line pair (line_of place) frame memory).memory))

-- What the calls answer of a step: a refused one has neither a count of bytes nor totals.
abbrev pub fed_with : Reply → ℕ → Result Fed Reason
fed_with (Ok answer) taken = Ok (record { answer = answer; taken = taken })
fed_with (Err reason) taken = Err reason

abbrev pub fed_of : Step Replaying → Result Fed Reason
fed_of step = fed_with step.reply step.taken

abbrev pub closed_with : Reply → Totals → Result Closed Reason
closed_with (Ok answer) totals = Ok (record { answer = answer; totals = totals })
closed_with (Err reason) totals = Err reason

abbrev pub closed_of : ClosedStep → Result Closed Reason
closed_of step = closed_with step.reply step.totals

-- ---- taking a fragment in: refused once closed, used up once full, and else taken up to its newline

abbrev pub opened : ℕ → Result Unit Reason
opened closed = cond (is_set closed) (Err ReplayClosed) (Ok tt)

unfoldable pub noted : List ℕ → Line → List ℕ
noted place line = place_words (totals_in place) (lines_in place) (slice_index place 4) line

unfoldable pub taking_of : List ℕ → List ℕ → List ℕ → Result Taking Reason
taking_of place frame fragment =
    cond (closed_in place) (Err ReplayClosed)
    (cond (nat_le lines_most (lines_in place)) (Ok (record { taken = length fragment; ended = false }))
    (Ok (record {
      taken = (taken_from (line_of place) frame 0 fragment).at;
      ended = (taken_from (line_of place) frame 0 fragment).ended;
    })))

unfoldable pub place_taken : List ℕ → List ℕ → List ℕ → List ℕ
place_taken place frame fragment =
    cond (closed_in place) place
    (cond (nat_le lines_most (lines_in place)) place (noted place (taken_from (line_of place) frame 0 fragment).line))

unfoldable pub frame_taken : List ℕ → List ℕ → List ℕ → List ℕ
frame_taken place frame fragment =
    cond (closed_in place) frame
    (cond (nat_le lines_most (lines_in place)) frame (frame_after (line_of place) frame fragment))

-- ---- a line has been answered

unfoldable pub counted : List ℕ → Answer → List ℕ
counted place answer =
    place_words (totalled (totals_in place) answer) ((lines_in place + 1) % 2 ^ 64) (slice_index place 4) start

-- ---- closing

unfoldable pub last_in : List ℕ → Bool
last_in place =
    cond (closed_in place) false (cond (nat_le lines_most (lines_in place)) false (not (empty_line (line_of place))))

unfoldable pub closing_of : List ℕ → Result Totals Reason
closing_of place = cond (closed_in place) (Err ReplayClosed) (Ok (totals_in place))

unfoldable pub place_closed : List ℕ → List ℕ
place_closed place = cond (closed_in place) place (place_words (totals_in place) (lines_in place) 1 (line_of place))
