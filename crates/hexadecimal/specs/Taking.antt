-- What is known of a line after some of its characters, and what taking characters in answers.
-- Any length of line is taken: of the bytes that it spells 9,001 are counted, one more than a frame can have.
use Rattle.std.specs.Prelude.{ℕ, ◌+◌, ◌*◌, ◌%◌, Bool, true, false, cond, List, [], ◌∷◌, ltb, eqb, length, set}
use Rattle.std.proofs.Math.Option.{Option, none, some}
use Rattle.hexadecimal.specs.Line.{digit, up_to_newline, has_newline}
use Rattle.hexadecimal.specs.declared.line.Line.{Line}
use Rattle.hexadecimal.specs.declared.line.Taken.{Taken}

-- The line so far, and the lent buffer with the bytes that it spells.
pub record State : Type 0 where
  pub line : Line
  pub frame : List ℕ

abbrev pub state : ℕ → ℕ → Bool → Bool → List ℕ → State
state len half odd bad frame = record {
  line = record { len = len; half = half; odd = odd; bad = bad };
  frame = frame;
}

-- No character yet.
unfoldable pub start : Line
start = record { len = 0; half = 0; odd = false; bad = false }

-- A digit's value as one number, where 16 stands for none.
abbrev pub value_or16 : Option ℕ → ℕ
value_or16 none = 16
value_or16 (some d) = d

-- A digit is the high half of a byte, or it completes one. A byte past the buffer's end is counted and stored nowhere:
-- `set` leaves a list as it is there. A half above 15 belongs to no line, and counts modulo 16.
unfoldable pub with_byte : ℕ → State → State
with_byte d s =
    cond (ltb s.line.len 9001)
    (state (s.line.len + 1) s.line.half false s.line.bad
    (set s.frame s.line.len (s.line.half % 16 * 16 + d)))
    (state s.line.len s.line.half false s.line.bad s.frame)

unfoldable pub with_digit : ℕ → State → State
with_digit d s = cond s.line.odd (with_byte d s) (state s.line.len d true s.line.bad s.frame)

abbrev pub with_value : Option ℕ → State → State
with_value none s = state s.line.len s.line.half s.line.odd true s.frame
with_value (some d) s = with_digit d s

-- After some characters of the line, one by one.
unfoldable pub after : State → List ℕ → State
after s [] = s
after s (c ∷ cs) = after (with_value (digit c) s) cs

-- The parts of an answer put together.
abbrev pub taken_of : ℕ → ℕ → Bool → Bool → ℕ → Bool → Taken
taken_of len half odd bad at ended = record {
  line = record { len = len; half = half; odd = odd; bad = bad };
  at = at;
  ended = ended;
}

-- The index behind the last character taken, the newline included, where taking them in began at an index.
abbrev pub behind : ℕ → List ℕ → ℕ
behind from cs = from + length (up_to_newline cs) + cond (has_newline cs) 1 0

-- What taking in the characters from an index on gives: the state after those before the newline, the index behind
-- them, and whether there was a newline. No characters leave all as it was.
unfoldable pub taken_from : Line → List ℕ → ℕ → List ℕ → Taken
taken_from line frame from cs = record {
  line = (after (record { line = line; frame = frame }) (up_to_newline cs)).line;
  at = behind from cs;
  ended = has_newline cs;
}

unfoldable pub frame_after : Line → List ℕ → List ℕ → List ℕ
frame_after line frame cs = (after (record { line = line; frame = frame }) (up_to_newline cs)).frame

-- Whether the line so far gets refusal 14, and whether it has no character.
unfoldable pub refused_line : Line → Bool
refused_line l = cond l.bad true l.odd

unfoldable pub empty_line : Line → Bool
empty_line l = cond l.bad false (cond l.odd false (eqb l.len 0))
