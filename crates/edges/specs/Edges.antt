-- Both sides of each edge of the rules: what an end holds, what comes to it, and what it answers. One list.
use Rattle.std.specs.Prelude.{ℕ, ◌*◌, true, cond, List, [], ◌∷◌, eqb, take, replicate}
use Rattle.host.specs.Terms.{free}
use Rattle.wire.specs.Format.{Message}
use Rattle.seq.specs.Ring.{distance, frame_space}
use Rattle.wire.specs.Reading.{
  Read,
  bad,
  good,
  destination,
  source,
  number,
  ack_start,
  ack_count,
  flags,
  read_frame,
}
use Rattle.wire.specs.Writing.{frame_of}
use Rattle.host.specs.declared.Pair.{Pair}
use Rattle.host.specs.declared.Answer.{Answer}
use Rattle.host.specs.declared.Answer.TheVariants.{Accepted, Again, NoMessages, Refused}
use Rattle.host.specs.Host.{receive_of}
use Rattle.card.specs.declared.Stepped.{Stepped}
use Rattle.card.specs.Card.{Added, fresh_card, open_transaction, add_message}

-- ---- what is asked and answered

pub data Edge : Type 0 where
  -- a pair whose next frame and lowest transaction are these, a memory of so many bytes, and a frame
  receives : (next lowest memory : ℕ) → List ℕ → Edge
  -- the sequence distance from the next frame's number to another
  measures : (next number : ℕ) → Edge
  -- the fields of a frame header, and the reading of a layout
  heads : List ℕ → Edge
  reads : List ℕ → Edge
  -- a fresh card of this frame limit, a transaction of two data messages, and the data added to it, the latest first
  adds : (limit : ℕ) → List (List ℕ) → Edge

-- An accepted frame and one that comes again, each with the length of the run that it acknowledges; a refusal by its
-- number; a distance; header fields; a layout; where an added message's header is.
pub data Result : Type 0 where
  taken : ℕ → Result
  again : ℕ → Result
  nothing : Result
  refused : ℕ → Result
  far : ℕ → Result
  fields : List ℕ → Result
  layout : Read → Result
  header : ℕ → Result

abbrev pub pair_at : ℕ → ℕ → Pair
pair_at next lowest = record {
  own = 1;
  peer = 2;
  next = record { 0 = next };
  marks = 0;
  lowest = record { 0 = lowest };
  closed = 0;
  table = replicate 32 free;
}

abbrev pub told : Answer → Result
told (Accepted n sums run) = taken run
told (Again n run) = again run
told NoMessages = nothing
told (Refused r) = refused r.number

unfoldable pub added : ℕ → List (List ℕ) → Added
added limit [] = record {
  step = record { card = (open_transaction (fresh_card 1 2 limit) 2 0 0).card; refusal = 0 };
  slots = replicate (64 * limit) 0;
}
added limit (bytes ∷ earlier) =
    let before = added limit earlier in
    add_message before.step.card before.slots 0 0 bytes

abbrev pub placed : Stepped → Result
placed s = cond (eqb s.refusal 0) (header s.card.last) (refused s.refusal)

abbrev pub result : Edge → Result
result (receives next lowest memory f) = told (receive_of (pair_at next lowest) f (replicate memory 0)).answer
result (measures next n) = far (distance frame_space next n)
result (heads f) = fields (destination f ∷ source f ∷ number f ∷ ack_start f ∷ ack_count f ∷ flags f ∷ [])
result (reads f) = layout (read_frame true f)
result (adds limit datas) = placed (added limit datas).step

-- ---- the frames

-- One message without data, of a transaction of its own: where its completion goes and where its data would.
abbrev pub bare : (number trans address at : ℕ) → List ℕ
bare number trans address at =
    frame_of 1 2 number (record {
      trans = trans;
      completion_address = address;
      completion_value = 0;
      count = 0;
      data_address = at;
      bytes = [];
    } ∷ [])

abbrev pub numbered : ℕ → List ℕ
numbered n = bare n 0 0 0

-- The whole case of the rules, 38 bytes.
abbrev pub whole_case : List ℕ
whole_case =
    1 ∷ 0 ∷ 2 ∷ 0 ∷ 0 ∷ 0 ∷ 0 ∷ 0 ∷ 0 ∷ 1
    ∷ 0 ∷ 0 ∷ 0 ∷ 0 ∷ 64 ∷ 0 ∷ 0 ∷ 0 ∷ 68 ∷ 51 ∷ 34 ∷ 17 ∷ 1 ∷ 0 ∷ 0 ∷ 0
    ∷ 0 ∷ 0 ∷ 0 ∷ 0 ∷ 4 ∷ 0 ∷ 0 ∷ 0
    ∷ 10 ∷ 11 ∷ 12 ∷ 13 ∷ []

abbrev pub whole_message : Message
whole_message = record {
  trans = 0;
  completion_address = 64;
  completion_value = 287454020;
  count = 1;
  data_address = 0;
  bytes = 10 ∷ 11 ∷ 12 ∷ 13 ∷ [];
}

-- ---- the list

pub record Case : Type 0 where
  pub edge : Edge
  pub answer : Result

abbrev pub is : Edge → Result → Case
is e o = record { edge = e; answer = o }

abbrev pub cases : List Case
cases =
    -- E1: from next 0 the frames 0 and 63 are in the window, 64 and 32,767 ahead, 32,768 behind. What is taken with
    -- nothing accepted around it acknowledges its own number; of numbers behind a run has at most 255.
    is (receives 0 0 4 (numbered 0)) (taken 1)
    ∷ is (receives 0 0 4 (numbered 63)) (taken 1)
    ∷ is (receives 0 0 4 (numbered 64)) (refused 6)
    ∷ is (receives 0 0 4 (numbered 32767)) (refused 6)
    ∷ is (receives 0 0 4 (numbered 32768)) (again 255)
    -- E2: from next 65,530 the frame 3 is 9 on
    ∷ is (measures 65530 3) (far 9)
    ∷ is (receives 65530 0 4 (numbered 3)) (taken 1)
    -- E3: from next 3 the frame 65,530 is behind, and so are the eight after it
    ∷ is (receives 3 0 4 (numbered 65530)) (again 9)
    -- E4: from the lowest transaction 4,294,967,290 the number 25 is in the window, and 26 is not
    ∷ is (receives 0 4294967290 4 (bare 0 25 0 0)) (taken 1)
    ∷ is (receives 0 4294967290 4 (bare 0 26 0 0)) (refused 7)
    -- E5: in 68 bytes a completion fits at 64, and not at 65
    ∷ is (receives 0 0 68 (bare 0 0 64 0)) (taken 1)
    ∷ is (receives 0 0 68 (bare 0 0 65 0)) (refused 12)
    -- E6: in 68 bytes a write of none fits at 68, and not at 69
    ∷ is (receives 0 0 68 (bare 0 0 0 68)) (taken 1)
    ∷ is (receives 0 0 68 (bare 0 0 0 69)) (refused 11)
    -- E7: the 38 bytes read as a header from 2 to 1 and one message, the first 37 of them as cut
    ∷ is (heads whole_case) (fields (1 ∷ 2 ∷ 0 ∷ 0 ∷ 0 ∷ 1 ∷ []))
    ∷ is (reads whole_case) (layout (good (whole_message ∷ [])))
    ∷ is (reads (take 37 whole_case)) (layout (bad 5))
    -- E8: in 34 bytes a message without data fits, and one with a byte does not
    ∷ is (adds 34 ([] ∷ [])) (header 10)
    ∷ is (adds 34 ((7 ∷ []) ∷ [])) (refused 22)
    -- E9: behind a message of one byte the next header is at 42, and 66 bytes have room for it where 65 have not
    ∷ is (adds 66 ([] ∷ (7 ∷ []) ∷ [])) (header 42)
    ∷ is (adds 65 ([] ∷ (7 ∷ []) ∷ [])) (refused 22)
    ∷ []
