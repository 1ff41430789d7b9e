-- Reading a frame: the fields of its header, its messages, and the refusals 1 to 5.
use Rattle.std.specs.Prelude.{ℕ, zero, suc, ◌+◌, Bool, cond, not, ◌&&◌, List, [], ◌∷◌, eqb, leb, ltb, length, take, drop}
use Rattle.std.proofs.Math.Option.{Option, none, some}
use Rattle.octets.specs.Octets.{field}
use Rattle.seq.specs.Ring.{frame_space, in_range}
use Rattle.wire.specs.Format.{Message, next_header, frame_most}

-- The frame header.
abbrev pub destination : List ℕ → ℕ
destination f = field f 0 2

abbrev pub source : List ℕ → ℕ
source f = field f 2 2

abbrev pub number : List ℕ → ℕ
number f = field f 4 2

abbrev pub ack_start : List ℕ → ℕ
ack_start f = field f 6 2

abbrev pub ack_count : List ℕ → ℕ
ack_count f = field f 8 1

abbrev pub flags : List ℕ → ℕ
flags f = field f 9 1

-- Whether a frame goes to `own` and comes from `peer`.
unfoldable pub addressed : ℕ → ℕ → List ℕ → Bool
addressed own peer f = eqb (destination f) own && eqb (source f) peer

-- Whether a frame acknowledges the number n: one of the ack_count numbers from ack_start on, and none where ack_count is
-- 0.
unfoldable pub acknowledges : List ℕ → ℕ → Bool
acknowledges f n = in_range frame_space (ack_start f) (ack_count f) n

-- What a trailing byte means: 0 is the last message, and all else says that another follows.
unfoldable pub follows : ℕ → Bool
follows b = not (eqb b 0)

-- The message whose header stands at an offset, and the end of its data.
abbrev pub data_end : List ℕ → ℕ → ℕ
data_end f at = at + 24 + field f (at + 20) 2

unfoldable pub message_at : List ℕ → ℕ → Message
message_at f at = record {
  trans = field f at 4;
  completion_address = field f (at + 4) 4;
  completion_value = field f (at + 8) 4;
  count = field f (at + 12) 2;
  data_address = field f (at + 16) 4;
  bytes = take (field f (at + 20) 2) (drop (at + 24) f);
}

abbrev pub prepend : Message → Option (List Message) → Option (List Message)
prepend m none = none
prepend m (some ms) = some (m ∷ ms)

-- The messages from the header at an offset on; none where a header or its data passes the frame's end. (A header that
-- passes the end has the end of its data past it too.) Each message takes 24 bytes or more, so that as many turns as
-- the frame has bytes are enough.
unfoldable pub messages_from : ℕ → List ℕ → ℕ → Option (List Message)
messages_from zero f at = none
messages_from (suc turns) f at =
    cond (leb (data_end f at) (length f))
    (cond (follows (field f (at + 23) 1))
    (prepend (message_at f at) (messages_from turns f (next_header (data_end f at))))
    (some (message_at f at ∷ [])))
    none

-- What reading a frame gives: a refusal, or its messages.
pub data Read : Type 0 where
  bad : ℕ → Read
  good : List Message → Read

abbrev pub or_passes_end : Option (List Message) → Read
or_passes_end none = bad 5
or_passes_end (some ms) = good ms

-- Refusals 1 to 4 in their order, which the frame's length and header decide; 0 for none. `ids` says whether the
-- frame's two IDs are the expected ones.
unfoldable pub heading_of : Bool → List ℕ → ℕ
heading_of ids f =
    cond (ltb (length f) 10) 1
    (cond (ltb frame_most (length f)) 2
    (cond (not ids) 3
    (cond (ltb 1 (flags f)) 4 0)))

-- The refusals in their order, 1 to 4 and then 5. A clear flag means no messages, whatever bytes stand behind the
-- header.
unfoldable pub read_frame : Bool → List ℕ → Read
read_frame ids f =
    cond (ltb 0 (heading_of ids f)) (bad (heading_of ids f))
    (cond (eqb (flags f) 0) (good [])
    (or_passes_end (messages_from (length f) f 10)))

-- The number of the refusal, 0 for none.
abbrev pub refusal_of : Read → ℕ
refusal_of (bad r) = r
refusal_of (good ms) = 0
