-- Writing a frame: its header, its messages with the gaps between them, and the acknowledgement frame; and what
-- building a frame message by message does to the slot it is built in.
use Rattle.std.specs.Prelude.{ℕ, ◌+◌, ◌-◌, Bool, cond, ◌&&◌, List, [], ◌∷◌, ◌++◌, eqb, leb, length, set, replicate}
use Rattle.std.proofs.lemmas.List.Edits.{sets}
use Rattle.octets.specs.Octets.{little}
use Rattle.wire.specs.Format.{Message, next_header, frame_most}

-- The frame header: destination, source, frame number, ACKStart, ACKCount, flags.
unfoldable pub frame_head : ℕ → ℕ → ℕ → ℕ → ℕ → ℕ → List ℕ
frame_head to from num start count flag =
    little 2 to ++ (little 2 from ++ (little 2 num ++ (little 2 start ++ (little 1 count ++ little 1 flag))))

-- A message header with its trailing byte. Unused fields are zero.
unfoldable pub message_head : Message → ℕ → List ℕ
message_head m trailing =
    little 4 m.trans ++ (little 4 m.completion_address ++ (little 4 m.completion_value ++
    (little 2 m.count ++ (little 2 0 ++
    (little 4 m.data_address ++ (little 2 (length m.bytes) ++ (little 1 0 ++ little 1 trailing)))))))

-- Where the data of a message ends whose header stands at an offset.
abbrev pub end_of : ℕ → Message → ℕ
end_of at m = at + 24 + length m.bytes

-- The zeros between the end of a message's data and the header of the next.
abbrev pub gap_at : ℕ → List ℕ
gap_at end = replicate (next_header end - end) 0

-- Messages, the first header at an offset. The trailing byte is 1 where another message follows, and 0 at the last.
unfoldable pub laid : ℕ → List Message → List ℕ
laid at [] = []
laid at (m ∷ []) = message_head m 0 ++ m.bytes
laid at (m ∷ (n ∷ ms)) =
    message_head m 1 ++ (m.bytes ++ (gap_at (end_of at m) ++ laid (next_header (end_of at m)) (n ∷ ms)))

-- The flags: bit 0 is set exactly if there is at least one message, and no other bit ever.
abbrev pub flags_for : List Message → ℕ
flags_for [] = 0
flags_for (m ∷ ms) = 1

-- A frame with messages: it acknowledges nothing.
unfoldable pub frame_of : ℕ → ℕ → ℕ → List Message → List ℕ
frame_of to from num ms = frame_head to from num 0 0 (flags_for ms) ++ laid 10 ms

-- An acknowledgement frame: no messages, and `count` numbers acknowledged from `start` on. Where it acknowledges none,
-- the start is written 0.
unfoldable pub ack_frame : ℕ → ℕ → ℕ → ℕ → ℕ → List ℕ
ack_frame to from num start count = frame_head to from num (cond (eqb count 0) 0 start) count (flags_for [])

-- ---- building a frame in a slot

-- Whether a frame of this length lies in the slot and is no longer than a frame may be.
unfoldable pub room_for : List ℕ → ℕ → Bool
room_for slot size = leb size (length slot) && leb size frame_most

-- The first message: the frame header and the message, from the slot's start on.
unfoldable pub first_message : List ℕ → ℕ → ℕ → ℕ → Message → List ℕ
first_message slot to from num m =
    cond (room_for slot (end_of 10 m))
    (sets slot 0 (frame_head to from num 0 0 (flags_for (m ∷ [])) ++ (message_head m 0 ++ m.bytes)))
    slot

-- One message more behind a frame of `used` bytes whose last message header stands at `last`: the trailing byte there
-- becomes 1, the gap zeros, and the message follows.
unfoldable pub next_message : List ℕ → ℕ → ℕ → Message → List ℕ
next_message slot used last m =
    cond (room_for slot (end_of (next_header used) m))
    (sets (set slot (last + 23) 1) used (gap_at used ++ (message_head m 0 ++ m.bytes)))
    slot
