-- What the reading functions answer of a frame header and of the message at an offset.
use Rattle.std.specs.Prelude.{ℕ, ◌+◌, cond, List, [], leb, length, take, drop, ◌≡◌, ◌≤◌, Option, Some, None}
use Rattle.octets.specs.Octets.{field}
use Rattle.wire.specs.declared.FrameHeader.{FrameHeader}
use Rattle.wire.specs.declared.MessageHeader.{MessageHeader}
use Rattle.wire.specs.Format.{message_header, next_header}
use Rattle.wire.specs.Reading.{
  destination,
  source,
  number,
  ack_start,
  ack_count,
  flags,
  follows,
  data_end,
  message_at,
}
use Rattle.wire_read.specs.declared.Found.{Found}

-- The frame header's fields. Bytes past the end of the frame count as 0.
unfoldable pub header_of : List ℕ → FrameHeader
header_of f = record {
  destination = destination f;
  source = source f;
  number = record { 0 = number f };
  ackstart = record { 0 = ack_start f };
  ackcount = ack_count f;
  flags = flags f;
}

-- The header of the message at an offset.
unfoldable pub head_at : List ℕ → ℕ → MessageHeader
head_at f at = message_header (message_at f at)

-- That message: its header, the length of its data, whether another follows and where that one's header would stand; none
-- where it passes the frame's end.
unfoldable pub found_at : List ℕ → ℕ → Option Found
found_at f at =
    cond (leb (data_end f at) (length f))
    (Some (record {
      header = head_at f at;
      len = field f (at + 20) 2;
      more = follows (field f (at + 23) 1);
      next = next_header (data_end f at);
    }))
    None

-- Its two parts: the bytes of its header, and its data.
pub record Parts (f : List ℕ) (at : ℕ) (header payload : List ℕ) : Type 0 where
  pub inside : data_end f at ≤ length f
  pub header_is : header ≡ take 24 (drop at f)
  pub payload_is : payload ≡ take (field f (at + 20) 2) (drop (at + 24) f)

-- Its data, and no bytes where it passes the end.
unfoldable pub data_at : List ℕ → ℕ → List ℕ
data_at f at = cond (leb (data_end f at) (length f)) (message_at f at).bytes []
