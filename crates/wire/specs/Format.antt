-- The frame format: what reading and writing share. A frame is a list of bytes: a frame header of 10 bytes, then
-- messages, each a message header of 24 bytes and its data.
use Rattle.std.specs.Prelude.{ℕ, ◌+◌, ◌-◌, ◌*◌, ◌/◌, ◌^◌, cond, List, eqb, ltb}
use Rattle.wire.specs.declared.MessageHeader.{MessageHeader}

-- One message: its transaction's number, the completion's address and value, the count of data messages, and its
-- own write, `bytes` at the data address.
pub record Message : Type 0 where
  pub trans : ℕ
  pub completion_address : ℕ
  pub completion_value : ℕ
  pub count : ℕ
  pub data_address : ℕ
  pub bytes : List ℕ

-- The same where code holds the header as a struct and the data as a slice.
unfoldable pub carrying : MessageHeader → List ℕ → Message
carrying h bytes = record {
  trans = h.trans.0;
  completion_address = h.completion_address;
  completion_value = h.completion_value;
  count = h.count;
  data_address = h.data_address;
  bytes = bytes;
}

unfoldable pub message_header : Message → MessageHeader
message_header m = record {
  trans = record { 0 = m.trans };
  completion_address = m.completion_address;
  completion_value = m.completion_value;
  count = m.count;
  data_address = m.data_address;
}

-- The messages that a transaction takes: as many as its count, and one bare one for count 0.
unfoldable pub needed : ℕ → ℕ
needed count = cond (eqb count 0) 1 count

-- Message headers stand at offsets of the form 10 + 8k: the first of these that is not before `end`.
unfoldable pub next_header : ℕ → ℕ
next_header end = 10 + (end - 10 + 7) / 8 * 8

-- The same where code asks it of a word of 64 bits: 0 where the offset does not fit one.
unfoldable pub header_after : ℕ → ℕ
header_after end = cond (ltb (next_header end) (2 ^ 64)) (next_header end) 0

-- The longest frame there is.
abbrev pub frame_most : ℕ
frame_most = 9000
