-- What is said of a frame as a whole, by cases of what the format says of it.
use Rattle.std.specs.Prelude.{ℕ, ◌+◌, List, [], ◌∷◌, length}
use Rattle.wire.specs.Format.{Message}
use Rattle.wire.specs.Reading.{Read, bad, good}
use Rattle.wire_read.specs.declared.layout.Layout.{Layout}

-- The data bytes of some messages.
unfoldable pub total : List Message → ℕ
total [] = 0
total (m ∷ ms) = length m.bytes + total ms

-- What is asked of a frame, 0 where it is refused.
abbrev pub messages_of : Read → ℕ
messages_of (bad r) = 0
messages_of (good ms) = length ms

abbrev pub bytes_of : Read → ℕ
bytes_of (bad r) = 0
bytes_of (good ms) = total ms

abbrev pub unless_refused : Read → ℕ → ℕ
unless_refused (bad r) n = 0
unless_refused (good ms) n = n

-- A layout: how many messages the frame has, and how many data bytes they carry.
abbrev pub layout_of : Read → Layout
layout_of read = record { messages = messages_of read; data_bytes = bytes_of read }
