-- What C is told of a frame: its layout, read with no IDs to compare, and its header.
use Rattle.std.specs.Prelude.{ℕ, true, List}
use Rattle.wire.specs.declared.FrameHeader.{FrameHeader}
use Rattle.wire.specs.Reading.{destination, source, number, ack_start, ack_count, flags, Read, read_frame}
use Rattle.wire_read.specs.Layout.{unless_refused}

abbrev pub layout_in : List ℕ → Read
layout_in f = read_frame true f

-- The fields of the frame header, as they stand on the wire; each is 0 where the layout is refused.
unfoldable pub header_in : List ℕ → FrameHeader
header_in f = record {
  destination = unless_refused (layout_in f) (destination f);
  source = unless_refused (layout_in f) (source f);
  number = record { 0 = unless_refused (layout_in f) (number f) };
  ackstart = record { 0 = unless_refused (layout_in f) (ack_start f) };
  ackcount = unless_refused (layout_in f) (ack_count f);
  flags = unless_refused (layout_in f) (flags f);
}
