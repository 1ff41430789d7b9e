-- `wire_read::header_in`: each field as the definition reads it.
-- Assumes nothing.
use Rattle.wire.specs.Format.{message_header}
use Rattle.wire.specs.Reading.{message_at}
use Rattle.wire_read.specs.Finding.{head_at}
use Rattle.wire_read.proofs.header_in.Goals as goal

pub returns : goal.returns
unfolding head_at message_header message_at
returns c = cc
