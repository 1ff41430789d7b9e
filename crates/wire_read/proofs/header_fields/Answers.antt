-- `wire_read::header_fields`: each field as the definition reads it.
-- Assumes nothing.
use Rattle.wire_read.specs.Finding.{header_of}
use Rattle.wire_read.proofs.header_fields.Goals as goal

pub returns : goal.returns
unfolding header_of
returns c = cc
