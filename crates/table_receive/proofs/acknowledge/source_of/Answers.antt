-- `table_receive::acknowledge::source_of`: a field of the header.
-- Assumes nothing.
use Rattle.wire_read.specs.Finding.{header_of}
use Rattle.table_receive.proofs.acknowledge.source_of.Goals as goal

pub returns : goal.returns
unfolding header_of
returns c = rw c.frame_header.ensures
