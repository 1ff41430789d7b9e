-- `capi_plain::plain_of` reads numbers, marks and entries.
-- Assumes nothing.
use Rattle.capi_plain.specs.Words.{plain_of}
use Rattle.capi_plain.proofs.plain_of.Goals as goal

pub returns : goal.returns
unfolding plain_of
returns c = rw (c.table_of.ensures, c.marks_from.ensures, c.marks_from-2.ensures)
