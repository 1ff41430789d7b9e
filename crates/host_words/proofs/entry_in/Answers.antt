-- `host_words::entry_in`: each field is the definition's.
-- Assumes nothing.
use Rattle.host_words.proofs.entry_in.Goals as goal

pub returns : goal.returns
returns c =
    rw (
      c.half.ensures,
      c.half-2.ensures,
      c.quarter.ensures,
      c.quarter-2.ensures,
    )
