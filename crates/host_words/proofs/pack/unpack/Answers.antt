-- `host_words::pack::unpack`: field by field.
-- Assumes nothing.
use Rattle.host_words.proofs.pack.unpack.Goals as goal

pub returns : goal.returns
returns c =
    rw (
      c.own.ensures,
      c.peer.ensures,
      c.next.ensures,
      c.marks.ensures,
      c.lowest.ensures,
      c.closed.ensures,
      c.table_of.ensures,
    )
