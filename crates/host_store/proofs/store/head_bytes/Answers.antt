-- `host_store::store::head_bytes`: the first line's 23 bytes, in the definition's own shape.
-- Assumes nothing.
use mathlib.Core.Path.{◌∙◌}
use Rattle.octets.specs.Octets.{little}
use Rattle.octets.proofs.LittleEndian.{le-little}
use Rattle.hexadecimal.specs.Fields.{laid}
use Rattle.host_words.specs.Words.{pair_of}
use Rattle.host_store.proofs.store.Storing.{head-laid}
use Rattle.host_store.proofs.store.head_bytes.Goals as goal

pub returns : goal.returns
unfolding laid little
returns c =
    rw (
      c.copy_from_slice.ensures.after,
      c.copy_from_slice-2.ensures.after,
      c.copy_from_slice-3.ensures.after,
      c.copy_from_slice-4.ensures.after,
      c.copy_from_slice-5.ensures.after,
      c.copy_from_slice-6.ensures.after,
      c.to_le_bytes.ensures ∙ le-little 2 _,
      c.to_le_bytes-2.ensures ∙ le-little 2 _,
      c.to_le_bytes-3.ensures ∙ le-little 2 _,
      c.to_le_bytes-4.ensures ∙ le-little 8 _,
      c.to_le_bytes-5.ensures ∙ le-little 4 _,
      c.to_le_bytes-6.ensures ∙ le-little 4 _,
    )
    (head-laid (pair_of c.args.words.now) _ _ _ _ _ _ c.own.ensures c.peer.ensures c.next.ensures c.marks.ensures
    c.lowest.ensures c.closed.ensures)
