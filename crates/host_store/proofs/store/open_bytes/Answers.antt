-- `host_store::store::open_bytes`: an open transaction's 16 bytes, in the definition's own shape.
-- Assumes nothing.
use mathlib.Core.Path.{◌∙◌}
use Rattle.octets.specs.Octets.{little}
use Rattle.octets.proofs.LittleEndian.{le-little}
use Rattle.hexadecimal.specs.Fields.{laid}
use Rattle.host_store.proofs.store.open_bytes.Goals as goal

pub returns : goal.returns
unfolding laid little
returns c =
    rw (
      c.copy_from_slice.ensures.after,
      c.copy_from_slice-2.ensures.after,
      c.copy_from_slice-3.ensures.after,
      c.copy_from_slice-4.ensures.after,
      c.copy_from_slice-5.ensures.after,
      c.to_le_bytes.ensures ∙ le-little 4 _,
      c.to_le_bytes-2.ensures ∙ le-little 4 _,
      c.to_le_bytes-3.ensures ∙ le-little 4 _,
      c.to_le_bytes-4.ensures ∙ le-little 2 _,
      c.to_le_bytes-5.ensures ∙ le-little 2 _,
    )
