-- `wire_write::headers::frame_head` is the definition's ten bytes, in its own shape.
-- Assumes nothing.
use mathlib.Core.Path.{◌≡◌}
use Prim.Native.Nat.{◌%◌}
use native.Mathlib.Omega.{arith}
use Rattle.octets.specs.Octets.{little}
use Rattle.wire.specs.Writing.{frame_head}
use Rattle.wire_write.proofs.headers.frame_head.Goals as goal

pub returns : goal.returns
unfolding frame_head little
returns c =
    let a = c.args in
    let n : a.count % 256 ≡ a.count = omega arith in
    let k : a.flags % 256 ≡ a.flags = omega arith in
    rw (
      c.copy_from_slice.ensures.after,
      c.copy_from_slice-2.ensures.after,
      c.copy_from_slice-3.ensures.after,
      c.copy_from_slice-4.ensures.after,
      c.to_le_bytes.ensures,
      c.to_le_bytes-2.ensures,
      c.to_le_bytes-3.ensures,
      c.to_le_bytes-4.ensures,
      n,
      k,
    )
