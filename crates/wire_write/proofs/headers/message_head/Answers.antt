-- `wire_write::headers::message_head` is the definition's 24 bytes, in its own shape.
-- Assumes nothing.
use mathlib.Core.Path.{◌≡◌, ◌∙◌}
use Prim.Native.Nat.{ℕ, ◌/◌}
use native.Mathlib.Omega.{arith}
use Rattle.std.specs.Int.{bytes_low_first}
use Rattle.octets.specs.Octets.{little}
use Rattle.wire.specs.Format.{carrying}
use Rattle.wire.specs.Writing.{message_head}
use Rattle.wire_write.proofs.headers.message_head.Goals as goal

four_bytes : (n : ℕ) → bytes_low_first 0 4 n ≡ little 4 n
unfolding little
four_bytes n =
    let two : n / 65536 ≡ n / 256 / 256 = omega arith in
    let three : n / 16777216 ≡ n / 256 / 256 / 256 = omega arith in
    rw (two, three)

pub returns : goal.returns
unfolding message_head carrying little
returns c =
    rw (
      c.copy_from_slice.ensures.after,
      c.copy_from_slice-2.ensures.after,
      c.copy_from_slice-3.ensures.after,
      c.copy_from_slice-4.ensures.after,
      c.copy_from_slice-5.ensures.after,
      c.copy_from_slice-6.ensures.after,
      c.to_le_bytes.ensures ∙ four_bytes _,
      c.to_le_bytes-2.ensures ∙ four_bytes _,
      c.to_le_bytes-3.ensures ∙ four_bytes _,
      c.to_le_bytes-4.ensures,
      c.to_le_bytes-5.ensures ∙ four_bytes _,
      c.to_le_bytes-6.ensures,
    )
