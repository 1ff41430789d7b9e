-- `octets::u32_at`: four bytes are one field.
-- Assumes nothing.
use native.Mathlib.Nat.{add-zero}
use native.Mathlib.Omega.{arith}
use Rattle.octets.proofs.Octets.{field-4}
use Rattle.octets.proofs.u32_at.Goals as goal

pub returns : goal.returns
returns c =
    let a = c.args in
    let read = c.bytes_at.ensures in
    omega (
      arith,
      field-4 a.bytes.now a.at,
      rw add-zero at (read 0 (omega arith)),
      read 1 (omega arith),
      read 2 (omega arith),
      read 3 (omega arith),
    )
