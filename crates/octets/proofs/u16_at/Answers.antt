-- `octets::u16_at`: two bytes are one field.
-- Assumes nothing.
use native.Mathlib.Nat.{add-zero}
use native.Mathlib.Omega.{arith}
use Rattle.octets.proofs.Octets.{field-2}
use Rattle.octets.proofs.u16_at.Goals as goal

pub returns : goal.returns
returns c =
    let a = c.args in
    let read = c.bytes_at.ensures in
    omega (arith, field-2 a.bytes.now a.at, rw add-zero at (read 0 (omega arith)), read 1 (omega arith))
