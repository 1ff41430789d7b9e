-- `octets::padded`: bytes that are missing are zeros.
-- Assumes nothing.
use Rattle.octets.proofs.Octets.{get_or-filled}
use Rattle.octets.proofs.padded.Goals as goal

pub returns : goal.returns
returns g c i h =
    let a = c.args in
    rw c.copy_from_slice.ensures.after
    (get_or-filled a.bytes.now g.row.N i)
