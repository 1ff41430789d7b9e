-- `octets::bytes_at`: the bytes behind the offset, or what is put together of them.
-- Assumes nothing.
use Rattle.std.proofs.Common.{◌∙◌}
use lib.Seq.{get_or-drop}
use Rattle.octets.proofs.bytes_at.Goals as goal

pub returns-in-None : goal.returns-in-None
returns-in-None g c i h =
    let a = c.args in
    rw c.behind-rest.ensures at (c.padded.ensures i h) ∙ get_or-drop a.at a.bytes.now i 0
