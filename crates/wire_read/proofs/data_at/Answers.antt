-- `wire_read::data_at`: the part past the header, or none.
-- Assumes nothing.
use mathlib.Core.Path.{◌∙◌}
use Rattle.wire_read.proofs.Finding.{data-past, data-whole}
use Rattle.wire_read.proofs.data_at.Goals as goal

pub returns-in-Some : goal.returns-in-Some
returns-in-Some c =
    let p = c.in-Some.ensures in
    p.payload_is ∙ data-whole c.args.f.now c.args.at p.inside

pub returns-in-None : goal.returns-in-None
returns-in-None c = data-past c.args.f.now c.args.at c.in-None.ensures
