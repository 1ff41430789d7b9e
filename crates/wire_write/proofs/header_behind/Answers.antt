-- `wire_write::header_behind`: the next header, with its bounds.
-- Assumes nothing.
use mathlib.Core.Path.{◌∙◌}
use native.Mathlib.Omega.{arith}
use Rattle.wire.proofs.Format.{next-after, next-first, next-gap, header-after}
use Rattle.wire_write.proofs.header_behind.Goals as goal

pub returns : goal.returns
returns c =
    let e = c.next_header.ensures ∙ header-after c.args.used (omega arith) in
    (e, omega (arith, e, next-after c.args.used), omega (arith, e, next-gap c.args.used), omega (arith, e, next-first c.args.used 1125 (omega arith)))
