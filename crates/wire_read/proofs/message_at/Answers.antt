-- `wire_read::message_at`: the header and where the data ends, or none.
-- Assumes nothing.
use native.Mathlib.Omega.{arith}
use Rattle.wire.specs.Reading.{data_end}
use Rattle.wire.proofs.Format.{header-after}
use Rattle.wire_read.proofs.Finding.{found-past}
use Rattle.wire_read.proofs.Parts.{part-end, part-found}
use Rattle.wire_read.proofs.message_at.Goals as goal

pub returns-in_err-header : goal.returns-in_err-header
returns-in_err-header c = rw c.from_residual.ensures (found-past c.args.f.now c.args.at c.in_err-header.ensures)

pub returns : goal.returns
returns c =
    let p = c.in_ok-header.ensures in
    let next = rw (part-end p, header-after (data_end c.args.f.now c.args.at) (omega (arith, p.inside))) at c.next_header.ensures in
    part-found p _ _ _ c.header_in.ensures c.u16_at.ensures next
