-- `wire_read::parts_at`: the frame is cut at the offset, at the header's end and at the data's.
-- Assumes nothing.
use mathlib.Core.Path.{◌∙◌}
use native.Mathlib.Omega.{arith}
use Rattle.std.proofs.Math.Nat.{sub-zero}
use Rattle.wire_read.proofs.Parts.{cut}
use Rattle.wire_read.proofs.parts_at.Goals as goal

pub returns-in_err-data : goal.returns-in_err-data
returns-in_err-data c =
    let from = c.in_ok-get.ensures.lookup.0 in
    let ends = c.in_ok-header.ensures.cases in
    let k = cut c.args.f.now _ _ _ c.args.at from.2 ends.0 ends.1 in
    rw c.from_residual-in_err-data.ensures (omega (arith, k.len-is, from, ends, c.u16_at-len.ensures, c.in_err-data.ensures.lookup.0))

pub returns : goal.returns
returns c =
    let from = c.in_ok-get.ensures.lookup.0 in
    let ends = c.in_ok-header.ensures.cases in
    let k = cut c.args.f.now _ _ _ c.args.at from.2 ends.0 ends.1 in
    let last = c.in_ok-data.ensures.lookup.0 in
    record {
      inside = omega (arith, k.len-is, from, ends, c.u16_at-len.ensures, last);
      header_is = k.header_is;
      payload_is = last.2 ∙ rw (c.from.ensures, c.u16_at-len.ensures, k.len-is, k.rest-is, sub-zero);
    }
