-- `wire_read::layout::layout_where`: the heading, the flag, then the messages.
-- Assumes nothing.
use mathlib.Core.Path.{refl, sym, ap}
use native.Mathlib.Omega.{arith}
use Rattle.std.proofs.lemmas.Result.{err_from_is_err_and}
use Rattle.refusal.proofs.Numbers.{number-positive}
use Rattle.wire.specs.Reading.{refusal_of}
use Rattle.wire.proofs.Reading.{heading-stops, heading-stands, read_none, read-messages}
use Rattle.wire_read.specs.Layout.{total}
use Rattle.wire_read.proofs.layout.layout_where.Goals as goal

pub returns-in_err-check_heading_where-clause-refused : goal.returns-in_err-check_heading_where-clause-refused
returns-in_err-check_heading_where-clause-refused c =
    let a = c.args in
    let p = err_from_is_err_and c.from_residual.result c.from_residual.ensures.1 in
    let stop = c.in_err-check_heading_where.ensures in
    let above = number-positive c.in_err-check_heading_where.field-0.0 in
    rw (p.1, p.2) (sym (ap refusal_of (heading-stops a.ids a.f.now _ stop (λ z. omega (arith, z, above)))))

pub returns-then-flags_of-eq0 : goal.returns-then-flags_of-eq0
unfolding total
returns-then-flags_of-eq0 c =
    let a = c.args in
    let h = heading-stands a.ids a.f.now _ c.in_ok-check_heading_where.ensures refl in
    let read = read_none a.ids a.f.now h.least h.most h.right (omega arith) in
    record { refused = rw read refl; laid_out = rw read refl }

pub walk-requires : goal.walk-requires
walk-requires c =
    let a = c.args in
    (heading-stands a.ids a.f.now _ c.in_ok-check_heading_where.ensures refl).most

pub returns : goal.returns
returns c =
    let a = c.args in
    let h = heading-stands a.ids a.f.now _ c.in_ok-check_heading_where.ensures refl in
    let read = read-messages a.ids a.f.now h.least h.most h.right (omega (arith, h.flag)) in
    record {
      refused = rw read c.walk.ensures.refused;
      laid_out = rw read c.walk.ensures.laid_out;
    }
