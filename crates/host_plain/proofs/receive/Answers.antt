-- `host_plain::receive`: the rules in their order.
-- Assumes nothing.
use Rattle.std.proofs.Common.{refl, sym, ◌∙◌, arith}
use Rattle.wire.proofs.Reading.{readable}
use Rattle.refusal.proofs.Numbers.{number-positive, zero-at_ok}
use Rattle.host_plain.proofs.Receiving.{
  received-refused,
  received_none,
  received-again,
  received-ahead,
  received-taken,
}
use Rattle.host_plain.proofs.receive.Goals as goal

pub returns-in-Err : goal.returns-in-Err
returns-in-Err c =
    let a = c.args in
    let e = received-refused a.pair a.f.now a.memory.now _ c.in-Err.ensures
    (λ z. omega (arith, z, number-positive c.in-Err.reason)) in
    rw (e, c.refuse.ensures, c.refusal.ensures) (record { value = refl; memory_after = refl })

pub returns-then-head-eq0 : goal.returns-then-head-eq0
returns-then-head-eq0 c =
    let a = c.args in
    let can = readable _ a.f.now (sym c.check.ensures ∙ zero-at_ok c.in_default.is) in
    let e = received_none a.pair a.f.now a.memory.now can _ c.frame_header-head.ensures
    c.if-head-eq0.true in
    rw e (record { value = refl; memory_after = refl })

pub returns-then-is_settled : goal.returns-then-is_settled
returns-then-is_settled c =
    let a = c.args in
    let can = readable _ a.f.now (sym c.check.ensures ∙ zero-at_ok c.in_default.is) in
    let e = received-again a.pair a.f.now a.memory.now can _ c.frame_header-head.ensures
    c.if-head-eq0.false _ c.is_settled.ensures c.if-is_settled.true in
    rw (e, c.run_from.ensures) (record { value = refl; memory_after = refl })

pub returns-then-distance-ge64 : goal.returns-then-distance-ge64
returns-then-distance-ge64 c =
    let a = c.args in
    let can = readable _ a.f.now (sym c.check.ensures ∙ zero-at_ok c.in_default.is) in
    let e = received-ahead a.pair a.f.now a.memory.now can _ c.frame_header-head.ensures
    c.if-head-eq0.false _ c.is_settled.ensures c.if-is_settled.false _ c.distance.ensures
    c.if-distance-ge64.true in
    rw (e, c.refuse-then-distance-ge64.ensures, c.refusal-then-distance-ge64.ensures)
    (record { value = refl; memory_after = refl })

pub take_frame-requires : goal.take_frame-requires
take_frame-requires c =
    let a = c.args in
    let can = readable _ a.f.now (sym c.check.ensures ∙ zero-at_ok c.in_default.is) in
    (can.most, rw (← c.distance.ensures) c.if-distance-ge64.false)

pub returns : goal.returns
returns c =
    let a = c.args in
    let can = readable _ a.f.now (sym c.check.ensures ∙ zero-at_ok c.in_default.is) in
    let whole = received-taken a.pair a.f.now a.memory.now can _ c.frame_header-head.ensures
    c.if-head-eq0.false _ c.is_settled.ensures c.if-is_settled.false _ c.distance.ensures
    c.if-distance-ge64.false _ _ c.take_frame.ensures in
    record { value = whole.0; memory_after = whole.1 }
