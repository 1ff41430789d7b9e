-- `wire_write::write_first`: no room and no write, or the frame header and the message behind it.
-- Assumes nothing.
use mathlib.Core.Path.{◌≡◌, sym, ◌∙◌}
use mathlib.Core.Bool.{true, false}
use Prim.Native.Nat.{◌+◌, ◌≤◌}
use native.Mathlib.Omega.{arith}
use borrow.Author.Tests.{not-true, not-false}
use lib.ListN.{length}
use Rattle.wire.specs.Format.{carrying}
use Rattle.wire.specs.Writing.{end_of, room_for}
use Rattle.wire.proofs.Building.{room-slot}
use Rattle.wire_write.proofs.Written.{first-put, first-refused}
use Rattle.wire_write.proofs.write_first.Goals as goal

pub returns-then-not-has_room : goal.returns-then-not-has_room
unfolding carrying
returns-then-not-has_room c =
    let a = c.args in
    let m = carrying a.h a.payload.now in
    let room : room_for a.slot.now (end_of 10 m) ≡ false =
    sym c.has_room.ensures ∙ not-true _ c.if-not-has_room.true-raw in record {
      value = sym room;
      slot_after = first-refused a.slot.now a.to a.from a.number.0 m room;
    }

pub put_message-requires : goal.put_message-requires
put_message-requires c =
    let a = c.args in
    let n = length a.payload.now in
    let room : room_for a.slot.now (34 + n) ≡ true = sym c.has_room.ensures ∙ not-false _ c.if-not-has_room.false-raw in
    let fits : 34 + n ≤ length a.slot.now = room-slot a.slot.now (34 + n) room in
    omega (arith, c.write.auto.memory)

pub returns : goal.returns
unfolding carrying
returns c =
    let a = c.args in
    let m = carrying a.h a.payload.now in
    let room : room_for a.slot.now (end_of 10 m) ≡ true =
    sym c.has_room.ensures ∙ not-false _ c.if-not-has_room.false-raw in record {
      value = sym room;
      slot_after = first-put a.slot.now _ _ a.to a.from a.number.0 m _ room
          c.frame_head-head.ensures c.write.ensures.memory_after c.put_message.ensures;
    }
