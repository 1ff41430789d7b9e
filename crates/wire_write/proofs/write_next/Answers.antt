-- `wire_write::write_next`: no room and no write, or the trailing byte, the gap and the message.
-- Assumes nothing.
use mathlib.Core.Path.{◌≡◌, sym, ap, ◌∙◌}
use mathlib.Core.Bool.{true, false}
use Prim.Native.Nat.{ℕ, ◌+◌, ◌-◌, ◌≤◌}
use native.Mathlib.Omega.{arith}
use borrow.Author.Tests.{not-true, not-false}
use lib.ListN.{length, take, replicate, length-replicate}
use Rattle.wire.specs.Format.{carrying, next_header}
use Rattle.wire.specs.Writing.{end_of, gap_at, room_for}
use Rattle.wire.proofs.Format.{next-after}
use Rattle.wire.proofs.Building.{room-slot, no_room}
use Rattle.wire_write.proofs.Written.{front-alike, next-put, next-refused}
use Rattle.wire_write.proofs.write_next.Goals as goal

pub returns-then-used-gt-FRAME_MOST : goal.returns-then-used-gt-FRAME_MOST
unfolding carrying
returns-then-used-gt-FRAME_MOST c =
    let a = c.args in
    let m = carrying a.h a.payload.now in
    let room : room_for a.slot.now (end_of (next_header a.used) m) ≡ false =
    no_room a.slot.now (end_of (next_header a.used) m) (omega (arith, next-after a.used)) in record {
      value = sym room;
      slot_after = next-refused a.slot.now a.used a.last m room;
    }

pub returns-then-not-has_room : goal.returns-then-not-has_room
unfolding carrying
returns-then-not-has_room c =
    let a = c.args in
    let m = carrying a.h a.payload.now in
    let room : room_for a.slot.now (end_of (next_header a.used) m) ≡ false =
    sym (rw c.header_behind-at.ensures.0 at c.has_room.ensures)
    ∙ not-true _ c.if-not-has_room.true-raw
    in record {
      value = sym room;
      slot_after = next-refused a.slot.now a.used a.last m room;
    }

pub slice_bounds-write-length : goal.slice_bounds-write-length
slice_bounds-write-length c =
    let k = c.header_behind-at.result - c.args.used in
    sym (ap length {y = replicate k _} (front-alike _ 10 k (omega arith)) ∙ length-replicate k _)

pub put_message-requires : goal.put_message-requires
put_message-requires c =
    let a = c.args in
    let size = c.header_behind-at.result + 24 + length a.payload.now in
    let room : room_for a.slot.now size ≡ true = sym c.has_room.ensures ∙ not-false _ c.if-not-has_room.false-raw in
    let fits : size ≤ length a.slot.now = room-slot a.slot.now size room in
    omega (arith, c.write.auto.memory, c.set_follows.auto.slot)

pub returns : goal.returns
unfolding carrying
returns c =
    let a = c.args in
    let m = carrying a.h a.payload.now in
    let k = c.header_behind-at.result - a.used in
    let room : room_for a.slot.now (end_of (next_header a.used) m) ≡ true =
    sym (rw c.header_behind-at.ensures.0 at c.has_room.ensures) ∙ not-false _ c.if-not-has_room.false-raw in
    let gap : take k (replicate 10 0) ≡ gap_at a.used =
    front-alike 0 10 k (omega arith) ∙ ap (λ (n : ℕ). replicate (n - a.used) 0) c.header_behind-at.ensures.0 in record {
      value = sym room;
      slot_after = next-put a.slot.now _ _ _ a.used a.last m _ room gap
          c.set_follows.ensures c.write.ensures.memory_after (rw c.header_behind-at.ensures.0 at c.put_message.ensures);
    }
