-- `write_message`: the slot is lent to the frame writer and comes back written.
-- Assumes nothing.
use mathlib.Core.Path.{◌≡◌}
use Prim.Native.Nat.{◌+◌, ◌-◌}
use native.Mathlib.Omega.{arith}
use Rattle.card.specs.Card.{slot_start}
use Rattle.card.proofs.Slots.{buffer-long, slot-inside}
use Rattle.card_words.specs.Words.{card_of}
use Rattle.card_build.proofs.Writing.{slot-written-by}
use Rattle.card_build.proofs.write_message.Goals as goal

pub slice_bounds-write_in_slot-end : goal.slice_bounds-write_in_slot-end
slice_bounds-write_in_slot-end c =
    let a = c.args in
    let n = (card_of a.words.now).window.next.0 in
    let start : c.slot_start-start.result ≡ slot_start (card_of a.words.now) n =
    rw c.head_of-c.ensures at c.slot_start-start.ensures.0 in
    let limit : c.head_of-c.result.limit ≡ (card_of a.words.now).limit = rw c.head_of-c.ensures in
    let long = buffer-long (card_of a.words.now).limit a.slots.now c.requires in
    omega (arith, start, limit, slot-inside (card_of a.words.now) a.slots.now long n)

pub returns : goal.returns
returns c =
    let a = c.args in
    let n = (card_of a.words.now).window.next.0 in
    let start : c.slot_start-start.result ≡ slot_start (card_of a.words.now) n =
    rw c.head_of-c.ensures at c.slot_start-start.ensures.0 in
    let limit : c.head_of-c.result.limit ≡ (card_of a.words.now).limit = rw c.head_of-c.ensures in
    slot-written-by (card_of a.words.now) a.slots.now a.t.0 a.at a.payload.now _ c.slot_start-start.result
    (c.slot_start-start.result + c.head_of-c.result.limit - c.slot_start-start.result) _ c.requires start (omega arith)
    c.header_of-h.ensures _ c.head_of-c.ensures c.write_in_slot.ensures
