-- A slot lent to the frame writer and come back: the buffer is as the definition says.
-- Assumes nothing.
use mathlib.Core.Path.{◌≡◌, ap, ◌∙◌}
use mathlib.Core.Bool.{true, cond}
use mathlib.Core.List.{List, []}
use Prim.Native.Nat.{ℕ}
use native.Mathlib.Omega.{arith}
use borrow.Rule.Slice.PartMut.{put_mid}
use lib.Dec.{eqb}
use lib.ListN.{length, take, drop}
use Rattle.octets.proofs.Octets.{part-written, written-inside}
use Rattle.wire.specs.declared.MessageHeader.{MessageHeader}
use Rattle.wire.specs.Format.{Message, carrying, message_header}
use Rattle.wire.specs.Writing.{first_message, next_message}
use Rattle.card.specs.declared.Card.{Card}
use Rattle.card.specs.Card.{fits, slot_start, slot_of, message_of, built_slot, built_slots}
use Rattle.card_words.specs.declared.Head.{Head}
use Rattle.card_words.specs.Words.{head_part}
use Rattle.card.proofs.Slots.{buffer-long, length-slot, slot-inside, slot-long}

-- the header is that of the message, whatever its data
message-carried : (c : Card) (t at : ℕ) (bytes : List ℕ) (h : MessageHeader) → h ≡ message_header (message_of c t at [])
    → carrying h bytes ≡ message_of c t at bytes
unfolding carrying message_header message_of
message-carried c t at bytes h e = rw e

-- k bytes of the buffer from `start` on, those of the slot, are lent and come back as l
module _ (c : Card) (slots : List ℕ) (t at : ℕ) (bytes : List ℕ) (h : MessageHeader) (start k : ℕ) (l : List ℕ)
    (ok : fits c.limit slots ≡ true) (start_is : start ≡ slot_start c c.window.next.0) (k-is : k ≡ c.limit)
    (header : h ≡ message_header (message_of c t at [])) where
  abbrev num : ℕ
  num = c.window.next.0

  abbrev m : Message
  m = message_of c t at bytes

  part-built : l ≡ built_slot c (slot_of c slots num) m → put_mid start k slots l ≡ built_slots c slots m
  unfolding built_slots
  part-built e =
      let long = buffer-long c.limit slots ok in
      let inside = slot-inside c slots long num in
      let size : length l ≡ c.limit =
      ap length e ∙ length-slot c slots m (slot_of c slots num) ∙ slot-long c slots long num in
      part-written slots l start k (omega arith) (omega arith)
      ∙ written-inside slots start l (omega arith)
      ∙ rw (start_is, e)

  slot-written : l ≡ cond (eqb c.used 0)
      (first_message (take k (drop start slots)) c.peer c.own num (carrying h bytes))
      (next_message (take k (drop start slots)) c.used c.last (carrying h bytes))
      → put_mid start k slots l ≡ built_slots c slots m
  unfolding built_slot
  slot-written e = part-built (rw (start_is, k-is, message-carried c t at bytes h header) at e)

  -- the same of what is read of the card's head
  pub slot-written-by : (b : Head) → b ≡ head_part c → l ≡ cond (eqb b.used 0)
      (first_message (take k (drop start slots)) b.peer b.own b.next.0 (carrying h bytes))
      (next_message (take k (drop start slots)) b.used b.last (carrying h bytes))
      → put_mid start k slots l ≡ built_slots c slots m
  slot-written-by b is e = slot-written (rw is at e)
