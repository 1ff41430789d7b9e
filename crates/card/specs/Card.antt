-- The card: opening it, and its six steps. Each step's refusals stand in one chain, the first that holds is given, and
-- 0 is none. A slot buffer is a list of bytes: 64 slots of L bytes, where L is the card's frame limit.
use Rattle.std.specs.Prelude.{ℕ, ◌+◌, ◌*◌, ◌%◌, Bool, cond, not, ◌&&◌, ◌||◌, List, [], eqb, leb, ltb, length, take, drop}
use Rattle.std.proofs.lemmas.List.Edits.{sets}
use Rattle.wire.specs.Format.{Message, next_header, frame_most}
use Rattle.wire.specs.Reading.{addressed, read_frame, refusal_of, ack_start, ack_count}
use Rattle.wire.specs.Writing.{first_message, next_message}
use Rattle.card.specs.Window.{
  empty_window,
  unreleased,
  held,
  any_held,
  oldest_held,
  size_of,
  sealing,
  acknowledging,
}
use Rattle.card.specs.Sendings.{no_sendings, sending_at, opening_refusal, opening, takes, adding, finishing}
use Rattle.card.specs.declared.Card.{Card}
use Rattle.card.specs.declared.Stepped.{Stepped}
use Rattle.card.specs.declared.TransOpened.{TransOpened}
use Rattle.card.specs.declared.Sealed.{Sealed}

-- ---- opening the card

unfoldable pub fresh_card : ℕ → ℕ → ℕ → Card
fresh_card own peer limit = record {
  own = own;
  peer = peer;
  limit = limit;
  used = 0;
  last = 0;
  window = empty_window;
  sendings = no_sendings;
}

-- Whether L is 34 to 9,000 and the slot buffer has 64 times L bytes: 26 where not.
unfoldable pub fits : ℕ → List ℕ → Bool
fits limit slots = leb 34 limit && (leb limit frame_most && eqb (length slots) (64 * limit))

unfoldable pub card_refusal : ℕ → ℕ → ℕ → List ℕ → ℕ
card_refusal own peer limit slots = cond (eqb own 0 || eqb peer 0) 13 (cond (fits limit slots) 0 26)

-- A refused opening hands back a fresh card with both IDs and L at 0.
unfoldable pub open_card : ℕ → ℕ → ℕ → List ℕ → Stepped
open_card own peer limit slots =
    let r = card_refusal own peer limit slots in
    cond (eqb r 0)
    (record { card = fresh_card own peer limit; refusal = 0 })
    (record { card = fresh_card 0 0 0; refusal = r })

-- ---- opening a transaction

-- The transaction's number is handed back, and 0 where the step is refused.
unfoldable pub open_transaction : Card → ℕ → ℕ → ℕ → TransOpened
open_transaction c count address value =
    let r = opening_refusal c.sendings in
    cond (eqb r 0)
    (record {
      card = record {
        own = c.own;
        peer = c.peer;
        limit = c.limit;
        used = c.used;
        last = c.last;
        window = c.window;
        sendings = opening c.sendings count address value;
      };
      refusal = 0;
      trans = c.sendings.next;
    })
    (record { card = c; refusal = r; trans = record { 0 = 0 } })

-- ---- adding a message

-- The frame being built gets the next number and is built in that number's slot.
abbrev pub slot_start : Card → ℕ → ℕ
slot_start c n = n % 64 * c.limit

abbrev pub slot_of : Card → List ℕ → ℕ → List ℕ
slot_of c slots n = take c.limit (drop (slot_start c n) slots)

-- Where the header of the next message goes. Nothing built is 0 bytes, and the first header is at 10.
abbrev pub header_offset : Card → ℕ
header_offset c = next_header c.used

unfoldable pub add_refusal : Card → List ℕ → ℕ → List ℕ → ℕ
add_refusal c slots t bytes =
    cond (not (fits c.limit slots)) 26
    (cond (not (takes c.sendings t)) 23
    (cond (eqb (sending_at c.sendings t).count 0 && ltb 0 (length bytes)) 27
    (cond (leb 64 (unreleased c.window)) 21
    (cond (ltb c.limit (header_offset c + 24 + length bytes)) 22 0))))

-- The message takes the terms of its transaction.
unfoldable pub message_of : Card → ℕ → ℕ → List ℕ → Message
message_of c t at bytes =
    let e = sending_at c.sendings t in
    record {
      trans = t;
      completion_address = e.address;
      completion_value = e.value;
      count = e.count;
      data_address = at;
      bytes = bytes;
    }

-- The slot with the message written: the first one brings the frame header, a later one the trailing byte before it and
-- the gap.
unfoldable pub built_slot : Card → List ℕ → Message → List ℕ
built_slot c slot m =
    cond (eqb c.used 0)
    (first_message slot c.peer c.own c.window.next.0 m)
    (next_message slot c.used c.last m)

-- Only that slot changes.
unfoldable pub built_slots : Card → List ℕ → Message → List ℕ
built_slots c slots m =
    let n = c.window.next.0 in
    sets slots (slot_start c n) (built_slot c (slot_of c slots n) m)

unfoldable pub with_message : Card → ℕ → List ℕ → Card
with_message c t bytes = record {
  own = c.own;
  peer = c.peer;
  limit = c.limit;
  used = header_offset c + 24 + length bytes;
  last = header_offset c;
  window = c.window;
  sendings = adding c.sendings t c.window.next.0;
}

-- What a step leaves of the card and of the slot buffer.
pub record Added : Type 0 where
  pub step : Stepped
  pub slots : List ℕ

unfoldable pub add_message : Card → List ℕ → ℕ → ℕ → List ℕ → Added
add_message c slots t at bytes =
    let r = add_refusal c slots t bytes in
    cond (eqb r 0)
    (record {
      step = record { card = with_message c t bytes; refusal = 0 };
      slots = built_slots c slots (message_of c t at bytes);
    })
    (record { step = record { card = c; refusal = r }; slots = slots })

-- ---- sealing

unfoldable pub seal_refusal : Card → List ℕ → ℕ
seal_refusal c slots = cond (not (fits c.limit slots)) 26 (cond (eqb c.used 0) 24 0)

-- The frame's number is handed back, and 0 where the step is refused.
unfoldable pub seal_frame : Card → List ℕ → Sealed
seal_frame c slots =
    let r = seal_refusal c slots in
    cond (eqb r 0)
    (record {
      card = record {
        own = c.own;
        peer = c.peer;
        limit = c.limit;
        used = 0;
        last = 0;
        window = sealing c.window c.used;
        sendings = c.sendings;
      };
      refusal = 0;
      number = c.window.next;
    })
    (record { card = c; refusal = r; number = record { 0 = 0 } })

-- ---- reading acknowledgements

-- What a range of acknowledged numbers changes: frames are released, and with them transactions finish.
unfoldable pub acknowledged : Card → ℕ → ℕ → Card
acknowledged c start count =
    let w = acknowledging c.window start count in
    record {
      own = c.own;
      peer = c.peer;
      limit = c.limit;
      used = c.used;
      last = c.last;
      window = w;
      sendings = finishing c.sendings c.window.base.0 w.base.0;
    }

-- Refusals 1 to 5, as the host reads a frame. Messages that come with acknowledgements are not the card's.
unfoldable pub read_acks : Card → List ℕ → Stepped
read_acks c f =
    let r = refusal_of (read_frame (addressed c.own c.peer f) f) in
    cond (eqb r 0)
    (record { card = acknowledged c (ack_start f) (ack_count f); refusal = 0 })
    (record { card = c; refusal = r })

-- ---- showing and choosing: nothing changes, and a part of a lent buffer is handed out

-- The sealed frame of a number, without the rest of its slot. (Where it would pass the buffer's end, which no run
-- reaches, none of it.)
unfoldable pub frame_in : Card → List ℕ → ℕ → List ℕ
frame_in c slots n =
    let size = size_of c.window n in
    cond (leb (slot_start c n + size) (length slots)) (take size (drop (slot_start c n) slots)) []

unfoldable pub show_refusal : Card → List ℕ → ℕ → ℕ
show_refusal c slots n = cond (not (fits c.limit slots)) 26 (cond (held c.window n) 0 25)

-- An empty part where the showing is refused.
unfoldable pub show_frame : Card → List ℕ → ℕ → List ℕ
show_frame c slots n = cond (eqb (show_refusal c slots n) 0) (frame_in c slots n) []

-- An acknowledgement is lent where the buffer for it has exactly 10 bytes.
abbrev pub is_ack : List ℕ → Bool
is_ack ack = eqb (length ack) 10

unfoldable pub choose_refusal : Card → List ℕ → List ℕ → ℕ
choose_refusal c slots ack = cond (not (fits c.limit slots)) 26 (cond (is_ack ack || any_held c.window) 0 25)

-- The lent acknowledgement first, else the oldest held frame; an empty part where the choice is refused.
unfoldable pub choose_next : Card → List ℕ → List ℕ → List ℕ
choose_next c slots ack =
    cond (eqb (choose_refusal c slots ack) 0)
    (cond (is_ack ack) ack (frame_in c slots (oldest_held c.window)))
    []
