-- Adding a message in place: what is read of the words, and what is stored, against the definitions of the card that
-- the words hold.
-- Assumes nothing.
use mathlib.Core.Path.{◌≡◌, ◌∙◌}
use mathlib.Core.Logic.{◌≢◌}
use mathlib.Core.Bool.{true}
use mathlib.Core.List.{List}
use Prim.Native.Nat.{ℕ, ◌+◌, ◌≤◌, ◌<◌}
use native.Mathlib.Numerals.{add-one}
use borrow.Author.Tests.{eq-eqb, ne_eqb}
use lib.ListN.{length}
use Rattle.wire.specs.Format.{next_header}
use Rattle.card.specs.declared.Sending.{Sending}
use Rattle.card.specs.declared.Card.{Card}
use Rattle.card.specs.Sendings.{sending_at, takes, adding}
use Rattle.card.specs.Card.{header_offset, add_refusal, message_of, built_slots, with_message, add_message}
use Rattle.card.proofs.Adding.{takes-room}
use Rattle.card_words.specs.declared.Head.{Head}
use Rattle.card_words.specs.Words.{card_of, head_part, with_head, with_sending}

-- ---- what the answers of a refused and an accepted adding are

module _ (c : Card) (slots : List ℕ) (t at : ℕ) (bytes : List ℕ) (r : ℕ) (is : r ≡ add_refusal c slots t bytes) where
  pub adding-refused : r ≢ 0
      → add_message c slots t at bytes ≡ record { step = record { card = c; refusal = r }; slots = slots }
  unfolding add_message
  adding-refused ne = rw (← is, ne_eqb r 0 ne)

  pub adding-done : r ≡ 0 → add_message c slots t at bytes ≡ record {
    step = record { card = with_message c t bytes; refusal = 0 };
    slots = built_slots c slots (message_of c t at bytes);
  }
  unfolding add_message
  adding-done e = rw (← is, eq-eqb r 0 e)

-- ---- what is counted

module _ (w : List ℕ) (h : Head) (head-is : h ≡ head_part (card_of w)) where
  pub room-for-one : (t : ℕ) (e : Sending) → takes (card_of w).sendings t ≡ true → e ≡ sending_at (card_of w).sendings t
      → e.count < 65536 → e.added + 1 < 65536
  room-for-one t e ok is f = rw is (takes-room (card_of w).sendings t ok (rw is at f))

  pub ends-within : (n start : ℕ) → start ≡ next_header h.used → header_offset (card_of w) + 24 + n ≤ 9000
      → start + 24 + n ≤ 9000
  ends-within n start is l = rw (is, head-is) l

  pub counted : (t : ℕ) (bytes : List ℕ) → takes (card_of w).sendings t ≡ true
      → (mid left : List ℕ) (e : Sending) (start : ℕ)
      → e ≡ sending_at (card_of w).sendings t → start ≡ next_header h.used
      → card_of mid ≡ with_sending (card_of w) t
      (record { address = e.address; value = e.value; count = e.count; added = e.added + 1; frame = h.next })
      → card_of left ≡ with_head (card_of mid) (record {
        own = h.own;
        peer = h.peer;
        limit = h.limit;
        used = start + 24 + length bytes;
        last = start;
        acked = h.acked;
        next = h.next;
        base = h.base;
        upcoming = h.upcoming;
        lowest = h.lowest;
        finished = h.finished;
      })
      → card_of left ≡ with_message (card_of w) t bytes
  unfolding with_message adding
  counted t bytes ok mid left e start e-is s-is m l = l ∙ rw (m, ok, s-is, e-is, head-is, add-one)
