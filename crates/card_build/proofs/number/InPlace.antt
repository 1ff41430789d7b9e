-- Opening a transaction and sealing a frame, in place: what is read of the words, and what is stored, against the
-- definitions of the card that the words hold.
-- Assumes nothing.
use mathlib.Core.Path.{◌≡◌}
use mathlib.Core.Logic.{◌≢◌}
use mathlib.Core.Bool.{true, false}
use mathlib.Core.List.{List}
use Prim.Native.Nat.{ℕ, ◌≤◌, ◌<◌}
use borrow.Author.Tests.{lt-ltb, le-ltb, eq-eqb, ne_eqb}
use lib.Dec.{eqb}
use Rattle.seq.specs.Ring.{frame_space, trans_space, distance, advance}
use Rattle.seq.specs.declared.FrameNo.{FrameNo}
use Rattle.seq.specs.declared.TransNo.{TransNo}
use Rattle.card.specs.declared.Card.{Card}
use Rattle.card.specs.Window.{sealing}
use Rattle.card.specs.Sendings.{opened, opening_refusal, opening}
use Rattle.card.specs.Card.{open_transaction, seal_refusal, seal_frame}
use Rattle.card_words.specs.declared.Head.{Head}
use Rattle.card_words.specs.Words.{card_of, head_part, with_head, with_size, with_sending}

pub sealing-refused : (c : Card) (slots : List ℕ) (r : ℕ) → r ≡ seal_refusal c slots → r ≢ 0
    → seal_frame c slots ≡ record { card = c; refusal = r; number = record { 0 = 0 } }
unfolding seal_frame
sealing-refused c slots r is ne = rw (← is, ne_eqb r 0 ne)

module _ (w : List ℕ) (h : Head) (head-is : h ≡ head_part (card_of w)) where
  -- ---- transactions

  module _ (d : ℕ) (is : d ≡ distance trans_space h.lowest.0 h.upcoming.0) where
    open-are : d ≡ opened (card_of w).sendings
    open-are = rw head-is at is

    module _ (count address value : ℕ) where
      pub window-full : 32 ≤ d → open_transaction (card_of w) count address value
          ≡ record { card = card_of w; refusal = 20; trans = record { 0 = 0 } }
      unfolding open_transaction opening_refusal
      window-full l = rw (← open-are, le-ltb d 32 l)

      pub opened-now : d < 32 → (mid left : List ℕ) (one : TransNo) → one.0 ≡ advance trans_space h.upcoming.0 1
          → card_of mid ≡ with_sending (card_of w) h.upcoming.0
          (record { address = address; value = value; count = count; added = 0; frame = record { 0 = 0 } })
          → card_of left ≡ with_head (card_of mid) (record {
            own = h.own;
            peer = h.peer;
            limit = h.limit;
            used = h.used;
            last = h.last;
            acked = h.acked;
            next = h.next;
            base = h.base;
            upcoming = one;
            lowest = h.lowest;
            finished = h.finished;
          })
          → open_transaction (card_of w) count address value
          ≡ record { card = card_of left; refusal = 0; trans = h.upcoming }
      unfolding open_transaction opening_refusal opening
      opened-now l mid left one o m e = rw (← open-are, lt-ltb d 32 l, e, m, o, head-is)

  -- ---- sealing

  pub nothing-built : h.used ≡ 0 → eqb (card_of w).used 0 ≡ true
  nothing-built e = eq-eqb (card_of w).used 0 (rw head-is at e)

  pub something-built : h.used ≢ 0 → eqb (card_of w).used 0 ≡ false
  something-built e = ne_eqb (card_of w).used 0 (rw head-is at e)

  pub sealed-now : (slots : List ℕ) (r : ℕ) → r ≡ seal_refusal (card_of w) slots → r ≡ 0
      → (mid left : List ℕ) (one : FrameNo)
      → one.0 ≡ advance frame_space h.next.0 1 → card_of mid ≡ with_size (card_of w) h.next.0 h.used
      → card_of left ≡ with_head (card_of mid) (record {
        own = h.own;
        peer = h.peer;
        limit = h.limit;
        used = 0;
        last = 0;
        acked = h.acked;
        next = one;
        base = h.base;
        upcoming = h.upcoming;
        lowest = h.lowest;
        finished = h.finished;
      })
      → seal_frame (card_of w) slots ≡ record { card = card_of left; refusal = 0; number = h.next }
  unfolding seal_frame sealing
  sealed-now slots r is z mid left one o m l = rw (← is, eq-eqb r 0 z, l, m, o, head-is)
