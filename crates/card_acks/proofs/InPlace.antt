-- Reading an acknowledgement in place: what is read of the words and stored in them, against the definitions of the
-- card that they hold.
-- Assumes nothing.
use mathlib.Core.Path.{◌≡◌, ◌∙◌}
use mathlib.Core.Logic.{◌≢◌}
use mathlib.Core.List.{List}
use Prim.Native.Nat.{ℕ, ◌/◌, ◌^◌}
use borrow.Author.Tests.{eq-eqb, ne_eqb}
use Rattle.seq.specs.Ring.{frame_space, trans_space, advance}
use Rattle.seq.specs.declared.FrameNo.{FrameNo}
use Rattle.seq.specs.declared.TransNo.{TransNo}
use Rattle.bitmap.specs.Marks.{trailing_ones, marks_of}
use Rattle.wire.specs.declared.FrameHeader.{FrameHeader}
use Rattle.wire.specs.Reading.{addressed, read_frame, refusal_of}
use Rattle.wire_read.specs.Finding.{header_of}
use Rattle.card.specs.Window.{acknowledged_by, releasing, acknowledging}
use Rattle.card.specs.Sendings.{finished_by, passing, finishing}
use Rattle.card.specs.Card.{acknowledged, read_acks}
use Rattle.card_words.specs.declared.Head.{Head}
use Rattle.card_words.specs.Words.{card_of, head_part, with_head}

module _ (w : List ℕ) (h : Head) (head-is : h ≡ head_part (card_of w)) where
  pub released-now : (start count acked run moved finished gone past : ℕ) (base : FrameNo) (lowest : TransNo)
      (left : List ℕ)
      → acked ≡ marks_of 64 (acknowledged_by (card_of w).window start count) → run ≡ trailing_ones 64 acked
      → moved ≡ acked / 2 ^ run
      → base.0 ≡ advance frame_space h.base.0 run
      → finished ≡ marks_of 32 (finished_by (card_of w).sendings h.base.0 base.0) → gone ≡ trailing_ones 32 finished
      → past ≡ finished / 2 ^ gone → lowest.0 ≡ advance trans_space h.lowest.0 gone
      → card_of left ≡ with_head (card_of w) (record {
        own = h.own;
        peer = h.peer;
        limit = h.limit;
        used = h.used;
        last = h.last;
        acked = moved;
        next = h.next;
        base = base;
        upcoming = h.upcoming;
        lowest = lowest;
        finished = past;
      })
      → card_of left ≡ acknowledged (card_of w) start count
  unfolding acknowledged acknowledging releasing finishing passing
  released-now start count acked run moved finished gone past base lowest left a r m b f g p l is =
      is ∙ rw (p, l, g, f, b, m, r, a, head-is)

  module _ (f : List ℕ) (r : ℕ) (is : r ≡ refusal_of (read_frame (addressed h.own h.peer f) f)) where
    refusal_is : r ≡ refusal_of (read_frame (addressed (card_of w).own (card_of w).peer f) f)
    refusal_is = rw head-is at is

    pub reading-refused : r ≢ 0 → read_acks (card_of w) f ≡ record { card = card_of w; refusal = r }
    unfolding read_acks
    reading-refused ne = rw (← refusal_is, ne_eqb r 0 ne)

    pub reading-done : r ≡ 0 → (left : List ℕ) (b : FrameHeader) → b ≡ header_of f
        → card_of left ≡ acknowledged (card_of w) b.ackstart.0 b.ackcount
        → read_acks (card_of w) f ≡ record { card = card_of left; refusal = 0 }
    unfolding read_acks header_of
    reading-done e left b b-is l = rw (← refusal_is, eq-eqb r 0 e, l, b-is)
