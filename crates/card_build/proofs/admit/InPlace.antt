-- What the refusals of adding a message read of the words, against the definitions of the card that the words hold.
-- Assumes nothing.
use mathlib.Core.Path.{◌≡◌, sym}
use mathlib.Core.Bool.{Bool, true, false, ◌&&◌}
use mathlib.Core.List.{List}
use Prim.Native.Nat.{ℕ, ◌+◌, ◌≤◌, ◌<◌}
use borrow.Author.Tests.{lt-ltb, le-ltb, le-leb, lt-leb}
use lib.Dec.{eqb, ltb, leb}
use Rattle.seq.specs.Ring.{frame_space, trans_space, distance}
use Rattle.wire.specs.Format.{needed, next_header}
use Rattle.card.specs.declared.Sending.{Sending}
use Rattle.card.specs.Window.{unreleased}
use Rattle.card.specs.Sendings.{opened, sending_at, takes}
use Rattle.card.specs.Card.{header_offset}
use Rattle.card_words.specs.declared.Head.{Head}
use Rattle.card_words.specs.Words.{card_of, head_part}
use Rattle.card_words.proofs.Heads.{unreleased-read}

module _ (w : List ℕ) (h : Head) (head-is : h ≡ head_part (card_of w)) where
  -- ---- the transaction

  module _ (d : ℕ) (is : d ≡ distance trans_space h.lowest.0 h.upcoming.0) where
    open-are : d ≡ opened (card_of w).sendings
    open-are = rw head-is at is

    module _ (t away : ℕ) (away-is : away ≡ distance trans_space h.lowest.0 t) where
      far : away ≡ distance trans_space (card_of w).sendings.lowest.0 t
      far = rw head-is at away-is

      pub takes_none : d ≤ away → false ≡ takes (card_of w).sendings t
      unfolding takes
      takes_none l = rw (← far, ← open-are, le-ltb away d l)

      pub takes-some : away < d → (e : Sending) (most : ℕ) → e ≡ sending_at (card_of w).sendings t
          → most ≡ needed e.count
          → ltb e.added most ≡ takes (card_of w).sendings t
      unfolding takes
      takes-some l e most e-is m-is = rw (← far, ← open-are, lt-ltb away d l, m-is, e-is)

  pub bare-is : (t n : ℕ) (e : Sending) (b : Bool) → e ≡ sending_at (card_of w).sendings t
      → b ≡ (eqb e.count 0 && ltb 0 n)
      → (eqb (sending_at (card_of w).sendings t).count 0 && ltb 0 n) ≡ b
  bare-is t n e b e-is is = sym (rw e-is at is)

  -- ---- the frame being built

  module _ (d : ℕ) (is : d ≡ distance frame_space h.base.0 h.next.0) where
    many : d ≡ unreleased (card_of w).window
    many = unreleased-read w h head-is d is

    pub slots-taken : 64 ≤ d → leb 64 (unreleased (card_of w).window) ≡ true
    slots-taken l = rw (← many) (le-leb 64 d l)

    pub slot-free : d < 64 → leb 64 (unreleased (card_of w).window) ≡ false
    slot-free l = rw (← many) (lt-leb 64 d l)

  pub ends_at : (n : ℕ) (b : Bool) → b ≡ ltb h.limit (next_header h.used + 24 + n)
      → ltb (card_of w).limit (header_offset (card_of w) + 24 + n) ≡ b
  ends_at n b is = sym (rw head-is at is)
