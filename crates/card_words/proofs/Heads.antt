-- What the head that is read of the words tells of the card that they hold.
-- Assumes nothing.
use mathlib.Core.Path.{◌≡◌, sym}
use mathlib.Core.Bool.{Bool, true, false, not}
use mathlib.Core.List.{List}
use Prim.Native.Nat.{ℕ}
use borrow.Author.Tests.{not-true, not-false}
use Rattle.seq.specs.Ring.{frame_space, distance}
use Rattle.card.specs.Window.{unreleased}
use Rattle.card.specs.Card.{fits}
use Rattle.card_words.specs.declared.Head.{Head}
use Rattle.card_words.specs.Words.{card_of, head_part}

module _ (w : List ℕ) (h : Head) (head-is : h ≡ head_part (card_of w)) where
  -- whether the slot buffer fits the limit
  module _ (slots : List ℕ) (b : Bool) (is : b ≡ fits h.limit slots) where
    pub unfit : not b ≡ true → fits (card_of w).limit slots ≡ false
    unfit n = sym (rw (head-is, not-true b n) at is)

    pub fit : not b ≡ false → fits (card_of w).limit slots ≡ true
    fit n = sym (rw (head-is, not-false b n) at is)

  -- how many sealed frames are not released
  pub unreleased-read : (d : ℕ) → d ≡ distance frame_space h.base.0 h.next.0 → d ≡ unreleased (card_of w).window
  unreleased-read d is = rw head-is at is
