-- Which transactions are looked at, and what is read of the words against the definitions of the card that they hold.
-- Assumes nothing.
use mathlib.Core.Path.{◌≡◌, ap, ◌∙◌}
use mathlib.Core.Bool.{or-false, and_comm}
use mathlib.Core.List.{List}
use Prim.Native.Nat.{ℕ, ◌+◌, ◌%◌, ◌≤◌, ◌<◌, min}
use native.Mathlib.Nat.{lt_of_le_of_lt}
use native.Mathlib.Decide.{dec_lt}
use native.Mathlib.Omega.{arith}
use borrow.Author.Tests.{lt-ltb, le-ltb}
use lib.Bits.{bit_and, and_le_r}
use lib.Dec.{ltb}
use lib.ListN.{get_or}
use Rattle.seq.specs.Ring.{frame_space, trans_space, distance, advance}
use Rattle.bitmap.specs.Marks.{mark, marks_of}
use Rattle.bitmap.specs.Masks.{marks_below}
use Rattle.bitmap.proofs.Marks.{MarkedUpTo, all-marked}
use Rattle.bitmap.proofs.Masks.{mark-and, mark-below, marks-are, marks-same, marks-cut, below-lt}
use Rattle.card.specs.declared.Sendings.{Sendings}
use Rattle.card.specs.Sendings.{no_sending, opened, sending_at, finished_by}
use Rattle.card.proofs.Finishing.{none-released}
use Rattle.card_words.specs.declared.Head.{Head}
use Rattle.card_words.specs.Words.{card_of, head_part}
use Rattle.card_acks.specs.Finishing.{finished_now, finished_before}

-- entries go on with the numbers where those wrap
pub entry-is : (s : Sendings) (lowest i : ℕ) → sending_at s (advance trans_space lowest i) ≡ sending_at s (lowest + i)
unfolding advance
entry-is s lowest i =
    let e : (lowest + i) % trans_space % 32 ≡ (lowest + i) % 32 = omega arith in
    ap (λ (n : ℕ). get_or s.table n no_sending) e

-- how many are looked at
module _ (s : Sendings) (from base most : ℕ) (is : most ≡ min (opened s) 32) where
  pub within-32 : (i : ℕ) → i < most → i < 32
  within-32 i l = omega arith

  pub one-is : (i finished lowest : ℕ) → i < most → finished ≡ s.finished → lowest ≡ s.lowest.0
      → finished_now s finished lowest from base i ≡ finished_by s from base i
  unfolding finished_now finished_by
  one-is i finished lowest l f w = rw (f, w, lt-ltb i (opened s) (omega arith))

  pub finished-all : {i word : ℕ} → MarkedUpTo 32 (finished_by s from base) i word → most ≤ i
      → word ≡ marks_of 32 (finished_by s from base)
  unfolding finished_by
  finished-all {i} {word} m h = go (dec_lt (opened s) 32)
    where
      go : Dec (opened s < 32) → word ≡ marks_of 32 (finished_by s from base)
      go (yes l) =
          let e : most ≡ opened s = omega arith in
          m.word-is
          ∙ marks-cut 32 i (finished_by s from base) m.within (λ j k. rw (le-ltb j (opened s) (omega arith)))
      go (no l) =
          let e : most ≡ 32 = omega arith in
          all-marked 32 (finished_by s from base) m (omega arith)

-- those finished before have a mark and are opened
before-are : (s : Sendings) (mask : ℕ) → mask ≡ marks_below 32 (opened s)
    → bit_and s.finished mask ≡ marks_of 32 (finished_before s)
unfolding finished_before
before-are s mask is =
    marks-are 32 (bit_and s.finished mask) (finished_before s)
    (lt_of_le_of_lt (and_le_r s.finished mask) (rw is (below-lt 32 (opened s))))
    (λ i l.
    mark-and s.finished mask i
    ∙ rw (is, mark-below 32 (opened s) i l) (and_comm (mark s.finished i) (ltb i (opened s))))

-- and where no frame is released, no other is finished
pub none-now : (s : Sendings) (from base : ℕ) → distance frame_space from base ≡ 0
    → marks_of 32 (finished_before s) ≡ marks_of 32 (finished_by s from base)
unfolding finished_before finished_by
none-now s from base none =
    marks-same 32 (finished_before s) (finished_by s from base)
    (λ i l. rw (
      none-released (sending_at s (s.lowest.0 + i)) from base none,
      or-false (mark s.finished i),
    ))

-- what the head tells
module _ (w : List ℕ) (h : Head) (head-is : h ≡ head_part (card_of w)) where
  pub finished-before : (n mask : ℕ) → n ≡ distance trans_space h.lowest.0 h.upcoming.0
      → mask ≡ marks_below 32 n → bit_and h.finished mask ≡ marks_of 32 (finished_before (card_of w).sendings)
  finished-before n mask n-is is =
      let o : mask ≡ marks_below 32 (opened (card_of w).sendings) = rw (n-is, head-is) at is in
      rw head-is (before-are (card_of w).sendings mask o)

  pub finished-is : h.finished ≡ (card_of w).sendings.finished
  finished-is = rw head-is

  pub lowest-is : h.lowest.0 ≡ (card_of w).sendings.lowest.0
  lowest-is = rw head-is

  pub looked-at : (n most : ℕ) → n ≡ distance trans_space h.lowest.0 h.upcoming.0 → most ≡ min n 32
      → most ≡ min (opened (card_of w).sendings) 32
  looked-at n most n-is is = rw (n-is, head-is) at is
