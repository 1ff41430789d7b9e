-- Runs of bits against the test of one frame after another, and what is read of the words against the definitions of
-- the card that they hold.
-- Assumes nothing.
use mathlib.Core.Path.{◌≡◌, sym, ◌∙◌}
use mathlib.Core.Bool.{Bool, ◌&&◌, ◌||◌, or-false, and_comm}
use mathlib.Core.List.{List}
use Prim.Native.Nat.{ℕ, ◌+◌, ◌-◌, ◌≤◌, ◌<◌}
use native.Mathlib.Nat.{lt_of_le_of_lt}
use native.Mathlib.Decide.{dec_lt}
use native.Mathlib.Omega.{arith}
use borrow.Author.Tests.{lt-ltb, le-ltb}
use lib.Bits.{bit_and, bit_or, and_le_r, or_lt}
use lib.Dec.{ltb, leb, lit<}
use Rattle.seq.specs.Ring.{frame_space, distance}
use Rattle.seq.proofs.Ring.{range-from}
use Rattle.bitmap.specs.Marks.{mark, marks_of}
use Rattle.bitmap.specs.Masks.{marks_below, marks_between}
use Rattle.bitmap.proofs.Marks.{mark-marks_of}
use Rattle.bitmap.proofs.Masks.{mark-or, mark-and, marks-are, mark-below, mark-between, below-lt, between-lt}
use Rattle.card.specs.declared.SendWindow.{SendWindow}
use Rattle.card.specs.Window.{unreleased, acknowledged_by}
use Rattle.card_words.specs.declared.Head.{Head}
use Rattle.card_words.specs.Words.{card_of, head_part}
use Rattle.card_acks.specs.Covering.{covered_by}

-- ---- the range of an acknowledgement as runs of bits

module _ (base start count d : ℕ) (b : base < frame_space) (s : start < frame_space) (few : count < 256)
    (is : d ≡ distance frame_space base start) where
  abbrev end : ℕ
  end = d + count

  abbrev run : ℕ
  run = marks_between 64 d end

  as-run : (i : ℕ) → i < 64 → covered_by base start count i ≡ ((leb d i && ltb i end) || ltb (i + frame_space) end)
  unfolding covered_by
  as-run i l = rw is (range-from frame_space (lit< tt) base start count i b s (omega arith) (omega arith))

  pub covered-near : end ≤ 65536 → run ≡ marks_of 64 (covered_by base start count)
  covered-near h =
      marks-are 64 run (covered_by base start count) (between-lt 64 d end)
      (λ i l. mark-between 64 d end i l
      ∙ sym (as-run i l ∙ rw (le-ltb (i + frame_space) end (omega arith)) (or-false _)))

  pub covered-round : 65536 < end → bit_or run (marks_below 64 (end - 65536)) ≡ marks_of 64 (covered_by base start count)
  covered-round h =
      marks-are 64 (bit_or run low) (covered_by base start count)
      (or_lt 64 run low (between-lt 64 d end) (below-lt 64 (end - 65536)))
      (λ i l. mark-or run low i
      ∙ rw (mark-between 64 d end i l, mark-below 64 (end - 65536) i l, round i) (sym (as-run i l)))
    where
      low : ℕ
      low = marks_below 64 (end - 65536)

      round : (i : ℕ) → ltb i (end - 65536) ≡ ltb (i + frame_space) end
      round i = go (dec_lt i (end - 65536))
        where
          go : Dec (i < end - 65536) → ltb i (end - 65536) ≡ ltb (i + frame_space) end
          go (yes l) = rw (lt-ltb i (end - 65536) l, lt-ltb (i + frame_space) end (omega arith))
          go (no l) = rw (le-ltb i (end - 65536) (omega arith), le-ltb (i + frame_space) end (omega arith))

-- marked before or in the range, and sealed
acknowledged-are : (w : SendWindow) (start count covered sealed : ℕ)
    → covered ≡ marks_of 64 (covered_by w.base.0 start count) → sealed ≡ marks_below 64 (unreleased w)
    → bit_and (bit_or w.acked covered) sealed ≡ marks_of 64 (acknowledged_by w start count)
unfolding acknowledged_by covered_by
acknowledged-are w start count covered sealed c s =
    marks-are 64 (bit_and (bit_or w.acked covered) sealed) (acknowledged_by w start count)
    (lt_of_le_of_lt (and_le_r (bit_or w.acked covered) sealed) (rw s (below-lt 64 (unreleased w))))
    (λ i l.
    mark-and (bit_or w.acked covered) sealed i
    ∙ rw (mark-or w.acked covered i, c, mark-marks_of 64 by i l, s, mark-below 64 (unreleased w) i l)
    (and_comm (mark w.acked i || by i) (ltb i (unreleased w))))
  where
    by : ℕ → Bool
    by = covered_by w.base.0 start count

-- ---- what the head tells

module _ (w : List ℕ) (h : Head) (head-is : h ≡ head_part (card_of w)) where
  pub acknowledged-by : (start count d covered sealed : ℕ) → d ≡ distance frame_space h.base.0 h.next.0
      → covered ≡ marks_of 64 (covered_by h.base.0 start count) → sealed ≡ marks_below 64 d
      → bit_and (bit_or h.acked covered) sealed ≡ marks_of 64 (acknowledged_by (card_of w).window start count)
  acknowledged-by start count d covered sealed d-is c s =
      let k : covered ≡ marks_of 64 (covered_by (card_of w).window.base.0 start count) = rw head-is at c in
      let b : sealed ≡ marks_below 64 (unreleased (card_of w).window) = rw (d-is, head-is) at s in
      rw head-is (acknowledged-are (card_of w).window start count covered sealed k b)
