-- The window of sealed frames against counts that never wrap: so many frames are released, so many are sealed,
-- and a test says of each count whether that frame is acknowledged.
-- Assumes nothing.
use Prim.Native.Nat.{ℕ, ◌+◌, ◌-◌, ◌%◌, ◌≤◌, ◌<◌}
use native.Mathlib.Nat.{mod-add-mod, add-zero, mod-eq_of_lt}
use native.Mathlib.Decide.{dec_lt}
use native.Mathlib.Omega.{arith}
use mathlib.Core.Path.{◌≡◌, refl, sym, ap, ◌∙◌}
use mathlib.Core.Bool.{Bool, true, false, not, ◌&&◌, ◌||◌, true≢false}
use borrow.Author.Tests.{ltb-true, ltb-false, lt-ltb, le-ltb, leb-true, le-leb}
use lib.Dec.{ltb, leb, lit<}
use Rattle.seq.specs.Ring.{frame_space, distance, advance, in_range}
use Rattle.seq.proofs.Ring.{distance-ahead, ack-covers, covers-ack, advance-distance}
use Rattle.bitmap.specs.Marks.{mark, leading, trailing_ones, marks_of}
use Rattle.bitmap.proofs.Marks.{
  leading-is,
  mark-marks_of,
  mark-marks_of-beyond,
  window-moves,
  window-marks,
}
use Rattle.bitmap.proofs.Masks.{marks-cut, zero-run}
use Rattle.card.specs.declared.SendWindow.{SendWindow}
use Rattle.card.specs.Window.{
  unreleased,
  held,
  before_held,
  oldest_held,
  acknowledged_by,
  releasing,
  acknowledging,
}

-- how late an acknowledgement may come
abbrev late : ℕ
late = 32768

pos : 0 < frame_space
pos = lit< tt

-- ---- the oldest held frame

-- Where the lowest frame not released is not acknowledged, it is the oldest held one.
pub none-before-held : (w : SendWindow) → (0 < unreleased w → mark w.acked 0 ≡ false) → before_held w ≡ 0
unfolding before_held trailing_ones
none-before-held w clear =
    leading-is (mark w.acked) (unreleased w) 0 (omega arith) (λ i h. absurd (omega arith)) clear

pub oldest-base : (w : SendWindow) → w.base.0 < frame_space → before_held w ≡ 0 → oldest_held w ≡ w.base.0
unfolding advance
oldest-base w h e =
    let first : advance frame_space w.base.0 0 ≡ w.base.0 = rw (add-zero w.base.0) (mod-eq_of_lt h) in
    ap (advance frame_space w.base.0) e ∙ first

-- a held number is in the window
pub held-near : (w : SendWindow) (num : ℕ) → held w num ≡ true → distance frame_space w.base.0 num < unreleased w
unfolding held
held-near w num e = ltb-true away (unreleased w) (left (ltb away (unreleased w)) (not (mark w.acked away)) e)
  where
    away : ℕ
    away = distance frame_space w.base.0 num

    left : (x y : Bool) → (x && y) ≡ true → x ≡ true
    left true y q = refl
    left false y q = absurd (true≢false (sym q))

-- ---- counts

module _ (w : SendWindow) (released sealed : ℕ) (within : released ≤ sealed) (few : sealed ≤ released + 64)
    (base-is : w.base.0 ≡ released % frame_space) (next-is : w.next.0 ≡ sealed % frame_space) where
  pub unreleased-is : unreleased w ≡ sealed - released
  unreleased-is = rw (base-is, next-is) (distance-ahead frame_space pos released sealed within (omega arith))

  -- a held number is that of a count that is sealed and not released
  pub held-is : (num : ℕ) → num < frame_space → held w num ≡ true
      → (n : ℕ) × (num ≡ n % frame_space) × (released ≤ n) × (n < sealed)
  unfolding advance
  held-is num h e = (
    released + away,
    sym (sym (mod-add-mod released frame_space away) ∙ ap (λ (n : ℕ). (n + away) % frame_space) (sym base-is) ∙ back),
    omega arith,
    omega (arith, unreleased-is, near),
  )
    where
      away : ℕ
      away = distance frame_space w.base.0 num

      near : away < unreleased w
      near = held-near w num e

      fits : w.base.0 < frame_space
      fits = rw base-is (omega arith)

      back : advance frame_space w.base.0 away ≡ num
      back = advance-distance frame_space pos w.base.0 num fits h

  -- ---- an acknowledgement of `count` numbers, from that of frame c on: it is sealed, not more than `late` released

  module _ (c count : ℕ) (in-time : released ≤ c + late) (near : c < released + 64) (most : count ≤ 255)
      (p q : ℕ → Bool) (marks-are : (i : ℕ) → mark w.acked i ≡ p (released + i))
      (unsealed : (n : ℕ) → sealed ≤ n → p n ≡ false)
      (below : (n : ℕ) → n < released → q n ≡ true)
      (after : (n : ℕ) → q n ≡ (p n || (ltb n sealed && (leb c n && ltb n (c + count))))) where
    covers : (i : ℕ) → i < 64
        → in_range frame_space (c % frame_space) count (advance frame_space w.base.0 i)
        ≡ (leb c (released + i) && ltb (released + i) (c + count))
    covers i h = rw base-is (go (ltb away count) refl)
      where
        away : ℕ
        away = distance frame_space (c % frame_space) (advance frame_space (released % frame_space) i)

        go : (b : Bool) → ltb away count ≡ b → b ≡ (leb c (released + i) && ltb (released + i) (c + count))
        go true e =
            let k : (c ≤ released + i) × (released + i < c + count) =
            ack-covers frame_space pos 64 late released c i count in-time near h (omega arith) (omega arith)
            (ltb-true away count e) in
            rw (le-leb c (released + i) k.0, lt-ltb (released + i) (c + count) k.1)
        go false e = out (leb c (released + i)) refl (ltb (released + i) (c + count)) refl
          where
            out : (x : Bool) → leb c (released + i) ≡ x → (y : Bool) → ltb (released + i) (c + count) ≡ y
                → false ≡ (leb c (released + i) && ltb (released + i) (c + count))
            out false z y u = rw z
            out true z false u = rw (z, u)
            out true z true u =
                let k : away < count =
                covers-ack frame_space pos 64 late released c i count in-time near h (omega arith) (omega arith)
                (leb-true c (released + i) z) (ltb-true (released + i) (c + count) u) in
                absurd (omega (arith, ltb-false away count e))

    sealed-too : (i : ℕ) → ltb i (unreleased w) ≡ ltb (released + i) sealed
    sealed-too i = go (dec_lt (released + i) sealed)
      where
        go : Dec (released + i < sealed) → ltb i (unreleased w) ≡ ltb (released + i) sealed
        go (yes h) = rw (lt-ltb (released + i) sealed h) (lt-ltb i (unreleased w) (omega (arith, unreleased-is)))
        go (no h) =
            rw (le-ltb (released + i) sealed (omega arith)) (le-ltb i (unreleased w) (omega (arith, unreleased-is)))

    abbrev marked : ℕ
    marked = marks_of 64 (acknowledged_by w (c % frame_space) count)

    q-beyond : (n : ℕ) → sealed ≤ n → q n ≡ false
    q-beyond n h = after n ∙ rw (unsealed n h, le-ltb n sealed h)

    -- an unsealed frame has no mark, so that it is one whether sealed ones are asked for before the marks or after them
    by_parts : (n : ℕ) (x : Bool) → (ltb n sealed && (p n || x)) ≡ (p n || (ltb n sealed && x))
    by_parts n x = go (dec_lt n sealed)
      where
        go : Dec (n < sealed) → (ltb n sealed && (p n || x)) ≡ (p n || (ltb n sealed && x))
        go (yes h) = rw (lt-ltb n sealed h)
        go (no h) = rw (le-ltb n sealed (omega arith), unsealed n (omega arith))

    marked-is : (i : ℕ) → mark marked i ≡ q (released + i)
    unfolding acknowledged_by
    marked-is i = go (dec_lt i 64)
      where
        go : Dec (i < 64) → mark marked i ≡ q (released + i)
        go (yes h) =
            mark-marks_of 64 (acknowledged_by w (c % frame_space) count) i h
            ∙ rw (marks-are i, sealed-too i, covers i h) (by_parts (released + i) _)
            ∙ sym (after (released + i))
        go (no h) =
            mark-marks_of-beyond 64 (acknowledged_by w (c % frame_space) count) i (omega arith)
            ∙ sym (q-beyond (released + i) (omega arith))

    -- the frames released then are those before the first that is not acknowledged, and the marks stand for those from
    -- there on
    pub released-moves : leading q sealed ≡ released + trailing_ones 64 marked
    released-moves = window-moves q sealed released 64 marked within few below marked-is q-beyond

    pub base-after : (acknowledging w (c % frame_space) count).base.0 ≡ leading q sealed % frame_space
    unfolding acknowledging releasing advance
    base-after =
        ap (λ (n : ℕ). (n + trailing_ones 64 marked) % frame_space) base-is
        ∙ mod-add-mod released frame_space (trailing_ones 64 marked)
        ∙ ap (λ (n : ℕ). n % frame_space) (sym released-moves)

    pub marks-after : (i : ℕ) → mark (acknowledging w (c % frame_space) count).acked i ≡ q (leading q sealed + i)
    unfolding acknowledging releasing
    marks-after = window-marks q sealed released 64 marked within few below marked-is q-beyond

-- the number of the next frame stays
pub next-after : (w : SendWindow) (start count : ℕ) → (acknowledging w start count).next ≡ w.next
unfolding acknowledging releasing
next-after w start count = refl

-- Where nothing is sealed nothing is released, whatever the marks are: no mark is left, and the window stays.
module _ (w : SendWindow) (start count : ℕ) (none : unreleased w ≡ 0) where
  no-marks : marks_of 64 (acknowledged_by w start count) ≡ 0
  unfolding acknowledged_by marks_of
  no-marks =
      sym (marks-cut 64 0 (acknowledged_by w start count) (omega arith)
      (λ i h. rw (le-ltb i (unreleased w) (omega arith))))

  pub nothing-acknowledged : (acknowledging w start count).acked ≡ 0
  unfolding acknowledging releasing
  nothing-acknowledged = rw (no-marks, zero-run 64)

  pub nothing-released : w.base.0 < frame_space → (acknowledging w start count).base.0 ≡ w.base.0
  unfolding acknowledging releasing advance
  nothing-released h = rw (no-marks, zero-run 64, add-zero w.base.0) (mod-eq_of_lt h)
