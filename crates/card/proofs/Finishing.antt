-- The card's transactions against counts that never wrap: the lowest unfinished one, how many are opened, and
-- tests that say of each count whether that transaction is finished.
-- Assumes nothing.
use Prim.Native.Nat.{ℕ, ◌+◌, ◌-◌, ◌%◌, ◌≤◌, ◌<◌}
use native.Mathlib.Nat.{mod-add-mod, add-zero, mod-eq_of_lt}
use native.Mathlib.Decide.{dec_lt}
use native.Mathlib.Omega.{arith}
use mathlib.Core.Path.{◌≡◌, refl, sym, ap, ◌∙◌}
use mathlib.Core.Bool.{Bool, true, false, ◌&&◌, ◌||◌, and-false}
use borrow.Author.Tests.{ltb-true, lt-ltb, le-ltb, eq-eqb, ne_eqb}
use lib.Dec.{eqb, ltb, lit<}
use lib.ListN.{get_or}
use Rattle.seq.specs.Ring.{frame_space, trans_space, distance, advance, in_range}
use Rattle.seq.proofs.Ring.{distance-ahead, advance-distance}
use Rattle.bitmap.specs.Marks.{mark, leading, trailing_ones, marks_of}
use Rattle.bitmap.proofs.Marks.{mark-marks_of, mark-marks_of-beyond, window-moves, window-marks}
use Rattle.bitmap.proofs.Masks.{marks-cut, zero-run}
use Rattle.wire.specs.Format.{needed}
use Rattle.card.specs.declared.Sending.{Sending}
use Rattle.card.specs.declared.Sendings.{Sendings}
use Rattle.card.specs.Sendings.{
  no_sending,
  opened,
  sending_at,
  all_released,
  finished_by,
  passing,
  finishing,
}

-- ---- which transactions are finished

-- not while a message of it is missing
pub not-all-released : (e : Sending) (from base : ℕ) → e.added < needed e.count → all_released e from base ≡ false
unfolding all_released
not-all-released e from base h = rw (ne_eqb e.added (needed e.count) (omega arith))

-- not where no frame is released
pub none-released : (e : Sending) (from base : ℕ) → distance frame_space from base ≡ 0 → all_released e from base ≡ false
unfolding all_released
none-released e from base none =
    rw (none, le-ltb (distance frame_space from e.frame.0) 0 (omega arith))
    (and-false (eqb e.added (needed e.count)))

-- With all messages added, exactly when the frame of the latest is released. Before the step `was` frames were
-- released, and not that one; after it `released` are.
pub all-released-is : (e : Sending) (from base was released frame : ℕ) → e.added ≡ needed e.count
    → e.frame.0 ≡ frame % frame_space → from ≡ was % frame_space → base ≡ released % frame_space
    → was ≤ frame → frame ≤ was + 64 → was ≤ released → released ≤ was + 64
    → all_released e from base ≡ ltb frame released
unfolding all_released
all-released-is e from base was released frame all l f b h₁ h₂ h₃ h₄ =
    rw (eq-eqb e.added (needed e.count) all, l, f, b, away, room) (go (dec_lt frame released))
  where
    away : distance frame_space (was % frame_space) (frame % frame_space) ≡ frame - was
    away = distance-ahead frame_space (lit< tt) was frame h₁ (omega arith)

    room : distance frame_space (was % frame_space) (released % frame_space) ≡ released - was
    room = distance-ahead frame_space (lit< tt) was released h₃ (omega arith)

    go : Dec (frame < released) → ltb (frame - was) (released - was) ≡ ltb frame released
    go (yes q) = rw (lt-ltb frame released q) (lt-ltb (frame - was) (released - was) (omega arith))
    go (no q) = rw (le-ltb frame released (omega arith)) (le-ltb (frame - was) (released - was) (omega arith))

-- ---- counts

module _ (s : Sendings) (low total : ℕ) (within : low ≤ total) (few : total ≤ low + 32)
    (lowest-is : s.lowest.0 ≡ low % trans_space) (next-is : s.next.0 ≡ total % trans_space) where
  pub opened-is : opened s ≡ total - low
  opened-is = rw (lowest-is, next-is) (distance-ahead trans_space (lit< tt) low total within (omega arith))

  -- a transaction that takes a message is one of those opened from the lowest unfinished one on
  pub taking-is : (t : ℕ) → t < trans_space → in_range trans_space s.lowest.0 (opened s) t ≡ true
      → (low + distance trans_space s.lowest.0 t < total)
      × ((low + distance trans_space s.lowest.0 t) % trans_space ≡ t)
  unfolding advance
  taking-is t h e = (
    omega (arith, opened-is, ltb-true away (opened s) e),
    sym (mod-add-mod low trans_space away) ∙ ap (λ (n : ℕ). (n + away) % trans_space) (sym lowest-is)
        ∙ advance-distance trans_space (lit< tt) s.lowest.0 t fits h,
  )
    where
      away : ℕ
      away = distance trans_space s.lowest.0 t

      fits : s.lowest.0 < trans_space
      fits = rw lowest-is (omega arith)

  -- p says which are finished before a step releases frames, and q which are after it
  module _ (from base : ℕ) (p q : ℕ → Bool) (marks-are : (i : ℕ) → mark s.finished i ≡ p (low + i))
      (below : (i : ℕ) → i < low → q i ≡ true) (stays : (i : ℕ) → p i ≡ true → q i ≡ true)
      (now : (i : ℕ) → low ≤ i → i < total → p i ≡ false → all_released (sending_at s i) from base ≡ q i)
      (unopened : (i : ℕ) → total ≤ i → q i ≡ false) where
    -- entries go on with the numbers where those wrap
    entry-is : (i : ℕ) → sending_at s (s.lowest.0 + i) ≡ sending_at s (low + i)
    entry-is i =
        let e : (low % trans_space + i) % 32 ≡ (low + i) % 32 = omega arith in
        ap (λ (n : ℕ). get_or s.table n no_sending) (ap (λ (n : ℕ). (n + i) % 32) lowest-is ∙ e)

    finished-is : (i : ℕ) → finished_by s from base i ≡ q (low + i)
    unfolding finished_by
    finished-is i = rw (marks-are i, entry-is i) (go (p (low + i)) refl (dec_lt (low + i) total))
      where
        go : (x : Bool) → p (low + i) ≡ x → Dec (low + i < total)
            → (ltb i (opened s) && (x || all_released (sending_at s (low + i)) from base)) ≡ q (low + i)
        go true e (yes h) = rw (lt-ltb i (opened s) (omega (arith, opened-is))) (sym (stays (low + i) e))
        go false e (yes h) =
            rw (lt-ltb i (opened s) (omega (arith, opened-is))) (now (low + i) (omega arith) h e)
        go x e (no h) =
            rw (le-ltb i (opened s) (omega (arith, opened-is))) (sym (unopened (low + i) (omega arith)))

    abbrev marked : ℕ
    marked = marks_of 32 (finished_by s from base)

    marked-is : (i : ℕ) → mark marked i ≡ q (low + i)
    marked-is i = go (dec_lt i 32)
      where
        go : Dec (i < 32) → mark marked i ≡ q (low + i)
        go (yes h) = mark-marks_of 32 (finished_by s from base) i h ∙ finished-is i
        go (no h) =
            mark-marks_of-beyond 32 (finished_by s from base) i (omega arith) ∙ sym (unopened (low + i) (omega arith))

    -- the lowest unfinished one is then the first of which q is false, and the marks stand for those from there on
    pub low-moves : leading q total ≡ low + trailing_ones 32 marked
    low-moves = window-moves q total low 32 marked within few below marked-is unopened

    pub lowest-after : (finishing s from base).lowest.0 ≡ leading q total % trans_space
    unfolding finishing passing advance
    lowest-after =
        ap (λ (n : ℕ). (n + trailing_ones 32 marked) % trans_space) lowest-is
        ∙ mod-add-mod low trans_space (trailing_ones 32 marked)
        ∙ ap (λ (n : ℕ). n % trans_space) (sym low-moves)

    pub finished-after : (i : ℕ) → mark (finishing s from base).finished i ≡ q (leading q total + i)
    unfolding finishing passing
    finished-after = window-marks q total low 32 marked within few below marked-is unopened

-- Where nothing is opened nothing finishes, whatever the marks are: no mark is left, and the window stays.
module _ (s : Sendings) (from base : ℕ) (none : opened s ≡ 0) where
  no-marks : marks_of 32 (finished_by s from base) ≡ 0
  unfolding finished_by marks_of
  no-marks = sym (marks-cut 32 0 (finished_by s from base) (omega arith) (λ i h. rw (le-ltb i (opened s) (omega arith))))

  pub nothing-finished : (finishing s from base).finished ≡ 0
  unfolding finishing passing
  nothing-finished = rw (no-marks, zero-run 32)

  pub nothing-passed : s.lowest.0 < trans_space → (finishing s from base).lowest.0 ≡ s.lowest.0
  unfolding finishing passing advance
  nothing-passed h = rw (no-marks, zero-run 32, add-zero s.lowest.0) (mod-eq_of_lt h)
