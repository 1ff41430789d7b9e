-- Where the number of a frame lies that is new, and of one that is not.
-- Assumes nothing.
use Rattle.std.proofs.Common.{◌≡◌, ℕ, ◌<◌, ◌≤◌, Bool, true, false, ◌⊎◌, sym, refl, inl, inr, true≢false, arith, le-leb}
use native.Mathlib.Decide.{dec_le}
use borrow.Author.Tests.{lt-leb}
use Rattle.bitmap.specs.Marks.{mark}
use Rattle.host_receive.specs.Numbering.{is_new}

pub not_new : (marks d : ℕ) → is_new marks d ≡ false → (64 ≤ d) ⊎ (mark marks d ≡ true)
unfolding is_new
not_new marks d e = go (dec_le 64 d) (mark marks d) refl
  where
    go : Dec (64 ≤ d) → (b : Bool) → mark marks d ≡ b → (64 ≤ d) ⊎ (mark marks d ≡ true)
    go (yes h) b z = inl h
    go (no h) true z = inr z
    go (no h) false z = absurd (true≢false (rw (lt-leb 64 d (omega (arith, h)), z) at e))

pub new_in : (marks d : ℕ) → is_new marks d ≡ true → (d < 64) × (mark marks d ≡ false)
unfolding is_new
new_in marks d e = go (dec_le 64 d) (mark marks d) refl
  where
    go : Dec (64 ≤ d) → (b : Bool) → mark marks d ≡ b → (d < 64) × (mark marks d ≡ false)
    go (yes h) b z = absurd (true≢false (sym (rw (le-leb 64 d h) at e)))
    go (no h) true z = absurd (true≢false (sym (rw (lt-leb 64 d (omega (arith, h)), z) at e)))
    go (no h) false z = (omega (arith, h), z)
