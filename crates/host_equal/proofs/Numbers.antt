-- Frame numbers: both hosts have received the same ones, and count the same runs; accepting one leaves the same frames.
-- Assumes nothing.
use mathlib.Core.Path.{◌≡◌, refl, ap}
use mathlib.Core.Bool.{Bool, true, false, cond, ◌||◌, ◌&&◌}
use Prim.Native.Nat.{ℕ, zero, suc, ◌^◌, ◌<◌}
use native.Mathlib.Omega.{arith}
use borrow.Author.Tests.{lt-leb, ltb-true}
use lib.Dec.{leb, ltb, lit<}
use Rattle.seq.specs.Ring.{distance, advance, frame_space}
use Rattle.seq.proofs.Ring.{distance-lt, distance-further}
use Rattle.bitmap.specs.Marks.{mark, leading}
use Rattle.bitmap.proofs.Marks.{leading-same}
use Rattle.host.specs.Transactions.{Transactions}
use Rattle.host.specs.declared.Pair.{Pair}
use Rattle.host.specs.Host.{settled, run_from, after_frame}
use Rattle.host_plain.specs.declared.PlainFrames.{PlainFrames}
use Rattle.host_plain.specs.Plain as plain
use Rattle.host_equal.proofs.Windows.{bits, bit_at, run-set, moved-set}

-- The plain host's frames that are the first host's.
unfoldable pub frames_of : Pair → PlainFrames
frames_of p = record { next = p.next; accepted = bits 64 p.marks }

pub past-next-is : (p : Pair) (num : ℕ) → plain.past_next (frames_of p) num ≡ distance frame_space p.next.0 num
unfolding frames_of
past-next-is p num = refl

module _ (p : Pair) (fits : p.marks < 2 ^ 64) where
  pub settled_same : (num : ℕ) → plain.is_settled (frames_of p) num ≡ settled p num
  unfolding plain.is_settled settled frames_of
  settled_same num = rw (bit_at 64 p.marks fits d) (go (ltb d 64) refl)
    where
      d : ℕ
      d = distance frame_space p.next.0 num

      or-not : (b : Bool) → b ≡ (b || false)
      or-not true = refl
      or-not false = refl

      go : (a : Bool) → ltb d 64 ≡ a
          → cond a (mark p.marks d) (leb 32768 d) ≡ (leb 32768 d || (a && mark p.marks d))
      go true z = rw (lt-leb 32768 d (omega (arith, ltb-true d 64 z)))
      go false z = or-not (leb 32768 d)

  -- a number and the number 0 past it are received alike
  none-further : (num : ℕ)
      → advance frame_space (distance frame_space p.next.0 num) 0 ≡ distance frame_space p.next.0 num
  unfolding advance
  none-further num = omega (arith, distance-lt frame_space (lit< tt) p.next.0 num)

  settled_at : (num : ℕ) → settled p (advance frame_space num 0) ≡ settled p num
  unfolding settled
  settled_at num = rw (distance-further frame_space (lit< tt) p.next.0 num 0, none-further num)

  one_further : (num i : ℕ) → advance frame_space (advance frame_space num 1) i ≡ advance frame_space num (suc i)
  unfolding advance
  one_further num i = omega arith

  runs_same : (most num : ℕ)
      → plain.run_from most (frames_of p) num ≡ leading (λ i. settled p (advance frame_space num i)) most
  unfolding plain.run_from leading
  runs_same zero num = refl
  runs_same (suc most) num =
      rw (settled_same num, settled_at num, runs_same most (advance frame_space num 1))
      (ap (λ (n : ℕ). cond (settled p num) (suc n) 0)
      (leading-same (λ i. settled p (advance frame_space (advance frame_space num 1) i))
      (λ i. settled p (advance frame_space num (suc i))) most
      (λ i h. ap (settled p) (one_further num i))))

  pub run-same : (num : ℕ) → plain.run_from 255 (frames_of p) num ≡ run_from p num
  unfolding run_from
  run-same num = runs_same 255 num

  pub accepting-same : (num : ℕ) (t : Transactions) → distance frame_space p.next.0 num < 64
      → plain.accepting (frames_of p) num ≡ frames_of (after_frame p num t)
  unfolding plain.accepting after_frame frames_of
  accepting-same num t near =
      rw (
        moved-set 64 p.marks (distance frame_space p.next.0 num) fits near,
        run-set 64 p.marks (distance frame_space p.next.0 num) fits near,
      )
