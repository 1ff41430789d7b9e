-- What code counts is the run that the rules name, for any pair. Assumes nothing but that the marks are a word.
use Rattle.std.proofs.Common.{◌≡◌, ℕ, ◌/◌, ◌^◌, ◌<◌, ◌≤◌, sym, ◌∙◌, arith, le-leb}
use borrow.Author.Tests.{lt-leb}
use Rattle.seq.specs.Ring.{distance, frame_space}
use Rattle.bitmap.specs.Marks.{with_mark, trailing_ones}
use Rattle.bitmap.proofs.Marks.{ones-le}
use Rattle.host.specs.declared.Pair.{Pair}
use Rattle.host.specs.Transactions.{Transactions}
use Rattle.host.specs.Host.{run_from, after_frame}
use Rattle.host.proofs.Runs.{run-behind, run-window-word, run-accepted}
use Rattle.host_receive.specs.Counting.{run_behind, run_within, run_at}

-- 64 marks have at most 64 ones: the count's byte has room for them
pub ones_low : (marks : ℕ) → trailing_ones 64 marks ≤ 64
ones_low marks = ones-le 64 marks

pub within : (marks d : ℕ) → run_within marks d ≡ trailing_ones 64 (marks / 2 ^ d)
unfolding run_within
within marks d = omega (arith, ones-le 64 (marks / 2 ^ d))

module _ (p : Pair) (num d : ℕ) (d-is : d ≡ distance frame_space p.next.0 num) where
  pub at-behind : 32768 ≤ d → run_at p.marks d ≡ run_from p num
  unfolding run_at run_behind
  at-behind h = rw (le-leb 32768 d h) (sym (run-behind p num d d-is h))

  pub at-window : d < 64 → p.marks < 2 ^ 64 → run_at p.marks d ≡ run_from p num
  unfolding run_at
  at-window h word =
      rw (lt-leb 32768 d (omega arith)) (within p.marks d ∙ sym (run-window-word p num d d-is h word))

  -- the run of an accepted frame, on the marks before the window moves
  pub after-accepting : (t : Transactions) → d < 64 → p.next.0 < frame_space → p.marks < 2 ^ 64
      → run_within (with_mark 64 p.marks d) d ≡ run_from (after_frame p num t) num
  after-accepting t near fits word =
      within (with_mark 64 p.marks d) d ∙ sym (run-accepted p num d t d-is near fits word)
