-- The run of frame numbers from one on that is d past the next one, as code counts it on a word of marks. Nothing of
-- this needs to be believed: proofs/run/Counting.antt shows that it is runFrom of host/specs/Host.antt.
use Rattle.std.specs.Prelude.{ℕ, ◌+◌, ◌-◌, ◌/◌, ◌^◌, min, cond, nat_le}
use Rattle.seq.specs.Ring.{frame_space}
use Rattle.bitmap.specs.Marks.{trailing_ones}

-- Behind: all up to the next one, and the marks that are set from there on.
unfoldable pub run_behind : ℕ → ℕ → ℕ
run_behind marks d = min 255 (frame_space - d + trailing_ones 64 marks)

-- In the window: the marks that are set from its own on.
unfoldable pub run_within : ℕ → ℕ → ℕ
run_within marks d = min 255 (trailing_ones 64 (marks / 2 ^ d))

unfoldable pub run_at : ℕ → ℕ → ℕ
run_at marks d = cond (nat_le 32768 d) (run_behind marks d) (run_within marks d)
