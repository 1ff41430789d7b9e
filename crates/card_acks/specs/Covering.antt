-- A part of what reading an acknowledgement is defined by, under a name that contracts can say.
use Rattle.std.specs.Prelude.{ℕ, Bool}
use Rattle.seq.specs.Ring.{frame_space, advance, in_range}

-- Whether the i-th number from `base` on is one of the `count` from `start` on.
unfoldable pub covered_by : ℕ → ℕ → ℕ → ℕ → Bool
covered_by base start count i = in_range frame_space start count (advance frame_space base i)
