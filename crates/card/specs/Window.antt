-- The card's sealed frames: which of them are released, acknowledged and held, and what an arriving acknowledgement
-- changes. Frames are sealed in the order of their numbers and released in the same order, so that those sealed and not
-- released are consecutive: from `base` up to but not including `next`.
use Rattle.std.specs.Prelude.{ℕ, ◌%◌, Bool, not, ◌&&◌, ◌||◌, ltb, get_or, set, replicate}
use Rattle.seq.specs.Ring.{frame_space, distance, advance, in_range}
use Rattle.bitmap.specs.Marks.{mark, trailing_ones, marks_of}
use Rattle.bitmap.specs.Window.{moved}
use Rattle.card.specs.declared.SendWindow.{SendWindow}

-- Frames start at 0, and none is sealed.
unfoldable pub empty_window : SendWindow
empty_window = record { acked = 0; next = record { 0 = 0 }; base = record { 0 = 0 }; sizes = replicate 64 0 }

-- How many sealed frames are not released.
abbrev pub unreleased : SendWindow → ℕ
unreleased w = distance frame_space w.base.0 w.next.0

-- Held (a term of the rules): sealed and not acknowledged. What is released was acknowledged.
unfoldable pub held : SendWindow → ℕ → Bool
held w n =
    in_range frame_space w.base.0 (unreleased w) n && not (mark w.acked (distance frame_space w.base.0 n))

-- How many sealed frames, from the lowest not released on, are acknowledged before the first that is not: the oldest
-- held one.
unfoldable pub before_held : SendWindow → ℕ
before_held w = trailing_ones (unreleased w) w.acked

abbrev pub any_held : SendWindow → Bool
any_held w = ltb (before_held w) (unreleased w)

abbrev pub oldest_held : SendWindow → ℕ
oldest_held w = advance frame_space w.base.0 (before_held w)

-- The length of the sealed frame n, which stays in the slot that its number modulo 64 gives.
abbrev pub size_of : SendWindow → ℕ → ℕ
size_of w n = get_or w.sizes (n % 64) 0

-- Sealing gives the next number to a frame of this length.
unfoldable pub sealing : SendWindow → ℕ → SendWindow
sealing w size = record {
  acked = w.acked;
  next = record { 0 = advance frame_space w.next.0 1 };
  base = w.base;
  sizes = set w.sizes (w.next.0 % 64) size;
}

-- The i-th frame from the lowest not released on is acknowledged: it is sealed, and it was acknowledged before or is
-- one of the `count` numbers from `start` on. Other marks and other numbers of the range count for nothing.
unfoldable pub acknowledged_by : SendWindow → ℕ → ℕ → ℕ → Bool
acknowledged_by w start count i =
    ltb i (unreleased w)
    && (mark w.acked i || in_range frame_space start count (advance frame_space w.base.0 i))

-- Released (a term of the rules): the frame and all sealed before it are acknowledged. The window moves past these.
unfoldable pub releasing : SendWindow → ℕ → SendWindow
releasing w acked =
    let m = moved frame_space 64 w.base.0 acked in
    record { acked = m.marks; next = w.next; base = record { 0 = m.first }; sizes = w.sizes }

unfoldable pub acknowledging : SendWindow → ℕ → ℕ → SendWindow
acknowledging w start count = releasing w (marks_of 64 (acknowledged_by w start count))
