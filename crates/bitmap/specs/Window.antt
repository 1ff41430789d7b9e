-- A window over numbers that wrap: mark i of a word stands for the number i past the window's first one. The same
-- step moves every window, of frames as of transactions: a mark is set, and the window moves past the set marks that it
-- begins with then.
use Rattle.std.specs.Prelude.{ℕ, ◌/◌, ◌^◌}
use Rattle.seq.specs.Ring.{distance, advance}
use Rattle.bitmap.specs.Marks.{with_mark, trailing_ones}

pub record Window : Type 0 where
  pub first : ℕ
  pub marks : ℕ

-- The marks from mark k on, with mark k as the first.
abbrev pub shifted_past : ℕ → ℕ → ℕ
shifted_past k marks = marks / 2 ^ k

-- The window after it moved past the run of set marks that it begins with.
abbrev pub moved : ℕ → ℕ → ℕ → ℕ → Window
moved space width first marks =
    let run = trailing_ones width marks in
    record { first = advance space first run; marks = shifted_past run marks }

-- The window after a number in it was marked.
abbrev pub marked_and_moved : ℕ → ℕ → ℕ → ℕ → ℕ → Window
marked_and_moved space width first marks number =
    moved space width first (with_mark width marks (distance space first number))
