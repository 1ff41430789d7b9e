-- Words with a run of marks, by which many marks are set or cleared at once.
use Rattle.std.specs.Prelude.{ℕ, ◌&&◌, leb, ltb}
use Rattle.bitmap.specs.Marks.{marks_of}

-- The word of the marks below `end`, of those that a word of this width has, and no other.
unfoldable pub marks_below : ℕ → ℕ → ℕ
marks_below width end = marks_of width (λ i. ltb i end)

-- The word of the marks from `start` on that are below `end`.
unfoldable pub marks_between : ℕ → ℕ → ℕ → ℕ
marks_between width start end = marks_of width (λ i. leb start i && ltb i end)
