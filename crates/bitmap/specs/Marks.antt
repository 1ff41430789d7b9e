-- Marks in words: mark i of a word is its bit i, lowest first. A word is a plain number here, of any width.
-- Every definition has a meaning for any argument: no mark is set past the end of a word.
use Rattle.std.specs.Prelude.{ℕ, zero, suc, ◌+◌, ◌*◌, ◌/◌, ◌%◌, ◌^◌, Bool, cond, eqb, ltb}

-- Whether mark i of m is set.
unfoldable pub mark : ℕ → ℕ → Bool
mark m i = eqb (m / 2 ^ i % 2) 1

-- m with mark i set, where a word of this width has a mark i, and m itself where it has none.
unfoldable pub with_mark : ℕ → ℕ → ℕ → ℕ
with_mark width m i = cond (ltb i width) (cond (mark m i) m (m + 2 ^ i)) m

-- How many of 0, 1, .. n - 1 pass a test before the first that does not.
unfoldable pub leading : (ℕ → Bool) → ℕ → ℕ
leading p zero = 0
leading p (suc n) = cond (p 0) (suc (leading (λ i. p (suc i)) n)) 0

-- How many of the first n marks of m are set before the first clear one.
unfoldable pub trailing_ones : ℕ → ℕ → ℕ
trailing_ones n m = leading (mark m) n

-- The word whose first n marks are the answers of a test, and which has no other mark.
unfoldable pub marks_of : ℕ → (ℕ → Bool) → ℕ
marks_of zero p = 0
marks_of (suc n) p = cond (p 0) 1 0 + 2 * marks_of n (λ i. p (suc i))
