-- The text of an answer line: a letter, numbers in decimal with a space before each, and a newline.
use Rattle.std.specs.Prelude.{ℕ, ◌+◌, Bool, false, cond, List, [], ◌∷◌, ◌++◌, length, nat_le}
use Rattle.octets.specs.Octets.{inside, written}
use Rattle.replay_text.specs.Decimal.{decimal}

unfoldable pub numbers_text : List ℕ → List ℕ
numbers_text [] = 10 ∷ []
numbers_text (n ∷ ns) = 32 ∷ decimal n ++ numbers_text ns

unfoldable pub line_text : ℕ → List ℕ → List ℕ
line_text letter ns = letter ∷ numbers_text ns

-- A line has at most 8 numbers. It is written whole where it fits. Where not, or for more numbers, nothing is written.
unfoldable pub fits_line : List ℕ → ℕ → ℕ → List ℕ → Bool
fits_line out at letter ns = cond (nat_le (length ns) 8) (inside out at (length (line_text letter ns))) false

unfoldable pub with_line : List ℕ → ℕ → ℕ → List ℕ → List ℕ
with_line out at letter ns = cond (nat_le (length ns) 8) (written out at (line_text letter ns)) out

unfoldable pub line_end : List ℕ → ℕ → ℕ → List ℕ → ℕ
line_end out at letter ns = cond (fits_line out at letter ns) (at + length (line_text letter ns)) at
