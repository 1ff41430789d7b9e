-- Numbers of fewer bits in a word, and the word that they make, for any width; and a table read from words. Words lie
-- in a list, in which past the end stands 0 and nothing is stored: the library's get_or and set.
use Rattle.std.specs.Prelude.{ℕ, zero, suc, ◌+◌, ◌*◌, ◌/◌, ◌%◌, ◌^◌, ◌<◌, List, [], ◌∷◌, set}

-- Number j of the numbers of `width` bits in a word, the first of which has its lowest bits.
unfoldable pub part : ℕ → ℕ → ℕ → ℕ
part width x j = x / 2 ^ (width * j) % 2 ^ width

-- The first n of them.
unfoldable pub parts : ℕ → ℕ → ℕ → List ℕ
parts width zero x = []
parts width (suc n) x = x % 2 ^ width ∷ parts width n (x / 2 ^ width)

-- The word that numbers of `width` bits make.
unfoldable pub of_parts : ℕ → List ℕ → ℕ
of_parts width [] = 0
of_parts width (p ∷ ps) = p + 2 ^ width * of_parts width ps

-- Numbers that each have `width` bits.
abbrev pub Narrow : ℕ → List ℕ → Type 0
Narrow width [] = Unit
Narrow width (p ∷ ps) = (p < 2 ^ width) × Narrow width ps

-- A word of 64 bits has four quarters and two halves.
abbrev pub quarter : ℕ → ℕ → ℕ
quarter x j = part 16 x j

abbrev pub half : ℕ → ℕ → ℕ
half x j = part 32 x j

abbrev pub of_quarters : ℕ → ℕ → ℕ → ℕ → ℕ
of_quarters a b c d = of_parts 16 (a ∷ b ∷ c ∷ d ∷ [])

abbrev pub of_halves : ℕ → ℕ → ℕ
of_halves a b = of_parts 32 (a ∷ b ∷ [])

-- The word with v as quarter j.
abbrev pub with_quarter : ℕ → ℕ → ℕ → ℕ
with_quarter x j v = of_parts 16 (set (parts 16 4 x) j v)

-- What a function of an index gives from index k on, n times: a table, where the function reads an entry from words.
unfoldable pub listed : {A : Type 0} → (ℕ → A) → ℕ → ℕ → List A
listed f k zero = []
listed f k (suc n) = f k ∷ listed f (suc k) n
