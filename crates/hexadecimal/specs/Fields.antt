-- A line of numbers: each number little endian in as many bytes as its width says, each byte as two lower-case
-- hexadecimal digits, the high half first, and a newline behind the last. A character is its ASCII number; a newline is
-- 10. Every definition is for any widths, so that it serves every version of a stored form.
use Rattle.std.specs.Prelude.{ℕ, zero, suc, ◌+◌, ◌-◌, ◌*◌, ◌/◌, ◌%◌, ◌^◌, ◌<◌, cond, ◌&&◌, List, [], ◌∷◌, ◌++◌, eqb, leb, ltb, length, get_or, drop}
use Rattle.std.proofs.Math.Option.{Option, none, some}
use Rattle.octets.specs.Octets.{little, field}

-- ---- digits

-- The digit of a number below 16.
unfoldable pub digit_of : ℕ → ℕ
digit_of d = cond (ltb d 10) (48 + d) (87 + d)

-- The value of a lower-case digit, and 16 where the character is none.
unfoldable pub value_of : ℕ → ℕ
value_of c = cond (leb 48 c && leb c 57) (c - 48) (cond (leb 97 c && leb c 102) (c - 87) 16)

-- ---- bytes

unfoldable pub hex : List ℕ → List ℕ
hex [] = []
hex (b ∷ bs) = digit_of (b / 16) ∷ digit_of (b % 16) ∷ hex bs

-- The n bytes that a text begins with where it begins with 2 n digits and a newline, and none where it does not. (Past
-- the end of a text stands 0, which is neither a digit nor a newline.)
abbrev pub joined : ℕ → ℕ → Option (List ℕ) → Option (List ℕ)
joined high low none = none
joined high low (some bytes) = cond (ltb high 16 && ltb low 16) (some ((high * 16 + low) ∷ bytes)) none

unfoldable pub unhex : ℕ → List ℕ → Option (List ℕ)
unhex zero text = cond (eqb (get_or text 0 0) 10) (some []) none
unhex (suc n) text = joined (value_of (get_or text 0 0)) (value_of (get_or text 1 0)) (unhex n (drop 2 text))

-- ---- numbers

-- Numbers laid out in bytes, one behind the other.
unfoldable pub laid : List ℕ → List ℕ → List ℕ
laid [] xs = []
laid (w ∷ ws) [] = []
laid (w ∷ ws) (x ∷ xs) = little w x ++ laid ws xs

-- The numbers of these widths from an offset on.
unfoldable pub numbers_from : ℕ → List ℕ → List ℕ → List ℕ
numbers_from at [] bytes = []
numbers_from at (w ∷ ws) bytes = field bytes at w ∷ numbers_from (at + w) ws bytes

unfoldable pub total : List ℕ → ℕ
total [] = 0
total (w ∷ ws) = w + total ws

-- As many numbers as widths, each of which fits its bytes.
pub data Fitting : List ℕ → List ℕ → Type 0 where
  no_more : Fitting [] []
  and : {w x : ℕ} {ws xs : List ℕ} → x < 256 ^ w → Fitting ws xs → Fitting (w ∷ ws) (x ∷ xs)

pub data AllFitting (widths : List ℕ) : List (List ℕ) → Type 0 where
  no_line : AllFitting widths []
  line : {xs : List ℕ} {lines : List (List ℕ)} → Fitting widths xs → AllFitting widths lines
      → AllFitting widths (xs ∷ lines)

-- ---- lines

unfoldable pub line_of : List ℕ → List ℕ → List ℕ
line_of widths xs = hex (laid widths xs) ++ (10 ∷ [])

unfoldable pub lines_of : List ℕ → List (List ℕ) → List ℕ
lines_of widths [] = []
lines_of widths (xs ∷ lines) = line_of widths xs ++ lines_of widths lines

-- How many characters a line has.
unfoldable pub line_length : List ℕ → ℕ
line_length widths = 2 * total widths + 1

-- The numbers of the line that a text begins with.
abbrev pub numbers_of : List ℕ → Option (List ℕ) → Option (List ℕ)
numbers_of widths none = none
numbers_of widths (some bytes) = some (numbers_from 0 widths bytes)

unfoldable pub read_line : List ℕ → List ℕ → Option (List ℕ)
read_line widths text = numbers_of widths (unhex (total widths) text)

-- The numbers of a text of k lines and nothing behind them; and of a text of lines, of which there are as many as its
-- length says.
abbrev pub followed : Option (List ℕ) → Option (List (List ℕ)) → Option (List (List ℕ))
followed none lines = none
followed (some xs) none = none
followed (some xs) (some lines) = some (xs ∷ lines)

unfoldable pub read_lines : ℕ → List ℕ → List ℕ → Option (List (List ℕ))
read_lines zero widths [] = some []
read_lines zero widths (c ∷ text) = none
read_lines (suc k) widths text = followed (read_line widths text) (read_lines k widths (drop (line_length widths) text))

unfoldable pub read_all : List ℕ → List ℕ → Option (List (List ℕ))
read_all widths text = read_lines (length text / line_length widths) widths text
