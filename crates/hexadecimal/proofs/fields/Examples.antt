-- Digits and lines by computation: both sides of each edge of the digits, and a line with its reading.
use mathlib.Core.Path.{◌≡◌, refl}
use mathlib.Core.List.{List, [], ◌∷◌, map}
use mathlib.Core.Option.{none, some}
use Prim.Native.Nat.{ℕ}
use Rattle.octets.specs.Octets.{little, value, field}
use Rattle.hexadecimal.specs.Fields.{
  digit_of,
  value_of,
  hex,
  unhex,
  laid,
  numbers_from,
  total,
  line_of,
  line_length,
  read_line,
  read_lines,
  read_all,
}

-- `/`, `0`, `9`, `:`, `A`, `F`, a backquote, `a`, `f`, `g`
digits : map value_of (47 ∷ 48 ∷ 57 ∷ 58 ∷ 65 ∷ 70 ∷ 96 ∷ 97 ∷ 102 ∷ 103 ∷ [])
    ≡ 16 ∷ 0 ∷ 9 ∷ 16 ∷ 16 ∷ 16 ∷ 16 ∷ 10 ∷ 15 ∷ 16 ∷ []
unfolding value_of
digits = refl

-- 171 in one byte and 513 in two: `ab0102` and a newline
spelt : List ℕ
spelt = 97 ∷ 98 ∷ 48 ∷ 49 ∷ 48 ∷ 50 ∷ 10 ∷ []

line-is : line_of (1 ∷ 2 ∷ []) (171 ∷ 513 ∷ []) ≡ spelt
unfolding spelt line_of hex digit_of laid little
line-is = refl

-- it reads back; without its newline, or with a character behind it, it does not
reads :
    (read_line (1 ∷ 2 ∷ []) spelt ≡ some (171 ∷ 513 ∷ []))
    × (read_line (1 ∷ 2 ∷ []) (97 ∷ 98 ∷ 48 ∷ 49 ∷ 48 ∷ 50 ∷ []) ≡ none)
    × (read_all (1 ∷ []) (97 ∷ 98 ∷ 10 ∷ 48 ∷ []) ≡ none)
unfolding spelt read_line read_lines read_all line_length total unhex value_of numbers_from field value
reads = (refl, refl, refl)
