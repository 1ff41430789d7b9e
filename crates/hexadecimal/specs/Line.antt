-- What a line of the input is, and which frame it spells. A character is its ASCII number; a newline is 10.
use Rattle.std.specs.Prelude.{ℕ, ◌+◌, ◌-◌, ◌*◌, Bool, true, false, cond, List, [], ◌∷◌, leb, eqb}
use Rattle.std.proofs.Math.Option.{Option, none, some}

-- The value of a hexadecimal digit: 0 to 9, a to f, A to F. No other character has one.
unfoldable pub within : ℕ → ℕ → ℕ → Bool
within low high c = cond (leb low c) (leb c high) false

unfoldable pub digit : ℕ → Option ℕ
digit c =
    cond (within 48 57 c) (some (c - 48))
    (cond (within 97 102 c) (some (c - 97 + 10)) (cond (within 65 70 c) (some (c - 65 + 10)) none))

-- The bytes that a line spells, two digits each, the high half first. None, which is refusal 14, where the characters
-- are odd in number or one of them is no digit.
abbrev pub joined : Option ℕ → Option ℕ → Option (List ℕ) → Option (List ℕ)
joined none low rest = none
joined (some h) none rest = none
joined (some h) (some l) none = none
joined (some h) (some l) (some bytes) = some ((h * 16 + l) ∷ bytes)

unfoldable pub decode : List ℕ → Option (List ℕ)
decode [] = some []
decode (c ∷ []) = none
decode (high ∷ low ∷ cs) = joined (digit high) (digit low) (decode cs)

-- The characters before the first newline, and whether there is a newline.
unfoldable pub up_to_newline : List ℕ → List ℕ
up_to_newline [] = []
up_to_newline (c ∷ cs) = cond (eqb c 10) [] (c ∷ up_to_newline cs)

unfoldable pub has_newline : List ℕ → Bool
has_newline [] = false
has_newline (c ∷ cs) = cond (eqb c 10) true (has_newline cs)
