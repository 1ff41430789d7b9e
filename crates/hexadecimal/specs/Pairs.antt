-- Pairs of digits at the front of a piece of the input, taken two characters at a time. proofs/pairs/Laws.antt shows
-- that they come to what hexadecimal/specs/Taking.antt says of the characters one by one.
use Rattle.std.specs.Prelude.{ℕ, zero, suc, ◌+◌, ◌-◌, ◌*◌, ◌/◌, min, Bool, false, cond, List, ltb, length, get_or, set}
use Rattle.hexadecimal.specs.Line.{digit}
use Rattle.hexadecimal.specs.Taking.{value_or16, taken_of}
use Rattle.hexadecimal.specs.declared.line.Line.{Line}
use Rattle.hexadecimal.specs.declared.line.Taken.{Taken}

-- What is answered, and the lent buffer.
pub record Front : Type 0 where
  pub taken : Taken
  pub frame : List ℕ

-- How many pairs can be taken: the bytes are kept, a frame of size bytes has room for them, and the piece has two
-- characters for each, from an index to its end.
unfoldable pub pairs_most : ℕ → ℕ → ℕ → ℕ → ℕ
pairs_most len size from end = min (min 9001 size - len) ((end - from) / 2)

-- The value of the character at an index, where 16 stands for no digit.
abbrev pub value_at : List ℕ → ℕ → ℕ
value_at piece at = value_or16 (digit (get_or piece at 0))

-- At most n pairs are taken from an index on, a byte each, up to the first with a character that is no digit.
unfoldable pub pairs_from : Bool → List ℕ → ℕ → ℕ → ℕ → ℕ → List ℕ → Front
pairs_from bad piece zero at len half frame = record { taken = taken_of len half false bad at false; frame = frame }
pairs_from bad piece (suc n) at len half frame =
    cond (ltb 15 (value_at piece at)) (record { taken = taken_of len half false bad at false; frame = frame })
    (cond (ltb 15 (value_at piece (at + 1))) (record { taken = taken_of len half false bad at false; frame = frame })
    (pairs_from bad piece n (at + 2) (len + 1) (value_at piece at)
    (set frame len (value_at piece at * 16 + value_at piece (at + 1)))))

-- A line whose last digit waits for its second half is left as it is.
unfoldable pub front_of : Line → List ℕ → List ℕ → ℕ → Front
front_of line frame piece from =
    cond line.odd (record { taken = record { line = line; at = from; ended = false }; frame = frame })
    (pairs_from line.bad piece (pairs_most line.len (length frame) from (length piece)) from line.len
    line.half
    frame)
