-- The pair's words with a part of it written, and the pair that 67 of them hold then. Assumes nothing: past the end
-- nothing is written.
use Rattle.std.specs.Prelude.{ℕ, ◌+◌, ◌*◌, ◌≡◌, List, length, set}
use Rattle.words.specs.Words.{of_quarters, of_halves}
use Rattle.host.specs.declared.Open.{Open}
use Rattle.host_words.specs.declared.Head.{Head}
use Rattle.host_words.specs.Words.{word_count, pair_of, head_part, joined}

-- The words with entry s set to o.
unfoldable pub with_entry : List ℕ → ℕ → Open → List ℕ
with_entry w s o =
    set
    (set w (3 + 2 * s) (of_halves o.address o.value))
    (4 + 2 * s) (of_quarters o.count o.received 0 0)

-- The words with those before the table set.
unfoldable pub with_head : List ℕ → Head → List ℕ
with_head w h =
    set
    (set
    (set w 0 (of_quarters h.own h.peer h.next.0 0))
    1 h.marks)
    2 (of_halves h.lowest.0 h.closed)

-- Entry s of the pair is o now, and all else is as it was.
abbrev pub HoldsEntry : List ℕ → List ℕ → ℕ → Open → Type 0
HoldsEntry w left s o =
    length w ≡ word_count → pair_of left ≡ joined (head_part (pair_of w)) (set (pair_of w).table s o)

-- What stands before the table is h now, and the table is as it was.
abbrev pub HoldsHead : List ℕ → List ℕ → Head → Type 0
HoldsHead w left h = length w ≡ word_count → pair_of left ≡ joined h (pair_of w).table
