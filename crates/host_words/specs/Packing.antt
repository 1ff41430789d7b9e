-- What is promised of a whole pair in 67 words, and of any other number of them. Assumes nothing.
use Rattle.std.specs.Prelude.{ℕ, ◌≡◌, ◌≢◌, List, length}
use Rattle.host.specs.declared.Open.{Open}
use Rattle.host.specs.declared.Pair.{Pair}
use Rattle.host_words.specs.Words.{word_count, pair_of, head_part, joined}

-- The table is as given now, and what stands before it is as it was.
abbrev pub HoldsTable : List ℕ → List ℕ → List Open → Type 0
HoldsTable w left table = length w ≡ word_count → pair_of left ≡ joined (head_part (pair_of w)) table

-- 67 words hold the pair now; others are as they were.
abbrev pub Holds : List ℕ → List ℕ → Pair → Type 0
Holds w left p = (length w ≡ word_count → pair_of left ≡ p) × (length w ≢ word_count → left ≡ w)
