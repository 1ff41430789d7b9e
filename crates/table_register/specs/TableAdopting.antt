-- What is promised of taking a pair out of a table in 1,121 words and of adopting one there, and of any other numbers
-- of words. Assumes nothing.
use Rattle.std.specs.Prelude.{ℕ, ◌≡◌, ◌≢◌, cond, List, length}
use Rattle.host.specs.declared.Pair.{Pair}
use Rattle.host_words.specs.Words.{word_count, other_length, pair_of}
use Rattle.table.specs.Table.{Table, registered}
use Rattle.table.specs.Adopting.{take_out, adopt}
use Rattle.table_words.specs.TableWords.{table_words, table_of}

-- The host that a card's pair is taken out into: that pair, or where the taking is refused, what the host was.
abbrev pub taken_into : Table → ℕ → Pair → Pair
taken_into t s before = cond (registered t s) (take_out t s).pair before

-- The 67 words hold it then. Words of another number stay as they are.
abbrev pub TakesInto : List ℕ → ℕ → List ℕ → List ℕ → ℕ → Type 0
TakesInto w s pair left r =
    (length pair ≡ word_count
    → (r ≡ (take_out (table_of w) s).refusal) × (pair_of left ≡ taken_into (table_of w) s (pair_of pair)))
    × (length pair ≢ word_count → (r ≡ other_length) × (left ≡ pair))

-- A refused taking leaves them as they were, word for word.
abbrev pub TakesOut : List ℕ → ℕ → List ℕ → List ℕ → ℕ → Type 0
TakesOut w s pair left r =
    (length w ≡ table_words → TakesInto w s pair left r)
    × (length w ≢ table_words → (r ≡ other_length) × (left ≡ pair))
    × (r ≢ 0 → left ≡ pair)

-- Adopting the pair that 67 words hold, in a table of 1,121 words.
abbrev pub AdoptsFrom : List ℕ → List ℕ → ℕ → ℕ → ℕ → List ℕ → ℕ → Type 0
AdoptsFrom w pair first size memory left r =
    (length pair ≡ word_count
    → (table_of left ≡ (adopt (table_of w) (pair_of pair) first size memory).table)
    × (r ≡ (adopt (table_of w) (pair_of pair) first size memory).refusal))
    × (length pair ≢ word_count → (left ≡ w) × (r ≡ other_length))

-- A refused adopting leaves the table's words as they were, word for word.
abbrev pub Adopts : List ℕ → List ℕ → ℕ → ℕ → ℕ → List ℕ → ℕ → Type 0
Adopts w pair first size memory left r =
    (length w ≡ table_words → AdoptsFrom w pair first size memory left r)
    × (length w ≢ table_words → (left ≡ w) × (r ≡ other_length))
    × (r ≢ 0 → left ≡ w)
