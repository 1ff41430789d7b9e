-- A ledger in 2,049 words (16,392 bytes) that a caller lends. Of subscriber s, word 2s is the total; word 2s + 1 has
-- the last counter in its lower half, and its upper half tells whether the subscriber was read: 0 is no, anything else
-- is yes. The last word is the sum. So a reading needs two words that stand together, and in an array that starts at a
-- multiple of 16 bytes they lie in one line of the computer's memory. Any words at all hold a ledger: one that is not
-- there counts as 0.
use Rattle.std.specs.Prelude.{ℕ, ◌+◌, ◌*◌, ◌%◌, Bool, List, nat_le, slice_index}
use Rattle.words.specs.Words.{listed}
use Rattle.ledger.specs.Ledger.{Ledger, Reading, ledger_of, subscribers, counter_space, reading_at}

abbrev pub ledger_words : ℕ
ledger_words = 2049

abbrev pub total_in : List ℕ → ℕ → ℕ
total_in w s = slice_index w (2 * s)

abbrev pub counter_in : List ℕ → ℕ → ℕ
counter_in w s = slice_index w (2 * s + 1) % counter_space

abbrev pub read_in : List ℕ → ℕ → Bool
read_in w s = nat_le counter_space (slice_index w (2 * s + 1))

-- The subscribers that the words hold, with a sum beside them.
unfoldable pub accounts_in : List ℕ → ℕ → Ledger
accounts_in w sum =
    ledger_of (listed (read_in w) 0 subscribers) (listed (counter_in w) 0 subscribers)
    (listed (total_in w) 0 subscribers) sum

-- The ledger that the words hold.
unfoldable pub ledger_in : List ℕ → Ledger
ledger_in w = accounts_in w (slice_index w 2048)

-- The reading that eight bytes hold.
abbrev pub reading_in : List ℕ → Reading
reading_in bytes = reading_at bytes 0
