-- The table as a frame's messages leave it so far, which is written nowhere: it shows in the words and in the entries
-- that are kept beside them. Nothing of this needs to be believed: proofs/validate/Walk.antt shows that what is found by
-- it is validated_of of Validating.antt.
use Rattle.std.specs.Prelude.{◌≡◌, ℕ, ◌%◌, ◌<◌, true, false, ◌⊎◌, List, length, slice_index_or, slice_set}
use Rattle.bitmap.specs.Marks.{mark}
use Rattle.host.specs.declared.Open.{Open}
use Rattle.host.specs.Terms.{free}
use Rattle.host_words.specs.Words.{word_count, entry_of}
use Rattle.host_receive.specs.declared.verdict.Judged.{Judged}

-- Entries that a verdict does not tell apart: where nothing was received, what else an entry holds is not looked at.
abbrev pub Alike : Open → Open → Type 0
Alike a b = (a ≡ b) ⊎ ((a.received ≡ 0) × (b.received ≡ 0))

-- The words stand for the table, but for entries that are marked as changed.
pub record StandsApart (changed : ℕ) (w : List ℕ) (table : List Open) : Type 0 where
  pub long : length table ≡ 32
  pub unmarked : (s : ℕ) → s < 32 → mark changed s ≡ false → Alike (slice_index_or table s free) (entry_of w s)

-- And these are kept in words of their own.
pub record StandsKept (kept : List ℕ) (changed : ℕ) (w : List ℕ) (table : List Open) : Type 0 where
  pub apart : StandsApart changed w table
  pub enough : length kept ≡ word_count
  pub marked : (s : ℕ) → s < 32 → mark changed s ≡ true → Alike (slice_index_or table s free) (entry_of kept s)

-- The entry of a transaction in a table that the words stand for.
abbrev pub Shows : (List ℕ → List Open → Type 0) → List ℕ → ℕ → Open → Type 0
Shows stands w number o = (table : List Open) → stands w table → Alike (slice_index_or table (number % 32) free) o

-- A message was judged by its entry: what stood for a table stands for the table with the entry that it leaves.
abbrev pub Moves : (List ℕ → List Open → Type 0) → (List ℕ → List Open → Type 0) → ℕ → Open → Judged → Type 0
Moves stands left number o judged =
    (w : List ℕ) (table : List Open) → stands w table → Alike (slice_index_or table (number % 32) free) o
    → (judged.done ≡ true → judged.entry ≡ free) → left w (slice_set table (number % 32) judged.entry)
