-- What is promised of opening a table in 1,121 words, of registering and removing there, and of any other number of
-- words. Assumes nothing.
use Rattle.std.specs.Prelude.{ℕ, ◌≡◌, ◌≢◌, List, length}
use Rattle.host_words.specs.Words.{other_length}
use Rattle.table.specs.Table.{TableStep, open_table, register, remove}
use Rattle.table_words.specs.TableWords.{table_words, table_of}

-- What a call hands back is in the words, and its refusal, 0 for none, is the answer. Words of another number stay as
-- they are.
abbrev pub HoldsStep : List ℕ → TableStep → List ℕ → ℕ → Type 0
HoldsStep w step left r =
    (length w ≡ table_words → (table_of left ≡ step.table) × (r ≡ step.refusal))
    × (length w ≢ table_words → (left ≡ w) × (r ≡ other_length))

abbrev pub OpensTable : List ℕ → ℕ → List ℕ → ℕ → Type 0
OpensTable w own left r = HoldsStep w (open_table own) left r

-- A refused registering or removal leaves the words as they were, word for word.
abbrev pub RegistersAt : List ℕ → ℕ → ℕ → ℕ → ℕ → List ℕ → ℕ → Type 0
RegistersAt w s first size memory left r =
    HoldsStep w (register (table_of w) s first size memory) left r × (r ≢ 0 → left ≡ w)

abbrev pub RemovesFrom : List ℕ → ℕ → List ℕ → ℕ → Type 0
RemovesFrom w s left r = HoldsStep w (remove (table_of w) s) left r × (r ≢ 0 → left ≡ w)
