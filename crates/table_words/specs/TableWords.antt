-- A table of 16 pairs in 1,121 words that a caller lends: our ID, 16 sources, 16 first bytes of regions, 16 lengths of
-- regions, and 16 times the 67 words of a pair. Our ID and the sources stand together, so that a frame's place is found
-- in 136 bytes, whichever it is; a pair's words stand together too, so that they are lent as they lie. Any words at all
-- hold a table: one that is not there counts as 0, and bits that have no meaning are not looked at.
use Rattle.std.specs.Prelude.{ℕ, suc, ◌+◌, ◌*◌, ◌%◌, cond, List, [], ◌∷◌, eqb, get_or, take, drop}
use Rattle.words.specs.Words.{listed}
use Rattle.host_words.specs.Words.{pair_of}
use Rattle.table.specs.Table.{Entry, Table}

abbrev pub table_words : ℕ
table_words = 1121

-- Where the words of a place's pair start.
abbrev pub pair_at : ℕ → ℕ
pair_at k = 49 + 67 * k

-- The entry at a place.
abbrev pub entry_at : List ℕ → ℕ → Entry
entry_at w k = record {
  source = get_or w (1 + k) 0 % 65536;
  first = get_or w (17 + k) 0;
  size = get_or w (33 + k) 0;
  pair = pair_of (take 67 (drop (pair_at k) w));
}

-- The table that the words hold.
unfoldable pub table_of : List ℕ → Table
table_of w = record { own = get_or w 0 0 % 65536; entries = listed (entry_at w) 0 16 }

-- The index of the first word whose lowest 16 bits are s, and how many words there are where there is none. (Nothing of
-- this needs to be believed.)
unfoldable pub index_of : List ℕ → ℕ → ℕ
index_of [] s = 0
index_of (x ∷ xs) s = cond (eqb (x % 65536) s) 0 (suc (index_of xs s))
