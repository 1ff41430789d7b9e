-- A table described in 49 words: our ID, and for each of the 16 places its source, which is 0 where the place is free,
-- and the first byte and the length of its region.
use Rattle.std.specs.Prelude.{ℕ, List, [], ◌∷◌, ◌++◌}
use Rattle.table.specs.Table.{Entry, Table}

abbrev pub three : Entry → List ℕ
three e = e.source ∷ e.first ∷ e.size ∷ []

unfoldable pub threes : List Entry → List ℕ
threes [] = []
threes (e ∷ es) = three e ++ threes es

abbrev pub table_description : Table → List ℕ
table_description t = t.own ∷ threes t.entries
