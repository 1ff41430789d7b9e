-- The numbers of one transaction's line, if it is open.
use Rattle.std.specs.Prelude.{ℕ, cond, List, [], ◌∷◌, eqb}
use Rattle.host.specs.declared.Open.{Open}
use Rattle.host.specs.declared.Pair.{Pair}
use Rattle.host_words.specs.Describing.{number_at, entry_at}
use Rattle.host_stored.specs.Form.{open_line}

-- Of an entry, and of the transaction j past the lowest one.
unfoldable pub entry_lines : ℕ → Open → List (List ℕ)
entry_lines number o = cond (eqb o.received 0) [] (open_line number o ∷ [])

abbrev pub lines_at : Pair → ℕ → List (List ℕ)
lines_at p j = entry_lines (number_at p j) (entry_at p j)
