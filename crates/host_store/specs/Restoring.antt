-- What is promised of reading a pair back into 67 words, and into any other number of them. Assumes nothing.
use Rattle.std.specs.Prelude.{ℕ, List}
use Rattle.host_words.specs.Opening.{HoldsOpened}
use Rattle.host_stored.specs.Form.{read_text}

abbrev pub Restores : List ℕ → List ℕ → List ℕ → ℕ → Type 0
Restores w text left r = HoldsOpened w (read_text text) left r
