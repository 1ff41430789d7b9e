-- `table_words::own` reads what the words hold.
-- Assumes nothing.
use Rattle.table_words.specs.TableWords.{table_of}
use Rattle.table_words.proofs.own.Goals as goal

pub returns : goal.returns
unfolding table_of
returns c = rw c.word.ensures
