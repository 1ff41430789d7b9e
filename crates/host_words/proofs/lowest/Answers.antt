-- `host_words::lowest` reads what the words hold.
-- Assumes nothing.
use Rattle.host_words.specs.Words.{pair_of}
use Rattle.host_words.proofs.lowest.Goals as goal

pub returns : goal.returns
unfolding pair_of
returns c = rw (c.half.ensures, c.word.ensures)
