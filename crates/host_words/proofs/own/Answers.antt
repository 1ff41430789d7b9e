-- `host_words::own` reads what the words hold.
-- Assumes nothing.
use Rattle.host_words.specs.Words.{pair_of}
use Rattle.host_words.proofs.own.Goals as goal

pub returns : goal.returns
unfolding pair_of
returns c = rw (c.quarter.ensures, c.word.ensures)
