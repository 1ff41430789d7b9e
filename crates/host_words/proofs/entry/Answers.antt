-- `host_words::entry`: the two words of the entry.
-- Assumes nothing.
use Rattle.host_words.proofs.entry.Goals as goal

pub returns : goal.returns
returns c = rw (c.word-counts.ensures, c.word-terms.ensures) at c.entry_in.ensures
