-- `host_words::pair::acknowledge`: the pair's IDs passed on, each in its own place.
-- Assumes nothing.
use Rattle.host_words.proofs.pair.acknowledge.Goals as goal

pub returns : goal.returns
returns c = c.acknowledge_from.ensures
