-- `host_words::pair::fresh_pair` is the definition.
-- Assumes nothing.
use mathlib.Core.Path.{refl}
use Rattle.host.specs.Host.{fresh}
use Rattle.host_words.proofs.pair.fresh_pair.Goals as goal

pub returns : goal.returns
unfolding fresh
returns c = refl
