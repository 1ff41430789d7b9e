-- `host_words::pair::open_pair`: what opening comes to, by value.
-- Assumes nothing.
use mathlib.Core.Path.{◌∙◌}
use Rattle.host_words.proofs.pair.open_pair.Goals as goal

pub returns : goal.returns
returns c = c.opened.ensures ∙ c.«open».ensures
