-- `host_words::describe::number_at`: as far past the lowest one.
-- Assumes nothing.
use mathlib.Core.Path.{◌∙◌}
use Rattle.host_words.proofs.describe.number_at.Goals as goal

pub returns : goal.returns
returns c = c.advance.ensures ∙ rw c.lowest.ensures
