-- `host_store::restore::restore`: the words hold what the text is read as.
-- Assumes nothing.
use mathlib.Core.Path.{ap, ◌∙◌}
use Rattle.host_words.specs.Opening.{opening}
use Rattle.host_store.proofs.restore.restore.Goals as goal

pub returns : goal.returns
returns c = rw (ap opening c.ok_or.ensures.value ∙ c.read.ensures) at c.put_opening.ensures
