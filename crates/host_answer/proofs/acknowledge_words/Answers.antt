-- `host_answer::acknowledge_words`: of the answer that the words give.
-- Assumes nothing.
use mathlib.Core.Path.{◌∙◌}
use Rattle.host_answer.proofs.acknowledge_words.Goals as goal

pub returns : goal.returns
returns c = c.acknowledge_in_place.ensures ∙ rw c.answer_of.ensures
