-- `host_answer::put_line`: the words in their order.
-- Assumes nothing.
use mathlib.Core.Path.{refl}
use Rattle.host_answer.proofs.put_line.Goals as goal

pub returns : goal.returns
returns c = refl
