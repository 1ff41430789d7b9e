-- `host_answer::acknowledge_in_place`: by the IDs that the words hold.
-- Assumes nothing.
use mathlib.Core.Path.{◌∙◌}
use Rattle.host_answer.proofs.acknowledge_in_place.Goals as goal

pub returns : goal.returns
returns c = c.acknowledge_from.ensures ∙ rw (c.peer.ensures, c.own.ensures)
