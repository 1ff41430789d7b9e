-- `logwhisker::choose_part`: the choice and its refusal, on words whose number their type gives.
-- Assumes nothing.
use mathlib.Core.Path.{◌≡◌, refl, ◌∙◌}
use native.Mathlib.Omega.{arith}
use lib.ListN.{length}
use Rattle.logwhisker.proofs.Refusals.{chosen-refusal}
use Rattle.logwhisker.proofs.choose_part.Goals as goal

pub returns-clause-refused : goal.returns-clause-refused
returns-clause-refused c =
    let a = c.args in
    let long : length a.words.now ≡ 85 = omega arith in
    c.choose_part.ensures.refused ∙ chosen-refusal a.words.now a.slots.now long a.ack.now _ refl
