-- `logwhisker::show_part`: the part and its refusal, on words whose number their type gives.
-- Assumes nothing.
use mathlib.Core.Path.{◌≡◌, refl, ◌∙◌}
use native.Mathlib.Omega.{arith}
use lib.ListN.{length}
use Rattle.logwhisker.proofs.Refusals.{shown-refusal}
use Rattle.logwhisker.proofs.show_part.Goals as goal

pub returns-clause-refused : goal.returns-clause-refused
returns-clause-refused c =
    let a = c.args in
    let long : length a.words.now ≡ 85 = omega arith in
    c.show_part.ensures.refused ∙ shown-refusal a.words.now a.slots.now long a.number.0 _ refl
