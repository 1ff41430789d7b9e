-- `logwhisker::add_message`: adding in place, on words whose number their type gives.
-- Assumes nothing.
use mathlib.Core.Path.{◌≡◌, ◌∙◌}
use native.Mathlib.Omega.{arith}
use lib.ListN.{length}
use borrow.Author.Tests.{eq-eqb}
use Rattle.card_build.specs.Building.{added_in}
use Rattle.logwhisker.proofs.add_message.Goals as goal

pub returns-clause-slots_after : goal.returns-clause-slots_after
unfolding added_in
returns-clause-slots_after c =
    let e : length c.args.words.now ≡ 85 = omega arith in
    c.add_message.ensures.slots_after ∙ rw (eq-eqb _ 85 e)
