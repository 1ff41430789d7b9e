-- `logwhisker::choose_next`: the part that is chosen, on words whose number their type gives.
-- Assumes nothing.
use mathlib.Core.Path.{◌≡◌, ◌∙◌}
use native.Mathlib.Omega.{arith}
use lib.ListN.{length}
use borrow.Author.Tests.{eq-eqb}
use Rattle.card_send.specs.Choices.{chosen_in}
use Rattle.logwhisker.proofs.choose_next.Goals as goal

pub returns : goal.returns
unfolding chosen_in
returns c =
    let e : length c.args.words.now ≡ 85 = omega arith in
    c.choose_next.ensures ∙ rw (eq-eqb _ 85 e)
