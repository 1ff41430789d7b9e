-- `logwhisker::show_frame`: the part that is shown, on words whose number their type gives.
-- Assumes nothing.
use mathlib.Core.Path.{◌≡◌, ◌∙◌}
use native.Mathlib.Omega.{arith}
use lib.ListN.{length}
use borrow.Author.Tests.{eq-eqb}
use Rattle.card_send.specs.Parts.{shown_in}
use Rattle.logwhisker.proofs.show_frame.Goals as goal

pub returns : goal.returns
unfolding shown_in
returns c =
    let e : length c.args.words.now ≡ 85 = omega arith in
    c.show_frame.ensures ∙ rw (eq-eqb _ 85 e)
