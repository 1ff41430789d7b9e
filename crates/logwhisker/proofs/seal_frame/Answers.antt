-- `logwhisker::seal_frame`: sealing in place, on words whose number their type gives.
-- Assumes nothing.
use mathlib.Core.Path.{◌≡◌, ◌∙◌}
use native.Mathlib.Omega.{arith}
use lib.ListN.{length}
use borrow.Author.Tests.{eq-eqb}
use Rattle.std.proofs.lemmas.Result.{IfOk-weaker}
use Rattle.seq.specs.declared.FrameNo.{FrameNo}
use Rattle.card.specs.Card.{seal_frame}
use Rattle.card_words.specs.Words.{card_of}
use Rattle.card_build.specs.Numbering.{sealed_in}
use Rattle.logwhisker.proofs.seal_frame.Goals as goal

pub returns-clause-refused : goal.returns-clause-refused
unfolding sealed_in
returns-clause-refused c =
    let e : length c.args.words.now ≡ 85 = omega arith in
    c.seal_frame.ensures.refused ∙ rw (eq-eqb _ 85 e)

pub returns-clause-sealed : goal.returns-clause-sealed
unfolding sealed_in
returns-clause-sealed c =
    let a = c.args in
    let e : length a.words.now ≡ 85 = omega arith in
    let n : (sealed_in a.words.now a.slots.now).number ≡ (seal_frame (card_of a.words.now) a.slots.now).number
    = rw (eq-eqb _ 85 e) in
    IfOk-weaker _ (λ (x : FrameNo). x ≡ (sealed_in a.words.now a.slots.now).number)
    (λ (x : FrameNo). x ≡ (seal_frame (card_of a.words.now) a.slots.now).number) (λ x h. h ∙ n)
    c.seal_frame.ensures.sealed
