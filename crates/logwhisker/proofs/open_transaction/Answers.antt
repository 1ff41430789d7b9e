-- `logwhisker::open_transaction`: opening in place, on words whose number their type gives.
-- Assumes nothing.
use mathlib.Core.Path.{◌≡◌, ◌∙◌}
use native.Mathlib.Omega.{arith}
use lib.ListN.{length}
use borrow.Author.Tests.{eq-eqb}
use Rattle.std.proofs.lemmas.Result.{IfOk-weaker}
use Rattle.seq.specs.declared.TransNo.{TransNo}
use Rattle.card.specs.Card.{open_transaction}
use Rattle.card_words.specs.Words.{card_of}
use Rattle.card_build.specs.Numbering.{opened_in}
use Rattle.logwhisker.proofs.open_transaction.Goals as goal

pub returns-clause-refused : goal.returns-clause-refused
unfolding opened_in
returns-clause-refused c =
    let e : length c.args.words.now ≡ 85 = omega arith in
    c.open_transaction.ensures.refused ∙ rw (eq-eqb _ 85 e)

pub returns-clause-opened : goal.returns-clause-opened
unfolding opened_in
returns-clause-opened c =
    let a = c.args in
    let e : length a.words.now ≡ 85 = omega arith in
    let t : (opened_in a.words.now a.count a.address a.value).trans
    ≡ (open_transaction (card_of a.words.now) a.count a.address a.value).trans
    = rw (eq-eqb _ 85 e) in
    IfOk-weaker _ (λ (x : TransNo). x ≡ (opened_in a.words.now a.count a.address a.value).trans)
    (λ (x : TransNo). x ≡ (open_transaction (card_of a.words.now) a.count a.address a.value).trans) (λ x h. h ∙ t)
    c.open_transaction.ensures.opened
