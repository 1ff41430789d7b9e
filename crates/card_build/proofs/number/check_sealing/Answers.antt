-- `check_sealing`: 26 before 24.
-- Assumes nothing.
use Rattle.card.specs.Card.{seal_refusal}
use Rattle.card_words.proofs.Heads.{unfit, fit}
use Rattle.card_build.proofs.number.InPlace.{nothing-built, something-built}
use Rattle.card_build.proofs.number.check_sealing.Goals as goal

pub returns-then-not-is_fitting : goal.returns-then-not-is_fitting
unfolding seal_refusal
returns-then-not-is_fitting c =
    let a = c.args in
    rw (unfit a.words.now _ c.head_of-h.ensures a.slots.now _ c.is_fitting.ensures (rw c.if-not-is_fitting.true))

pub returns-then-h-eq0 : goal.returns-then-h-eq0
unfolding seal_refusal
returns-then-h-eq0 c =
    let a = c.args in
    let h = c.head_of-h.ensures in
    let fitting = fit a.words.now _ h a.slots.now _ c.is_fitting.ensures (rw c.if-not-is_fitting.false) in
    rw (fitting, nothing-built a.words.now _ h c.if-h-eq0.true)

pub returns : goal.returns
unfolding seal_refusal
returns c =
    let a = c.args in
    let h = c.head_of-h.ensures in
    let fitting = fit a.words.now _ h a.slots.now _ c.is_fitting.ensures (rw c.if-not-is_fitting.false) in
    rw (fitting, something-built a.words.now _ h c.if-h-eq0.false)
