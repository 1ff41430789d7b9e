-- `check_choose`: 26 before 25.
-- Assumes nothing.
use mathlib.Core.Path.{sym, ◌∙◌}
use borrow.Author.Tests.{eq-eqb, ne_eqb}
use Rattle.card.specs.Card.{choose_refusal}
use Rattle.card_words.proofs.Heads.{unfit, fit}
use Rattle.card_send.proofs.choose.check_choose.Goals as goal
use Rattle.card_send.proofs.choose.check_choose.Goals.{else-not-is_ack-via-then-not-is_ack+else-not-is_any_held, else-not-is_ack-via-else-not-is_ack}

pub returns-then-words-ne-CARD_WORDS : goal.returns-then-words-ne-CARD_WORDS
unfolding choose_refusal
returns-then-words-ne-CARD_WORDS c = rw (ne_eqb _ 85 c.if-words-ne-CARD_WORDS.true)

pub returns-then-not-is_fitting : goal.returns-then-not-is_fitting
unfolding choose_refusal
returns-then-not-is_fitting c =
    let a = c.args in
    rw (
      eq-eqb _ 85 c.if-words-ne-CARD_WORDS.false,
      unfit a.words.now _ c.head_of-h.ensures a.slots.now _ c.is_fitting.ensures (rw c.if-not-is_fitting.true),
    )

pub returns-then-not-is_any_held : goal.returns-then-not-is_any_held
unfolding choose_refusal
returns-then-not-is_any_held c =
    let a = c.args in
    let long = eq-eqb _ 85 c.if-words-ne-CARD_WORDS.false in
    let fitting =
    fit a.words.now _ c.head_of-h.ensures a.slots.now _ c.is_fitting.ensures (rw c.if-not-is_fitting.false) in
    let unlent = sym c.is_ack.ensures ∙ c.if-not-is_ack.true in
    rw (long, fitting, unlent, sym c.is_any_held.ensures ∙ c.if-not-is_any_held.true)

pub returns : goal.returns
unfolding choose_refusal
returns c =
    let a = c.args in
    let long = eq-eqb _ 85 c.if-words-ne-CARD_WORDS.false in
    let fitting =
    fit a.words.now _ c.head_of-h.ensures a.slots.now _ c.is_fitting.ensures (rw c.if-not-is_fitting.false) in
    elim c.else-not-is_ack.branch [
      | else-not-is_ack-via-then-not-is_ack+else-not-is_any_held w ↦ rw (
        long,
        fitting,
        sym c.is_ack.ensures ∙ w.if-not-is_ack.true,
        sym w.is_any_held.ensures ∙ w.if-not-is_any_held.false,
      )
      | else-not-is_ack-via-else-not-is_ack w ↦ rw (long, fitting, sym c.is_ack.ensures ∙ w.if-not-is_ack.false)
    ]
