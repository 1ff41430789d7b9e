-- `check_show`: 26 before 25.
-- Assumes nothing.
use mathlib.Core.Path.{sym, ◌∙◌}
use borrow.Author.Tests.{eq-eqb, ne_eqb}
use Rattle.card.specs.Card.{show_refusal}
use Rattle.card_words.proofs.Heads.{unfit, fit}
use Rattle.card_send.proofs.show.check_show.Goals as goal

pub returns-then-words-ne-CARD_WORDS : goal.returns-then-words-ne-CARD_WORDS
unfolding show_refusal
returns-then-words-ne-CARD_WORDS c = rw (ne_eqb _ 85 c.if-words-ne-CARD_WORDS.true)

pub returns-then-not-is_fitting : goal.returns-then-not-is_fitting
unfolding show_refusal
returns-then-not-is_fitting c =
    let a = c.args in
    rw (
      eq-eqb _ 85 c.if-words-ne-CARD_WORDS.false,
      unfit a.words.now _ c.head_of-h.ensures a.slots.now _ c.is_fitting.ensures (rw c.if-not-is_fitting.true),
    )

pub returns-then-not-is_held : goal.returns-then-not-is_held
unfolding show_refusal
returns-then-not-is_held c =
    let a = c.args in
    let long = eq-eqb _ 85 c.if-words-ne-CARD_WORDS.false in
    let fitting =
    fit a.words.now _ c.head_of-h.ensures a.slots.now _ c.is_fitting.ensures (rw c.if-not-is_fitting.false) in
    rw (long, fitting, sym c.is_held.ensures ∙ c.if-not-is_held.true)

pub returns : goal.returns
unfolding show_refusal
returns c =
    let a = c.args in
    let long = eq-eqb _ 85 c.if-words-ne-CARD_WORDS.false in
    let fitting =
    fit a.words.now _ c.head_of-h.ensures a.slots.now _ c.is_fitting.ensures (rw c.if-not-is_fitting.false) in
    rw (long, fitting, sym c.is_held.ensures ∙ c.if-not-is_held.false)
