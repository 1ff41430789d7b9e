-- `add_message`: refused and nothing changed, or the message in its slot and counted.
-- Assumes nothing.
use mathlib.Core.Path.{refl, sym, ap, ◌∙◌}
use native.Mathlib.Omega.{arith}
use borrow.Author.Tests.{eq-eqb, ne_eqb}
use Rattle.std.proofs.lemmas.Result.{err_from_is_err_and}
use Rattle.refusal.proofs.Numbers.{number-positive}
use Rattle.card.specs.Card.{Added}
use Rattle.card.proofs.Slots.{addable, room_in, limit-most}
use Rattle.card_words.specs.Words.{card_of}
use Rattle.card_build.specs.Building.{added_in}
use Rattle.card_build.proofs.InPlace.{adding-refused, adding-done}
use Rattle.card_build.proofs.add_message.Goals as goal

pub returns-then-words-ne-CARD_WORDS : goal.returns-then-words-ne-CARD_WORDS
unfolding added_in
returns-then-words-ne-CARD_WORDS c =
    record {
      refused = rw (ne_eqb _ 85 c.if-words-ne-CARD_WORDS.true);
      steps = (λ l. absurd (c.if-words-ne-CARD_WORDS.true l), λ n. refl);
      slots_after = rw (ne_eqb _ 85 c.if-words-ne-CARD_WORDS.true);
    }

pub returns-in_err-check_adding : goal.returns-in_err-check_adding
unfolding added_in
returns-in_err-check_adding c =
    let a = c.args in
    let reason = c.in_err-check_adding.field-0.0 in
    let done = adding-refused (card_of a.words.now) a.slots.now a.t.0 a.at a.payload.now _
    c.in_err-check_adding.ensures (λ z. omega (arith, number-positive reason)) in
    let p = err_from_is_err_and c.from_residual.result c.from_residual.ensures.1 in record {
      refused = rw (p.1, p.2, eq-eqb _ 85 c.if-words-ne-CARD_WORDS.false, done);
      steps = (λ l. sym (ap (λ (x : Added). x.step.card) done), λ n. refl);
      slots_after = rw (eq-eqb _ 85 c.if-words-ne-CARD_WORDS.false, done);
    }

pub write_message-requires : goal.write_message-requires
write_message-requires c =
    let a = c.args in
    (addable (card_of a.words.now) a.slots.now a.t.0 a.payload.now (sym c.in_ok-check_adding.ensures)).slots-fit

pub count_message-requires : goal.count_message-requires
count_message-requires c =
    let a = c.args in
    let w = card_of a.words.now in
    let ok = addable w a.slots.now a.t.0 a.payload.now (sym c.in_ok-check_adding.ensures) in record {
      t_value = ok.takes-more;
      payload_bound = omega (
        arith,
        room_in w a.slots.now a.t.0 a.payload.now ok,
        limit-most w.limit a.slots.now ok.slots-fit,
      );
    }

pub returns : goal.returns
unfolding added_in
returns c =
    let a = c.args in
    let done = adding-done (card_of a.words.now) a.slots.now a.t.0 a.at a.payload.now _
    c.in_ok-check_adding.ensures refl in
    record {
      refused = rw (eq-eqb _ 85 c.if-words-ne-CARD_WORDS.false, done);
      steps = (λ l. c.count_message.ensures l ∙ sym (ap (λ (x : Added). x.step.card) done), λ n. absurd (n refl));
      slots_after = rw (eq-eqb _ 85 c.if-words-ne-CARD_WORDS.false, done) c.write_message.ensures;
    }
