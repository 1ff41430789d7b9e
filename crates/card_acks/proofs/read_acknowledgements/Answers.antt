-- `read_acknowledgements`: refused as a frame is, or the range of its header.
-- Assumes nothing.
use mathlib.Core.Path.{refl, sym, ap}
use native.Mathlib.Omega.{arith}
use borrow.Author.Tests.{eq-eqb, ne_eqb}
use Rattle.std.proofs.lemmas.Result.{err_from_is_err_and}
use Rattle.refusal.proofs.Numbers.{number-positive}
use Rattle.card.specs.declared.Stepped.{Stepped}
use Rattle.card_acks.proofs.InPlace.{reading-refused, reading-done}
use Rattle.card_acks.proofs.read_acknowledgements.Goals as goal

pub returns-then-words-ne-CARD_WORDS : goal.returns-then-words-ne-CARD_WORDS
returns-then-words-ne-CARD_WORDS c =
    record {
      refused = rw (ne_eqb _ 85 c.if-words-ne-CARD_WORDS.true);
      steps = (λ l. absurd (c.if-words-ne-CARD_WORDS.true l), λ n. refl);
    }

pub returns-in_err-check : goal.returns-in_err-check
returns-in_err-check c =
    let a = c.args in
    let reason = c.in_err-check.field-0.0 in
    let done = reading-refused a.words.now _ c.head_of-h.ensures a.f.now _ c.in_err-check.ensures
    (λ z. omega (arith, number-positive reason)) in
    let p = err_from_is_err_and c.from_residual.result c.from_residual.ensures.1 in record {
      refused = rw (p.1, p.2, eq-eqb _ 85 c.if-words-ne-CARD_WORDS.false, done);
      steps = (λ l. sym (ap (λ (s : Stepped). s.card) done), λ n. refl);
    }

pub returns : goal.returns
returns c =
    let a = c.args in
    let done =
    reading-done a.words.now _ c.head_of-h.ensures a.f.now _ c.in_ok-check.ensures refl _ _
    c.frame_header-head.ensures (c.acknowledge.ensures c.if-words-ne-CARD_WORDS.false) in record {
      refused = rw (eq-eqb _ 85 c.if-words-ne-CARD_WORDS.false, done);
      steps = (λ l. sym (ap (λ (s : Stepped). s.card) done), λ n. absurd (n refl));
    }
