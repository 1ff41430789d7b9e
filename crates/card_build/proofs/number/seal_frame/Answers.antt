-- `seal_frame`: the frame being built gets the next number.
-- Assumes nothing.
use mathlib.Core.Path.{refl, sym, ap}
use native.Mathlib.Omega.{arith}
use borrow.Author.Tests.{eq-eqb, ne_eqb}
use Rattle.std.proofs.lemmas.Result.{err_from_is_err_and}
use Rattle.refusal.proofs.Numbers.{number-positive}
use Rattle.card.specs.declared.Sealed.{Sealed}
use Rattle.card_build.specs.Numbering.{sealed_in}
use Rattle.card_build.proofs.number.InPlace.{sealing-refused, sealed-now}
use borrow.Author.Rules.{rules}
use Rattle.card_build.proofs.number.seal_frame.Goals as goal

pub returns-then-words-ne-CARD_WORDS : goal.returns-then-words-ne-CARD_WORDS
unfolding sealed_in
returns-then-words-ne-CARD_WORDS c =
    record {
      refused = rw (ne_eqb _ 85 c.if-words-ne-CARD_WORDS.true);
      sealed = tt;
      steps = (λ l. absurd (c.if-words-ne-CARD_WORDS.true l), λ n. refl);
    }

pub returns-in_err-check_sealing : goal.returns-in_err-check_sealing
unfolding sealed_in
returns-in_err-check_sealing c =
    let reason = c.in_err-check_sealing.field-0.0 in
    let done =
    sealing-refused _ _ _ c.in_err-check_sealing.ensures (λ z. omega (arith, number-positive reason)) in
    let p = err_from_is_err_and c.from_residual.result c.from_residual.ensures.1 in record {
      refused = rw (p.1, p.2, eq-eqb _ 85 c.if-words-ne-CARD_WORDS.false, done);
      sealed = rw p.1 tt;
      steps = (λ l. sym (ap (λ (o : Sealed). o.card) done), λ n. refl);
    }

pub returns : goal.returns
unfolding sealed_in
returns c =
    let a = c.args in
    let done =
    sealed-now a.words.now _ c.head_of-h.ensures a.slots.now _ c.in_ok-check_sealing.ensures refl
    _ _ _ c.advance.ensures (c.put_size.ensures.0 c.if-words-ne-CARD_WORDS.false) (c.put_head.ensures.0 (search rules)) in record {
      refused = rw (eq-eqb _ 85 c.if-words-ne-CARD_WORDS.false, done);
      sealed = rw (eq-eqb _ 85 c.if-words-ne-CARD_WORDS.false, done);
      steps = (λ l. sym (ap (λ (o : Sealed). o.card) done), λ n. absurd (n refl));
    }
