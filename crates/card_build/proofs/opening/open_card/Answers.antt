-- `open_card`: every word 0, then the head.
-- Assumes nothing.
use mathlib.Core.Path.{refl, sym, ap, ◌∙◌}
use native.Mathlib.Omega.{arith}
use borrow.Author.Tests.{eq-eqb, ne_eqb}
use Rattle.std.proofs.lemmas.Result.{err_from_is_err_and}
use Rattle.refusal.proofs.Numbers.{number-positive}
use Rattle.card.specs.declared.Stepped.{Stepped}
use Rattle.card.proofs.Slots.{opened-limit}
use Rattle.card_build.proofs.opening.Opening.{cleared-card, opened-card, opening-refused, opening-done}
use borrow.Author.Rules.{rules}
use Rattle.card_build.proofs.opening.open_card.Goals as goal

pub returns-then-w-ne-CARD_WORDS : goal.returns-then-w-ne-CARD_WORDS
returns-then-w-ne-CARD_WORDS c =
    record {
      refused = rw (ne_eqb _ 85 c.if-w-ne-CARD_WORDS.true);
      leaves = (λ l. absurd (c.if-w-ne-CARD_WORDS.true l), λ n. refl);
    }

pub returns-in_err-check_opening : goal.returns-in_err-check_opening
returns-in_err-check_opening c =
    let a = c.args in
    let reason = c.in_err-check_opening.field-0.0 in
    let done =
    opening-refused a.own a.peer a.limit a.slots.now _ c.in_err-check_opening.ensures
    (λ z. omega (arith, number-positive reason)) in
    let p = err_from_is_err_and c.from_residual.result c.from_residual.ensures.1 in record {
      refused = rw (p.1, p.2, eq-eqb _ 85 c.if-w-ne-CARD_WORDS.false, done);
      leaves = (
        λ l. cleared-card _ _ (c.fill.ensures.after (λ y e. e)) ∙ sym (ap (λ (s : Stepped). s.card) done),
        λ n. absurd (n c.if-w-ne-CARD_WORDS.false),
      );
    }

pub overflow_cast-limit : goal.overflow_cast-limit
overflow_cast-limit c =
    let a = c.args in
    omega (arith, opened-limit a.own a.peer a.limit a.slots.now (sym c.in_ok-check_opening.ensures))

pub returns : goal.returns
returns c =
    let a = c.args in
    let done = opening-done a.own a.peer a.limit a.slots.now _ c.in_ok-check_opening.ensures refl in record {
      refused = rw (eq-eqb _ 85 c.if-w-ne-CARD_WORDS.false, done);
      leaves = (
        λ l. c.put_head.ensures.0 (search rules)
            ∙ opened-card a.own a.peer a.limit _ (cleared-card _ _ (c.fill.ensures.after (λ y e. e)))
            ∙ sym (ap (λ (s : Stepped). s.card) done),
        λ n. absurd (n c.if-w-ne-CARD_WORDS.false),
      );
    }
