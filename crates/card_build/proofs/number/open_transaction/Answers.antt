-- `open_transaction`: the next number, unless the window is full.
-- Assumes nothing.
use mathlib.Core.Path.{refl, sym, ap}
use borrow.Author.Tests.{eq-eqb, ne_eqb}
use Rattle.card.specs.declared.TransOpened.{TransOpened}
use Rattle.card_build.specs.Numbering.{opened_in}
use Rattle.card_build.proofs.number.InPlace.{window-full, opened-now}
use borrow.Author.Rules.{rules}
use Rattle.card_build.proofs.number.open_transaction.Goals as goal

pub returns-then-words-ne-CARD_WORDS : goal.returns-then-words-ne-CARD_WORDS
unfolding opened_in
returns-then-words-ne-CARD_WORDS c =
    record {
      refused = rw (ne_eqb _ 85 c.if-words-ne-CARD_WORDS.true);
      opened = tt;
      steps = (λ l. absurd (c.if-words-ne-CARD_WORDS.true l), λ n. refl);
    }

pub returns-then-opened-ge32 : goal.returns-then-opened-ge32
unfolding opened_in
returns-then-opened-ge32 c =
    let a = c.args in
    let full =
    window-full a.words.now _ c.head_of-h.ensures _ c.opened.ensures a.count a.address a.value
    c.if-opened-ge32.true in record {
      refused = rw (eq-eqb _ 85 c.if-words-ne-CARD_WORDS.false, full);
      opened = tt;
      steps = (λ l. sym (ap (λ (o : TransOpened). o.card) full), λ n. refl);
    }

pub returns : goal.returns
unfolding opened_in
returns c =
    let a = c.args in
    let done =
    opened-now a.words.now _ c.head_of-h.ensures _ c.opened.ensures a.count a.address a.value
    c.if-opened-ge32.false _ _ _ c.advance.ensures (c.put_sending.ensures.0 c.if-words-ne-CARD_WORDS.false)
    (c.put_head.ensures.0 (search rules)) in record {
      refused = rw (eq-eqb _ 85 c.if-words-ne-CARD_WORDS.false, done);
      opened = rw (eq-eqb _ 85 c.if-words-ne-CARD_WORDS.false, done);
      steps = (λ l. sym (ap (λ (o : TransOpened). o.card) done), λ n. absurd (n refl));
    }
