-- `put_sending`: the two words of the transaction, and the others stay.
-- Assumes nothing.
use mathlib.Core.Path.{refl}
use native.Mathlib.Omega.{arith}
use Rattle.words.proofs.Words.{quartered, halved}
use Rattle.card_words.proofs.update.Words.{entered-card, sending-by}
use Rattle.card_words.proofs.update.put_sending.Goals as goal

pub returns-then-w-ne-CARD_WORDS : goal.returns-then-w-ne-CARD_WORDS
returns-then-w-ne-CARD_WORDS c = (λ l. absurd (c.if-w-ne-CARD_WORDS.true l), λ n. refl)

pub returns : goal.returns
returns c =
    let a = c.args in (
      λ l. rw (c.put-2.ensures, c.put.ensures, c.of_quarters-counts.ensures, c.of_halves-terms.ensures)
          (entered-card a.w.now a.t.0 _ _ l a.e
          (sending-by _ _ a.e
          (halved a.e.address a.e.value (omega (arith, c.well_formed.1.1)) (omega (arith, c.well_formed.1.1)))
          (quartered a.e.count a.e.added a.e.frame.0 0 (omega (arith, c.well_formed.1.1)) (omega (arith, c.well_formed.1.1))
          (omega (arith, c.well_formed.1.1)) (omega arith)))),
      λ n. absurd (n c.if-w-ne-CARD_WORDS.false),
    )
