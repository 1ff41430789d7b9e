-- `put_head`: five words, and the others stay.
-- Assumes nothing.
use mathlib.Core.Path.{refl}
use native.Mathlib.Omega.{arith}
use Rattle.words.proofs.Words.{quartered, halved}
use Rattle.card_words.proofs.update.Words.{headed-card}
use Rattle.card_words.proofs.update.put_head.Goals as goal

pub returns-then-w-ne-CARD_WORDS : goal.returns-then-w-ne-CARD_WORDS
returns-then-w-ne-CARD_WORDS c = (λ l. absurd (c.if-w-ne-CARD_WORDS.true l), λ n. refl)

pub returns : goal.returns
returns c =
    let a = c.args in (
      λ l. rw (
        c.put_five.ensures,
        c.of_quarters-ids.ensures,
        c.of_quarters-frames.ensures,
        c.of_halves-numbers.ensures,
        c.of_halves-finished.ensures,
      )
          (headed-card a.w.now a.h _ _ _ _ l
          (quartered a.h.own a.h.peer a.h.limit a.h.used (omega (arith, c.well_formed.1)) (omega (arith, c.well_formed.1))
          (omega (arith, c.well_formed.1)) (omega (arith, c.well_formed.1)))
          (quartered a.h.last a.h.next.0 a.h.base.0 0 (omega (arith, c.well_formed.1)) (omega (arith, c.well_formed.1))
          (omega (arith, c.well_formed.1)) (omega arith))
          (halved a.h.upcoming.0 a.h.lowest.0 (omega (arith, c.well_formed.1)) (omega (arith, c.well_formed.1)))
          (halved a.h.finished 0 (omega (arith, c.well_formed.1)) (omega arith))),
      λ n. absurd (n c.if-w-ne-CARD_WORDS.false),
    )
