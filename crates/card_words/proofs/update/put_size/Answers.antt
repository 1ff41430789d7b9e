-- `put_size`: one word, in which one length is another.
-- Assumes nothing.
use mathlib.Core.Path.{refl}
use Rattle.card_words.proofs.update.Words.{resized-card}
use borrow.Author.Rules.{rules}
use Rattle.card_words.proofs.update.put_size.Goals as goal

pub returns-then-w-ne-CARD_WORDS : goal.returns-then-w-ne-CARD_WORDS
returns-then-w-ne-CARD_WORDS c = (λ l. absurd (c.if-w-ne-CARD_WORDS.true l), λ n. refl)

pub returns : goal.returns
returns c =
    let a = c.args in (
      λ l. rw (c.put.ensures, c.with_quarter.ensures, c.word-x.ensures)
          (resized-card a.w.now a.n.0 a.size l (search rules)),
      λ n. absurd (n c.if-w-ne-CARD_WORDS.false),
    )
