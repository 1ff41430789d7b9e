-- `head_of`: the five words, as they are decoded.
-- Assumes nothing.
use Rattle.card_words.specs.Words.{card_of}
use Rattle.card_words.proofs.head_of.Goals as goal

pub returns : goal.returns
unfolding card_of
returns c =
    rw (
      c.half-3.ensures,
      c.half-2.ensures,
      c.half.ensures,
      c.quarter-7.ensures,
      c.quarter-6.ensures,
      c.quarter-5.ensures,
      c.quarter-4.ensures,
      c.quarter-3.ensures,
      c.quarter-2.ensures,
      c.quarter.ensures,
      c.word-finished.ensures,
      c.word-numbers.ensures,
      c.word-acked.ensures,
      c.word-frames.ensures,
      c.word-ids.ensures,
    )
