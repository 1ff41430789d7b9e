-- `marked_now`: mark by mark, of the transactions opened.
-- Assumes nothing.
use Rattle.bitmap.proofs.Marks.{MarkedUpTo}
use Rattle.card.specs.Sendings.{finished_by}
use Rattle.card_words.specs.Words.{card_of}
use Rattle.card_acks.proofs.finish.marked_now.Given as goal

abbrev pub invariant-loop-i : goal.invariant-loop-i
invariant-loop-i l =
    MarkedUpTo 32 (finished_by (card_of l.words).sendings l.released.from.0 l.released.base.0) l.i l.finished
