-- `finished_marks`: those finished before where no frame is released, and each looked at where one is.
-- Assumes nothing.
use mathlib.Core.Path.{sym, ◌∙◌}
use Rattle.card_words.specs.Words.{card_of}
use Rattle.card_acks.proofs.finish.InPlace.{none-now}
use Rattle.card_acks.proofs.finish.finished_marks.Goals as goal

pub returns-then-distance-eq0 : goal.returns-then-distance-eq0
returns-then-distance-eq0 c =
    let a = c.args in
    c.marked_before.ensures
    ∙ none-now (card_of a.words.now).sendings a.released.from.0 a.released.base.0
    (sym c.distance.ensures ∙ c.if-distance-eq0.true)
