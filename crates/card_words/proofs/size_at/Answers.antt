-- `size_at`: the slot's quarter of its word.
-- Assumes nothing.
use mathlib.Core.Path.{sym, ◌∙◌}
use Rattle.card_words.proofs.Words.{size_is}
use Rattle.card_words.proofs.size_at.Goals as goal

pub returns : goal.returns
returns c =
    let a = c.args in
    c.quarter.ensures ∙ rw c.word.ensures (sym (size_is a.w.now a.n.0))
