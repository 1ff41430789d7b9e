-- `table_words::first_at`: what is read of a place's words.
-- Assumes nothing.
use mathlib.Core.Path.{sym, ◌∙◌}
use Rattle.table_words.proofs.Laws.{place-words}
use Rattle.table_words.proofs.first_at.Goals as goal

pub returns : goal.returns
returns c = c.word_at.ensures ∙ sym (place-words c.args.w.now c.args.k).1
