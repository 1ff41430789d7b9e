-- `table_words::source_at`: what is read of a place's words.
-- Assumes nothing.
use Prim.Native.Nat.{ℕ, ◌%◌}
use mathlib.Core.Path.{sym, ◌∙◌, ap}
use Rattle.table_words.proofs.Laws.{place-words}
use Rattle.table_words.proofs.source_at.Goals as goal

pub returns : goal.returns
returns c = ap (λ (x : ℕ). x % 65536) c.word_at.ensures ∙ sym (place-words c.args.w.now c.args.k).0
