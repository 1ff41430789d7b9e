-- `ledger_words::sum`: the last word.
-- Assumes nothing.
use Rattle.std.proofs.Common.{sym, ◌∙◌}
use Rattle.ledger_words.proofs.Holding.{held-sum}
use Rattle.ledger_words.proofs.sum.Goals as goal

pub returns : goal.returns
returns c = c.word.ensures ∙ sym (held-sum _)
