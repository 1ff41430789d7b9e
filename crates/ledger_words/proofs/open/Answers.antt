-- `ledger_words::open`: all words are 0.
-- Assumes nothing.
use Rattle.std.proofs.Common.{refl, rules}
use Rattle.ledger_words.proofs.Holding.{zeroed}
use Rattle.ledger_words.proofs.open.Goals as goal

pub returns : goal.returns
returns c = (
  λ l. (rw (c.fill.ensures.after (search rules)) (zeroed _), refl),
  λ n. absurd (n c.if-words-ne-LEDGER_WORDS.false),
)
