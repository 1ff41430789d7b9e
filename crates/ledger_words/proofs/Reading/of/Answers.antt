-- `ledger_words::Reading::of`: the two fields of a reading.
-- Assumes nothing.
use Rattle.ledger.specs.Ledger.{reading_at}
use Rattle.ledger_words.proofs.Reading.of.Goals as goal

pub returns : goal.returns
unfolding reading_at
returns c = rw (c.u32_at.ensures, c.u32_at-2.ensures)
