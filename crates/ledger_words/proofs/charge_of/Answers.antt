-- `ledger_words::charge_of`: nothing for a first reading, else the distance of the law of any number space, at 32 bits.
-- Assumes nothing.
use Rattle.std.proofs.Common.{le-leb}
use borrow.Author.Tests.{lt-leb}
use Rattle.seq.specs.Ring.{distance}
use Rattle.ledger.specs.Ledger.{counter_space}
use Rattle.ledger_words.proofs.charge_of.Goals as goal

pub returns-then-kept-lt-READ : goal.returns-then-kept-lt-READ
returns-then-kept-lt-READ c = rw (lt-leb counter_space _ c.if-kept-lt-READ.true)

pub returns : goal.returns
unfolding distance
returns c = rw (le-leb counter_space _ c.if-kept-lt-READ.false) c.from.ensures
