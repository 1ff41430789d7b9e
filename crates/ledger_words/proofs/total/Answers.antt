-- `ledger_words::total`: past the subscribers, never read, read.
-- Assumes nothing.
use Rattle.ledger_words.proofs.Telling.{told-past, told-unread, told-read}
use Rattle.ledger_words.proofs.total.Goals as goal

pub returns-then-subscriber-ge-SUBSCRIBERS : goal.returns-then-subscriber-ge-SUBSCRIBERS
returns-then-subscriber-ge-SUBSCRIBERS c = told-past _ _ c.if-subscriber-ge-SUBSCRIBERS.true

pub returns-then-word-lt-READ : goal.returns-then-word-lt-READ
returns-then-word-lt-READ c =
    told-unread _ _ c.if-subscriber-ge-SUBSCRIBERS.false _ c.word.ensures c.if-word-lt-READ.true

pub returns : goal.returns
returns c =
    told-read _ _ c.if-subscriber-ge-SUBSCRIBERS.false _ c.word.ensures c.if-word-lt-READ.false _
    c.word-2.ensures
