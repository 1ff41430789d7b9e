-- `header_of`: the terms of the transaction.
-- Assumes nothing.
use Rattle.wire.specs.Format.{message_header}
use Rattle.card.specs.Card.{message_of}
use Rattle.card_build.proofs.header_of.Goals as goal

pub returns : goal.returns
unfolding message_header message_of
returns c = rw c.sending_at-e.ensures
