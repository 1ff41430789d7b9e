-- `ledger_words::check_block`: the quick test, and else the first fault.
-- Assumes nothing.
use Rattle.std.proofs.Common.{sym, ◌∙◌}
use Rattle.ledger_words.proofs.Room.{room-no-fault}
use Rattle.ledger_words.proofs.check_block.Goals as goal

pub returns-then-has_room : goal.returns-then-has_room
returns-then-has_room c = sym (room-no-fault _ _ (sym c.has_room.ensures ∙ c.if-has_room.true))
