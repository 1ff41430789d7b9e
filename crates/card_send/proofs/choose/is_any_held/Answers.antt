-- `is_any_held`: not all that are not released are acknowledged.
-- Assumes nothing.
use Rattle.card_send.proofs.choose.Choosing.{any-is}
use Rattle.card_send.proofs.choose.is_any_held.Goals as goal

pub returns : goal.returns
returns c =
    any-is c.args.words.now _ c.head_of-h.ensures _ c.unreleased.ensures _
    c.before_held.ensures
