-- `before_held`: the run of acknowledged frames, among those not released.
-- Assumes nothing.
use Rattle.card_send.proofs.choose.Choosing.{before-is}
use Rattle.card_send.proofs.choose.before_held.Goals as goal

pub returns : goal.returns
returns c =
    before-is c.args.words.now _ c.head_of-h.ensures _ c.unreleased.ensures _
    c.run_within.ensures
