-- `oldest_held`: past the acknowledged ones.
-- Assumes nothing.
use Rattle.card_send.proofs.choose.Choosing.{oldest-is}
use Rattle.card_send.proofs.choose.oldest_held.Goals as goal

pub returns : goal.returns
returns c =
    oldest-is c.args.words.now _ c.head_of-h.ensures _ _ c.before_held.ensures
    c.advance.ensures
