-- `sending_at`: the two words of the transaction, as they are decoded.
-- Assumes nothing.
use mathlib.Core.Path.{sym}
use Rattle.card_words.proofs.Words.{sending-is}
use Rattle.card_words.proofs.sending_at.Goals as goal

pub returns : goal.returns
returns c =
    let a = c.args in
    rw (
      c.quarter-3.ensures,
      c.quarter-2.ensures,
      c.quarter.ensures,
      c.half-2.ensures,
      c.half.ensures,
      c.word-b.ensures,
      c.word-a.ensures,
    )
    (sym (sending-is a.w.now a.t.0))
