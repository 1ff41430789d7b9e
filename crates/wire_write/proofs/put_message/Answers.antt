-- `wire_write::put_message`: the header and the data are one write.
-- Assumes nothing.
use Rattle.wire.specs.Format.{carrying}
use Rattle.wire_write.proofs.Written.{message-put}
use Rattle.wire_write.proofs.put_message.Goals as goal

pub returns : goal.returns
unfolding carrying
returns c =
    let a = c.args in
    message-put a.slot.now _ _ a.at (carrying a.h a.payload.now) _
    c.message_head-head.ensures c.write.ensures.memory_after c.write-2.ensures.memory_after c.requires
