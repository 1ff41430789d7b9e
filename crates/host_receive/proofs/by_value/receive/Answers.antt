-- `host_receive::by_value::receive`: packed, received in place, and unpacked.
-- Assumes nothing.
use Rattle.std.proofs.Common.{refl}
use Rattle.host_receive.proofs.by_value.receive.Goals as goal

pub returns : goal.returns
returns c =
    let r = rw (c.pack.ensures.0 refl) at
    (c.receive_in_place-answer.ensures.0 c.pack.auto.w) in record {
      value = rw (c.unpack.ensures, r.0, r.2);
      memory_after = r.1;
    }
