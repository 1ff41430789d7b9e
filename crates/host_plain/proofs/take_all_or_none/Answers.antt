-- `host_plain::take_all_or_none`: gone through without writing, and then again with it.
-- Assumes nothing.
use Rattle.std.proofs.Common.{◌≡◌, Ok, arith}
use Rattle.host_plain.proofs.Receiving.{taken-then}
use Rattle.host_plain.proofs.take_all_or_none.Goals as goal

pub returns : goal.returns
returns c =
    let ok : c.take_all.result ≡ Ok c.in_ok-take_all.field-0 = grind arith in
    taken-then {o = c.in_ok-take_all.field-0} (rw (← ok) c.take_all.ensures) c.take_all-2.ensures
