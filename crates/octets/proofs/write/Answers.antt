-- `octets::write`: the part that comes back is the write.
-- Assumes nothing.
use Rattle.std.proofs.Common.{◌-◌, rules}
use Rattle.octets.proofs.Octets.{part-written}
use Rattle.octets.proofs.write.Goals as goal

pub returns-in-Some-clause-memory_after : goal.returns-in-Some-clause-memory_after
returns-in-Some-clause-memory_after c =
    let a = c.args in
    rw c.copy.ensures
    (part-written a.memory.now a.src.now a.at (c.in-Some.end - a.at) (search rules) (search rules))
