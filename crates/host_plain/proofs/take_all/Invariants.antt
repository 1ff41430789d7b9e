-- `host_plain::take_all` goes through the messages one after another, as the definition does.
-- Assumes nothing.
use Rattle.std.proofs.Common.{◌+◌, ◌-◌, length}
use Rattle.host_plain.proofs.Passes.{Steady, Going}
use Rattle.host_plain.proofs.take_all.Given as goal

abbrev pub invariant-loop-found : goal.invariant-loop-found
invariant-loop-found l =
    Steady l.f l.at l.sums
    × Going l.f l.initial.memory l.writing l.fn.start l.memory l.transactions l.sums l.at

abbrev pub decreases-loop-found : goal.decreases-loop-found
decreases-loop-found l = length l.f + 18 - l.at
