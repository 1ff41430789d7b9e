-- `host_receive::validate::find` judges message by message, as the definition does.
-- Assumes nothing.
use Rattle.std.proofs.Common.{◌+◌, ◌-◌, length}
use Rattle.host_receive.proofs.validate.Walk.{Steady, Walking}
use Rattle.host_receive.proofs.validate.find.Given as goal

abbrev pub invariant-loop-m : goal.invariant-loop-m
invariant-loop-m g l = record {
  steady : Steady l.f l.found.at l.found.sums.messages l.found.sums.bytes l.found.sums.completed;
  walking : Walking l.words l.f l.size (g.E.Entries.stands l.entries l.words) l.found.lowest.0 l.found.closed
      l.found.sums.messages l.found.sums.bytes l.found.sums.completed l.found.at;
}

abbrev pub decreases-loop-m : goal.decreases-loop-m
decreases-loop-m g l = length l.f + 18 - l.found.at
