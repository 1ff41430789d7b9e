-- `host_receive::apply::apply` takes effect message by message, as the definition does.
-- Assumes nothing.
use Rattle.host_receive.proofs.apply.Walk.{Applying}
use Rattle.host_receive.proofs.apply.apply.Given as goal

abbrev pub invariant-loop : goal.invariant-loop
invariant-loop l = Applying l.initial.words l.f l.initial.memory l.n l.words l.memory l.at l.counter
