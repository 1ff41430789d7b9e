-- `host_plain::PlainFrames::run_from` counts number after number.
-- Assumes nothing.
use Rattle.host_plain.proofs.Receiving.{Counting}
use Rattle.host_plain.proofs.PlainFrames.run_from.Given as goal

abbrev pub invariant-loop-run : goal.invariant-loop-run
invariant-loop-run l = Counting l.self l.fn.first.0 l.number.0 l.run
