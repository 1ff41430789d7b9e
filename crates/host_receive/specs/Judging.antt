-- The verdict on a message that code gives as a `Result`, as host/specs/Transactions.antt has it.
use Rattle.std.specs.Prelude.{ℕ, false, Result, Ok, Err}
use Rattle.refusal.specs.declared.Reason.{Reason}
use Rattle.refusal.specs.Reason.{number}
use Rattle.host.specs.declared.Open.{Open}
use Rattle.host.specs.declared.Verdict.{Verdict}
use Rattle.host_receive.specs.declared.verdict.Judged.{Judged}

-- Not refused.
abbrev pub verdict_from : Judged → Verdict
verdict_from j = record { refusal = 0; done = j.done; lowest = j.lowest; closed = j.closed; entry = j.entry }

-- Refused, the window and the entry stay as they were.
abbrev pub verdict_as : ℕ → ℕ → Open → Result Judged Reason → Verdict
verdict_as lowest closed o (Ok j) = verdict_from j
verdict_as lowest closed o (Err reason) = record {
  refusal = number reason;
  done = false;
  lowest = record { 0 = lowest };
  closed = closed;
  entry = o;
}
