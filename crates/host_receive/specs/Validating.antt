-- The first pass over a frame's messages: what judging them one after another finds. Nothing is written by it. Nothing
-- of this needs to be believed: host_receive/proofs/Passes.antt shows that both passes come to take_all of
-- host/specs/Host.antt.
use Rattle.std.specs.Prelude.{◌≡◌, ℕ, zero, suc, ◌+◌, cond, List, length, ◌==◌, nat_le, nat_lt, Result, Ok, Err}
use Rattle.refusal.specs.Reason.{number}
use Rattle.octets.specs.Octets.{field}
use Rattle.wire.specs.Format.{Message, next_header, frame_most}
use Rattle.wire.specs.Reading.{follows, data_end, message_at}
use Rattle.host.specs.declared.Verdict.{Verdict}
use Rattle.host.specs.Transactions.{Transactions, verdict, after}
use Rattle.host.specs.Host.{transactions_of}
use Rattle.host_words.specs.Words.{pair_of}
use Rattle.host_receive.specs.declared.refuse.Refused.{Refused}
use Rattle.host_receive.specs.declared.validate.Validated.{Validated}

-- The messages judged so far: the transactions as they leave them, how many there are, their data bytes, and how many
-- of them complete their transaction.
pub record Progress : Type 0 where
  pub transactions : Transactions
  pub messages : ℕ
  pub bytes : ℕ
  pub completed : ℕ

abbrev pub none_yet : Transactions → Progress
none_yet t = record { transactions = t; messages = 0; bytes = 0; completed = 0 }

-- One message more, which is not refused.
unfoldable pub onward : Progress → Message → Verdict → Progress
onward g m v = record {
  transactions = after g.transactions m v;
  messages = g.messages + 1;
  bytes = g.bytes + length m.bytes;
  completed = g.completed + cond v.done 1 0;
}

-- What is found of a frame: a refusal, and then messages is the index of the message that it is about and all else is
-- 0; or none, and then the sums, and the transactions' window as it is after the frame.
pub record Validation : Type 0 where
  pub refusal : ℕ
  pub messages : ℕ
  pub bytes : ℕ
  pub completed : ℕ
  pub lowest : ℕ
  pub closed : ℕ

-- A refusal's number and the index of the message that it is about; all else is 0.
abbrev pub refused_at : ℕ → ℕ → Validation
refused_at number place = record {
  refusal = number;
  messages = place;
  bytes = 0;
  completed = 0;
  lowest = 0;
  closed = 0;
}

-- No message is refused.
abbrev pub passed : Progress → Validation
passed g = record {
  refusal = 0;
  messages = g.messages;
  bytes = g.bytes;
  completed = g.completed;
  lowest = g.transactions.lowest;
  closed = g.transactions.closed;
}

-- The messages from the header at an offset on, each judged against what those before it leave, up to the first that is
-- refused or passes the frame's end. As many turns as the frame has bytes are enough.
unfoldable pub validated_from : ℕ → List ℕ → ℕ → ℕ → Progress → Validation
validated_from zero f size at g = refused_at 5 g.messages
validated_from (suc turns) f size at g =
    let m = message_at f at in
    let v = verdict g.transactions size m in
    cond (nat_le (data_end f at) (length f))
    (cond (v.refusal == 0)
    (cond (follows (field f (at + 23) 1)) (validated_from turns f size (next_header (data_end f at)) (onward g m v))
    (passed (onward g m v)))
    (refused_at v.refusal g.messages))
    (refused_at 5 g.messages)

-- All messages of a frame; a frame too long to be read gets 2, as from its reading.
unfoldable pub validated_of : List ℕ → Transactions → ℕ → Validation
validated_of f t size =
    cond (nat_lt frame_most (length f)) (refused_at 2 0) (validated_from (length f) f size 10 (none_yet t))

-- ---- what code finds

-- As a `Result` of sums and window, or of a refusal and its place.
abbrev pub validation : Result Validated Refused → Validation
validation (Ok v) = record {
  refusal = 0;
  messages = v.sums.messages;
  bytes = v.sums.bytes;
  completed = v.sums.completed;
  lowest = v.lowest.0;
  closed = v.closed;
}
validation (Err r) = refused_at (number r.reason) r.place

abbrev pub Finds : List ℕ → List ℕ → ℕ → Result Validated Refused → Type 0
Finds f w size r = validation r ≡ validated_of f (transactions_of (pair_of w)) size
