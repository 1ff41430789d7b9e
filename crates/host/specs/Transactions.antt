-- The host's transactions: the verdict on a message, and what an accepted one does to its transaction and to the window
-- of 32 transactions from the lowest one not complete on.
use Rattle.std.specs.Prelude.{ℕ, suc, ◌%◌, Bool, true, false, cond, List, eqb, length, get_or, set}
use Rattle.seq.specs.Ring.{distance, trans_space}
use Rattle.bitmap.specs.Marks.{with_mark}
use Rattle.bitmap.specs.Window.{moved}
use Rattle.wire.specs.declared.MessageHeader.{MessageHeader}
use Rattle.wire.specs.Format.{Message, message_header, needed}
use Rattle.host.specs.declared.Open.{Open}
use Rattle.host.specs.Terms.{free, message_refusal}
use Rattle.host.specs.declared.Verdict.{Verdict}

-- Whether the messages received equal the count (one for count 0), with this one. (Where more were received already,
-- which no run reaches, they never do.)
unfoldable pub fills : Open → MessageHeader → Bool
fills o h = eqb (needed h.count) (suc o.received)

-- A transaction's entry with one message more, which does not complete it. Received has 16 bits and counts modulo
-- 65,536: in a pair that a run reaches it is below the count and does not wrap.
abbrev pub one_received : Open → MessageHeader → Open
one_received o h = record {
  count = h.count;
  address = h.completion_address;
  value = h.completion_value;
  received = suc o.received % 65536;
}

-- What a message that is not refused leaves of its transaction's entry.
abbrev pub left_in : Open → MessageHeader → Open
left_in o h = cond (fills o h) free (one_received o h)

-- The verdict on a message: refused and nothing changed; or its transaction is complete, so that it is closed and the
-- window begins at the first that is not; or it is open with one message more.
unfoldable pub refused_verdict : ℕ → ℕ → ℕ → Open → Verdict
refused_verdict r lowest closed o = record {
  refusal = r;
  done = false;
  lowest = record { 0 = lowest };
  closed = closed;
  entry = o;
}

unfoldable pub closed_verdict : ℕ → ℕ → ℕ → Verdict
closed_verdict lowest closed d =
    let window = moved trans_space 32 lowest (with_mark 32 closed d) in
    record {
      refusal = 0;
      done = true;
      lowest = record { 0 = window.first };
      closed = window.marks;
      entry = free;
    }

unfoldable pub open_verdict : ℕ → ℕ → Open → MessageHeader → Verdict
open_verdict lowest closed o h = record {
  refusal = 0;
  done = false;
  lowest = record { 0 = lowest };
  closed = closed;
  entry = one_received o h;
}

unfoldable pub verdict_of : ℕ → ℕ → Open → MessageHeader → ℕ → ℕ → Verdict
verdict_of lowest closed o h len size =
    let d = distance trans_space lowest h.trans.0 in
    let r = message_refusal d closed o h len size in
    cond (eqb r 0) (cond (fills o h) (closed_verdict lowest closed d) (open_verdict lowest closed o h))
    (refused_verdict r lowest closed o)

-- ---- the whole table

-- What a host knows of transactions: the lowest not complete, marks of closed ones from there on, and the open ones,
-- each in the entry of the table that its number modulo 32 gives.
pub record Transactions : Type 0 where
  pub lowest : ℕ
  pub closed : ℕ
  pub table : List Open

-- The verdict on a message, and the transactions after it.
unfoldable pub verdict : Transactions → ℕ → Message → Verdict
verdict t size m =
    verdict_of t.lowest t.closed (get_or t.table (m.trans % 32) free) (message_header m) (length m.bytes) size

unfoldable pub after : Transactions → Message → Verdict → Transactions
after t m v = record {
  lowest = v.lowest.0;
  closed = v.closed;
  table = set t.table (m.trans % 32) v.entry;
}
