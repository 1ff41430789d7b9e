-- The plain host: opening a pair, receiving a frame, and the acknowledgement that an answer calls for. Marks are lists
-- of yes and no; the first stands for the lowest number of a window, and each further one for the next number. Nothing
-- here is the first host's: only the format of frames, bytes in memory, distances and the types of answers, of
-- acknowledgements and of open transactions are shared with it.
use Rattle.std.specs.Prelude.{ℕ, zero, suc, ◌+◌, ◌%◌, Bool, true, false, cond, not, ◌&&◌, ◌||◌, List, [], ◌∷◌, ◌++◌, length, drop, set, replicate, ◌==◌, nat_le, nat_lt, slice_index_or, slice_set, Option, Some, None}
use Rattle.seq.specs.Ring.{distance, advance, frame_space, trans_space}
use Rattle.octets.specs.Octets.{little, written}
use Rattle.wire.specs.declared.MessageHeader.{MessageHeader}
use Rattle.wire.specs.Format.{Message, message_header}
use Rattle.wire.specs.Reading.{number, flags, addressed, Read, bad, good, read_frame}
use Rattle.wire.specs.Writing.{ack_frame}
use Rattle.host.specs.declared.Open.{Open}
use Rattle.host.specs.declared.Sums.{Sums}
use Rattle.host.specs.declared.Answer.{Answer}
use Rattle.host.specs.declared.Answer.TheVariants.{Accepted, Again, NoMessages, Refused}
use Rattle.host_plain.specs.declared.PlainFrames.{PlainFrames}
use Rattle.host_plain.specs.declared.PlainTransactions.{PlainTransactions}
use Rattle.host_plain.specs.declared.PlainPair.{PlainPair}
use Rattle.host_plain.specs.declared.PlainOpened.{PlainOpened}
use Rattle.host_plain.specs.declared.PlainStepped.{PlainStepped}

-- ---- opening

-- An entry of the table with no open transaction.
abbrev pub free : Open
free = record { address = 0; value = 0; count = 0; received = 0 }

-- Both windows begin at 0 and hold no mark, and no transaction is open.
unfoldable pub fresh : ℕ → ℕ → PlainPair
fresh own peer = record {
  own = own;
  peer = peer;
  frames = record { next = record { 0 = 0 }; accepted = replicate 64 false };
  transactions = record { lowest = record { 0 = 0 }; closed = replicate 32 false; table = replicate 32 free };
}

abbrev pub opened_with : ℕ → ℕ → ℕ → PlainOpened
opened_with own peer n = record { pair = fresh own peer; refusal = record { number = n; place = 0 } }

-- Refusal 13 where an ID is 0, with a fresh pair of both IDs 0. Number 0 is no refusal.
unfoldable pub opened_of : ℕ → ℕ → PlainOpened
opened_of own peer = cond (own == 0 || peer == 0) (opened_with 0 0 13) (opened_with own peer 0)

-- ---- windows of marks

-- How many marks from the first on are set before one that is not.
unfoldable pub leading_set : List Bool → ℕ
leading_set [] = 0
leading_set (true ∷ marks) = suc (leading_set marks)
leading_set (false ∷ marks) = 0

-- Marks moved along n places: the first n leave, and as many clear ones come in at the end.
unfoldable pub moved_by : ℕ → List Bool → List Bool
moved_by n marks = drop n marks ++ replicate n false

-- Whether mark i is set.
abbrev pub is_set : List Bool → ℕ → Bool
is_set marks i = slice_index_or marks i false

-- ---- frame numbers

-- How far a number lies past the next one: up to 63 it is in the window, from 32,768 on behind, and ahead between.
abbrev pub past_next : PlainFrames → ℕ → ℕ
past_next s num = distance frame_space s.next.0 num

-- Settled: in the window and accepted, or behind.
unfoldable pub is_settled : PlainFrames → ℕ → Bool
is_settled s num = cond (nat_lt (past_next s num) 64) (is_set s.accepted (past_next s num)) (nat_le 32768 (past_next s num))

-- How many numbers from `num` on, one after another and at most `most`, are settled before one that is not.
unfoldable pub run_from : ℕ → PlainFrames → ℕ → ℕ
run_from zero s num = 0
run_from (suc most) s num = cond (is_settled s num) (suc (run_from most s (advance frame_space num 1))) 0

-- A number in the window is marked, and the window begins at the first number that is not accepted.
unfoldable pub accepting : PlainFrames → ℕ → PlainFrames
accepting s num =
    let marks = set s.accepted (past_next s num) true in
    record {
      next = record { 0 = advance frame_space s.next.0 (leading_set marks) };
      accepted = moved_by (leading_set marks) marks;
    }

-- ---- one message

-- How far its transaction lies past the lowest one that is not complete, and its entry in the table.
abbrev pub away : PlainTransactions → MessageHeader → ℕ
away t h = distance trans_space t.lowest.0 h.trans.0

abbrev pub entry_of : PlainTransactions → MessageHeader → Open
entry_of t h = slice_index_or t.table (h.trans.0 % 32) free

-- Whether count, completion address or value differ from the open transaction's. Of an open one some message was
-- received.
unfoldable pub differs : Open → MessageHeader → Bool
differs o h =
    nat_lt 0 o.received
    && (not (o.count == h.count)
    || (not (o.address == h.completion_address) || not (o.value == h.completion_value)))

-- Refusals 7 to 12 of a message with `len` data bytes, for a memory of `size` bytes; 0 for none.
unfoldable pub message_refusal : PlainTransactions → MessageHeader → ℕ → ℕ → ℕ
message_refusal t h len size =
    cond (nat_le 32 (away t h)) 7
    (cond (is_set t.closed (away t h)) 8
    (cond (differs (entry_of t h) h) 9
    (cond (h.count == 0 && nat_lt 0 len) 10
    (cond (nat_lt size (h.data_address + len)) 11
    (cond (nat_lt size (h.completion_address + 4)) 12 0)))))

-- Whether the messages received equal the count, with this one: at once for count 0, which has one bare message.
unfoldable pub completes : Open → MessageHeader → Bool
completes o h = o.received + 1 == cond (h.count == 0) 1 h.count

-- A complete transaction is closed, and the window begins at the first that is not.
unfoldable pub closed_by : PlainTransactions → MessageHeader → PlainTransactions
closed_by t h =
    let marks = set t.closed (away t h) true in
    record {
      lowest = record { 0 = advance trans_space t.lowest.0 (leading_set marks) };
      closed = moved_by (leading_set marks) marks;
      table = slice_set t.table (h.trans.0 % 32) free;
    }

-- Any other one is open, with one message more received. (What is received has 16 bits. In a pair that a run reaches it
-- is below the count and does not wrap.)
unfoldable pub keeping : PlainTransactions → MessageHeader → PlainTransactions
keeping t h = record {
  lowest = t.lowest;
  closed = t.closed;
  table =
      set t.table (h.trans.0 % 32)
      (record {
        address = h.completion_address;
        value = h.completion_value;
        count = h.count;
        received = ((entry_of t h).received + 1) % 65536;
      });
}

unfoldable pub after : PlainTransactions → MessageHeader → PlainTransactions
after t h = cond (completes (entry_of t h) h) (closed_by t h) (keeping t h)

-- A message's data is written, and straight after it the completion where the message completes its transaction.
unfoldable pub effect : List ℕ → Message → Bool → List ℕ
effect memory m done =
    let stored = written memory m.data_address m.bytes in
    cond done (written stored m.completion_address (little 4 m.completion_value)) stored

unfoldable pub counted : Sums → ℕ → Bool → Sums
counted s len done = record {
  messages = s.messages + 1;
  bytes = s.bytes + len;
  completed = s.completed + cond done 1 0;
}

-- ---- the messages of a frame

pub record Tally : Type 0 where
  pub transactions : PlainTransactions
  pub memory : List ℕ
  pub sums : Sums

unfoldable pub take_in : Tally → Message → Tally
take_in t m =
    let done = completes (entry_of t.transactions (message_header m)) (message_header m) in
    record {
      transactions = after t.transactions (message_header m);
      memory = effect t.memory m done;
      sums = counted t.sums (length m.bytes) done;
    }

-- None is refused; or the first that is: its refusal, and its index, which is the number of those before it.
pub data Taken : Type 0 where
  all_taken : Tally → Taken
  refused_at : ℕ → ℕ → Taken

-- Each message is judged against what those before it leave.
unfoldable pub take_all : Tally → List Message → Taken
take_all t [] = all_taken t
take_all t (m ∷ ms) =
    let r = message_refusal t.transactions (message_header m) (length m.bytes) (length t.memory) in
    cond (r == 0) (take_all (take_in t m) ms) (refused_at r t.sums.messages)

abbrev pub no_sums : Sums
no_sums = record { messages = 0; bytes = 0; completed = 0 }

-- ---- receiving

-- The pair and the memory after a frame, and the answer.
pub record Received : Type 0 where
  pub pair : PlainPair
  pub memory : List ℕ
  pub answer : Answer

abbrev pub unchanged : PlainPair → List ℕ → Answer → Received
unchanged p memory a = record { pair = p; memory = memory; answer = a }

abbrev pub refusing : ℕ → ℕ → Answer
refusing n place = Refused (record { number = n; place = place })

-- All messages of a frame take effect, its number is marked, and the run is counted from it on after that; or one is
-- refused, and nothing changes.
abbrev pub concluded : PlainPair → List ℕ → ℕ → Taken → Received
concluded p memory num (all_taken t) =
    let frames = accepting p.frames num in
    record {
      pair = record { own = p.own; peer = p.peer; frames = frames; transactions = t.transactions };
      memory = t.memory;
      answer = Accepted (record { 0 = num }) t.sums (run_from 255 frames num);
    }
concluded p memory num (refused_at r place) = unchanged p memory (refusing r place)

-- A frame with messages. One whose number is settled is answered "again", with the run from it on; one that is ahead
-- gets 6.
unfoldable pub by_number : PlainPair → List ℕ → ℕ → List Message → Received
by_number p memory num ms =
    cond (is_settled p.frames num)
    (unchanged p memory (Again (record { 0 = num }) (run_from 255 p.frames num)))
    (cond (nat_le 64 (past_next p.frames num)) (unchanged p memory (refusing 6 0))
    (concluded p memory num
    (take_all (record { transactions = p.transactions; memory = memory; sums = no_sums }) ms)))

-- Refusals 1 to 5, then no messages, then by the frame's number.
abbrev pub answered : PlainPair → List ℕ → List ℕ → Read → Received
answered p f memory (bad r) = unchanged p memory (refusing r 0)
answered p f memory (good ms) =
    cond (flags f == 0) (unchanged p memory NoMessages) (by_number p memory (number f) ms)

unfoldable pub receive_of : PlainPair → List ℕ → List ℕ → Received
receive_of p f memory = answered p f memory (read_frame (addressed p.own p.peer f) f)

abbrev pub stepped_of : Received → PlainStepped
stepped_of r = record { pair = r.pair; answer = r.answer }

-- ---- acknowledging

-- A frame from the own ID to the peer's that acknowledges `run` numbers from `start` on; it is due where that is at
-- least one. It carries `num`, the number that the caller gives for the own next frame.
abbrev pub acknowledging : PlainPair → ℕ → ℕ → ℕ → Option (List ℕ)
acknowledging p num start run = cond (nat_lt 0 run) (Some (ack_frame p.peer p.own num start run)) None

-- Accepted and again call for one of the run that they end with, from their own number on. The others call for none.
abbrev pub acknowledgement_of : PlainPair → Answer → ℕ → Option (List ℕ)
acknowledgement_of p (Accepted n sums run) num = acknowledging p num n.0 run
acknowledgement_of p (Again n run) num = acknowledging p num n.0 run
acknowledgement_of p NoMessages num = acknowledging p num 0 0
acknowledgement_of p (Refused r) num = acknowledging p num 0 0
