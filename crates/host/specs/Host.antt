-- The charging host: opening a pair, receiving a frame, and the acknowledgement that an answer calls for.
use Rattle.std.specs.Prelude.{ℕ, suc, ◌+◌, ◌%◌, ◌≡◌, Bool, true, false, cond, ◌||◌, ◌&&◌, List, [], ◌∷◌, eqb, leb, ltb, length, replicate, Option, Some, None}
use Rattle.seq.specs.Ring.{distance, advance, frame_space}
use Rattle.bitmap.specs.Marks.{mark, leading}
use Rattle.bitmap.specs.Window.{marked_and_moved}
use Rattle.octets.specs.Octets.{little, written}
use Rattle.wire.specs.Format.{Message}
use Rattle.wire.specs.Reading.{number, flags, addressed, Read, bad, good, read_frame}
use Rattle.wire.specs.Writing.{ack_frame}
use Rattle.host.specs.Terms.{free}
use Rattle.host.specs.declared.Verdict.{Verdict}
use Rattle.host.specs.Transactions.{Transactions, verdict, after}
use Rattle.host.specs.declared.Pair.{Pair}
use Rattle.host.specs.declared.Opened.{Opened}
use Rattle.host.specs.declared.Stepped.{Stepped}
use Rattle.host.specs.declared.Range.{Range}
use Rattle.host.specs.declared.Answer.{Answer}
use Rattle.host.specs.declared.Answer.TheVariants.{Accepted, Again, NoMessages, Refused}

-- ---- opening

-- Both windows begin at 0 and hold no mark, and no transaction is open.
unfoldable pub fresh : ℕ → ℕ → Pair
fresh own peer = record {
  own = own;
  peer = peer;
  next = record { 0 = 0 };
  marks = 0;
  lowest = record { 0 = 0 };
  closed = 0;
  table = replicate 32 free;
}

-- A refused opening hands back a fresh pair with both IDs 0.
abbrev pub refused_opening : Opened
refused_opening = record { pair = fresh 0 0; refusal = record { number = 13; place = 0 } }

-- Refusal 13 where an ID is 0. Number 0 is no refusal.
unfoldable pub opened_of : ℕ → ℕ → Opened
opened_of own peer =
    cond (eqb own 0 || eqb peer 0) refused_opening
    (record { pair = fresh own peer; refusal = record { number = 0; place = 0 } })

-- ---- a frame's messages

-- What they come to, message by message.
pub record Tally : Type 0 where
  pub transactions : Transactions
  pub memory : List ℕ
  pub messages : ℕ
  pub bytes : ℕ
  pub completed : ℕ

-- A message's data is written, and straight after it the completion where the message completes its transaction.
unfoldable pub effect : List ℕ → Message → Bool → List ℕ
effect memory m done =
    let filled = written memory m.data_address m.bytes in
    cond done (written filled m.completion_address (little 4 m.completion_value)) filled

unfoldable pub take_in : Tally → Message → Verdict → Tally
take_in t m v = record {
  transactions = after t.transactions m v;
  memory = effect t.memory m v.done;
  messages = t.messages + 1;
  bytes = t.bytes + length m.bytes;
  completed = t.completed + cond v.done 1 0;
}

-- All of them fine, or the first that is refused: its number and its index.
pub data Taken : Type 0 where
  fine : Tally → Taken
  wrong : ℕ → ℕ → Taken

-- Each message is judged against what those before it leave.
unfoldable pub take_all : Tally → ℕ → List Message → Taken
take_all t place [] = fine t
take_all t place (m ∷ ms) =
    let v = verdict t.transactions (length t.memory) m in
    cond (eqb v.refusal 0) (take_all (take_in t m v) (suc place) ms) (wrong v.refusal place)

-- ---- receiving

-- The pair and the memory after a frame, and the answer.
pub record Received : Type 0 where
  pub pair : Pair
  pub memory : List ℕ
  pub answer : Answer

abbrev pub unchanged : Pair → List ℕ → Answer → Received
unchanged p memory a = record { pair = p; memory = memory; answer = a }

abbrev pub refused : ℕ → ℕ → Answer
refused number place = Refused (record { number = number; place = place })

-- A frame number d past the next one is in the window up to 63, behind from 32,768 on, and ahead between (behind and
-- ahead are terms of the rules). Whether it is behind, or in the window and accepted.
unfoldable pub settled : Pair → ℕ → Bool
settled p num =
    let d = distance frame_space p.next.0 num in
    leb 32768 d || (ltb d 64 && mark p.marks d)

-- The run from `num` on: how many numbers, one after another and 255 at most, are settled.
unfoldable pub run_from : Pair → ℕ → ℕ
run_from p num = leading (λ i. settled p (advance frame_space num i)) 255

-- The pair after a frame took effect: it is marked, and the window begins at the first number that is not accepted.
unfoldable pub after_frame : Pair → ℕ → Transactions → Pair
after_frame p num t =
    let window = marked_and_moved frame_space 64 p.next.0 p.marks num in
    record {
      own = p.own;
      peer = p.peer;
      next = record { 0 = window.first };
      marks = window.marks;
      lowest = record { 0 = t.lowest };
      closed = t.closed;
      table = t.table;
    }

-- An accepted frame acknowledges the run from its number on, as it is after the frame took effect.
unfoldable pub accepting : Pair → ℕ → Tally → Received
accepting p num t =
    let next = after_frame p num t.transactions in
    record {
      pair = next;
      memory = t.memory;
      answer = Accepted (record { 0 = num })
          (record { messages = t.messages; bytes = t.bytes; completed = t.completed }) (run_from next num);
    }

-- Again (a term of the rules): the answer to a number that is behind, or in the window and accepted, whether a frame
-- with it ever came or not. Nothing changes, and the run from that number on is acknowledged.
abbrev pub again : Pair → List ℕ → ℕ → Received
again p memory num = unchanged p memory (Again (record { 0 = num }) (run_from p num))

abbrev pub concluded : Pair → List ℕ → ℕ → Taken → Received
concluded p memory num (fine t) = accepting p num t
concluded p memory num (wrong r place) = unchanged p memory (refused r place)

abbrev pub transactions_of : Pair → Transactions
transactions_of p = record { lowest = p.lowest.0; closed = p.closed; table = p.table }

abbrev pub tally_of : Pair → List ℕ → Tally
tally_of p memory = record { transactions = transactions_of p; memory = memory; messages = 0; bytes = 0; completed = 0 }

-- A frame with messages: what is behind, or in the window and accepted, is answered "again"; what else is not in the
-- window is ahead and gets 6; else its messages are taken in.
unfoldable pub by_number : Pair → List ℕ → ℕ → List Message → Received
by_number p memory num ms =
    cond (settled p num) (again p memory num)
    (cond (leb 64 (distance frame_space p.next.0 num)) (unchanged p memory (refused 6 0))
    (concluded p memory num (take_all (tally_of p memory) 0 ms)))

abbrev pub answered : Pair → List ℕ → List ℕ → Read → Received
answered p f memory (bad r) = unchanged p memory (refused r 0)
answered p f memory (good ms) =
    cond (eqb (flags f) 0) (unchanged p memory NoMessages) (by_number p memory (number f) ms)

unfoldable pub receive_of : Pair → List ℕ → List ℕ → Received
receive_of p f memory = answered p f memory (read_frame (addressed p.own p.peer f) f)

abbrev pub stepped_of : Received → Stepped
stepped_of r = record { pair = r.pair; answer = r.answer }

-- Whether the frame that got this answer took effect. Any other answer leaves the words in which a pair is lent as they
-- were, word for word.
abbrev pub took_effect : Answer → Bool
took_effect (Accepted n sums run) = true
took_effect (Again n run) = false
took_effect NoMessages = false
took_effect (Refused r) = false

abbrev pub LeavesWords : Answer → List ℕ → List ℕ → Type 0
LeavesWords a words left = took_effect a ≡ false → left ≡ words

-- ---- acknowledging

-- The frame numbers that an answer acknowledges: `count` of them from `start` on. Accepted and again acknowledge the
-- run that they end with, from their own number on.
abbrev pub range_of : Answer → Range
range_of (Accepted n sums run) = record { start = n; count = run }
range_of (Again n run) = record { start = n; count = run }
range_of NoMessages = record { start = record { 0 = 0 }; count = 0 }
range_of (Refused r) = record { start = record { 0 = 0 }; count = 0 }

-- An acknowledgement is due where the range is not empty; it goes from the pair's own ID to the peer's and carries the
-- number that the caller gives.
unfoldable pub acknowledgement_from : ℕ → ℕ → Answer → ℕ → Option (List ℕ)
acknowledgement_from own peer a num =
    let range = range_of a in
    cond (ltb 0 range.count) (Some (ack_frame peer own num range.start.0 range.count)) None

abbrev pub acknowledgement_of : Pair → Answer → ℕ → Option (List ℕ)
acknowledgement_of p a num = acknowledgement_from p.own p.peer a num

-- ---- answers as numbers

-- Kind, number, messages, data bytes, completed transactions, refusal, place and run. The kinds are 1 for accepted, 2
-- for again, 3 for no messages and 4 for refused; what a kind does not have is 0.
abbrev pub answer_words : Answer → List ℕ
answer_words (Accepted n sums run) = 1 ∷ n.0 ∷ sums.messages ∷ sums.bytes ∷ sums.completed ∷ 0 ∷ 0 ∷ run ∷ []
answer_words (Again n run) = 2 ∷ n.0 ∷ 0 ∷ 0 ∷ 0 ∷ 0 ∷ 0 ∷ run ∷ []
answer_words NoMessages = 3 ∷ 0 ∷ 0 ∷ 0 ∷ 0 ∷ 0 ∷ 0 ∷ 0 ∷ []
answer_words (Refused r) = 4 ∷ 0 ∷ 0 ∷ 0 ∷ 0 ∷ r.number ∷ r.place ∷ 0 ∷ []

-- What is left of an answer in its kind, number and run, as far as it calls for an acknowledgement: accepted and again
-- call for one of the run, modulo 256, from the number on, modulo 65,536, and no other kind does.
abbrev pub answer_of : ℕ → ℕ → ℕ → Answer
answer_of kind num run =
    cond (eqb kind 1 || eqb kind 2) (Again (record { 0 = num % frame_space }) (run % 256)) NoMessages
