-- Worked lists that meet the premises of demand 3, with every sentence of the demand read from the theorem; and a list
-- that the premises shut out, where host and book do differ. What stands in the book is found by running the list; what
-- the host answered, what it left in memory and what the card released follows from the theorem alone.
-- Assumes nothing.
use Prim.Native.Nat.{ℕ, zero, suc, ◌≤◌, ◌<◌}
use native.Mathlib.Omega.{arith}
use mathlib.Core.Path.{◌≡◌, refl, sym, ap, ◌∙◌, subst}
use mathlib.Core.Bool.{true, false}
use mathlib.Core.List.Memᴰ
use mathlib.Core.List.{List, [], ◌∷◌, ◌++◌, map}
use lib.Dec.{lit≤, lit<}
use lib.ListN.{length, replicate, get_or}
use Rattle.bitmap.specs.Marks.{leading}
use Rattle.octets.specs.Octets.{little}
use Rattle.wire.specs.Format.{needed}
use Rattle.host.specs.declared.Answer.{Answer}
use Rattle.card.specs.Window.{unreleased}
use Rattle.delivery.specs.Book.{
  MessageRecord,
  FrameRecord,
  nothing_handed,
  lent_ack,
  frame_copy,
  AckRange,
  expect_accepted,
  expect_again,
  expect_no_effect,
  Book,
  messages_in,
  frame_at,
  released_count,
  accepted_messages,
  added_messages,
  of_transaction,
  all_messages_in,
  transaction_at,
  finished,
  perform,
  data_writes,
  completion_write,
  writes_of,
  book_writes,
  book_memory,
  serial_writes,
  serial_memory,
  data_bytes,
  complete_count,
}
use Rattle.delivery.specs.System.{
  specified,
  Event,
  opens,
  adds,
  seals,
  reads,
  shows,
  chooses,
  receives,
}
use Rattle.delivery.specs.Demand3.{
  Apart,
  WritesAllowed,
  outcome_of,
  seen_as,
  numbered_as,
  times_accepted,
  messages_sum,
  bytes_sum,
  complete_sum,
  needed_by,
  bytes_by,
  Guarantees,
  WhenAllFinished,
}
use Rattle.delivery.proofs.Demand.{demand3}
use Rattle.delivery.proofs.Lists.Check.{runs, booked, Read, read_by}
use Rattle.delivery.proofs.Lists.Computing.{computing}

abbrev message : ℕ → ℕ → List ℕ → MessageRecord
message t at bytes = record { trans = t; data_address = at; bytes = bytes }

abbrev run : ℕ → ℕ → AckRange
run first many = record { first = first; many = many }

abbrev answers_to : ℕ → List ℕ → List Event → List Answer
answers_to limit memory events = (runs limit specified memory events).system.answers

abbrev memory_after : ℕ → List ℕ → List Event → List ℕ
memory_after limit memory events = (runs limit specified memory events).system.memory

abbrev unreleased_after : ℕ → List ℕ → List Event → ℕ
unreleased_after limit memory events = unreleased (runs limit specified memory events).system.card.window

-- ---- a list at whose end all is finished

events : List Event
events =
    -- transaction 0: two messages in a frame each, completion 7 at byte 16
    opens 2 16 7 ∷ adds 0 0 (1 ∷ 2 ∷ []) ∷ seals ∷ adds 0 2 (3 ∷ []) ∷ seals
    -- refused: all its messages are added
    ∷ adds 0 3 (4 ∷ [])
    -- hand-outs 0 to 3. The network loses 0 for good, and holds 3 back: a copy of frame 0.
    ∷ shows 0 ∷ shows 0 ∷ shows 1 ∷ chooses []
    -- frame 1 comes first, then frame 0, and frame 0 once more
    ∷ receives 2 ∷ receives 1 ∷ receives 1
    -- the acknowledgements of frame 1, and of the run of frames 0 and 1: the transaction is finished
    ∷ reads 0 ∷ reads 1
    -- transaction 1 writes bytes 1, 2 and 16 to 19 again
    ∷ opens 1 16 9 ∷ adds 1 1 (5 ∷ 6 ∷ []) ∷ seals ∷ shows 2 ∷ receives 4
    -- a second acknowledgement of that run, two numbers late, and the copy held back, three late
    ∷ reads 2 ∷ receives 3
    -- frame 2 is acknowledged, so that showing it is refused: hand-out 5 is empty; hand-out 6 is a lent acknowledgement
    ∷ reads 3 ∷ shows 2 ∷ receives 5 ∷ chooses (replicate 10 0) ∷ receives 6 ∷ []

abbrev memory : List ℕ
memory = replicate 20 0

abbrev book : Book
book = booked 36 specified memory events

-- What the book says of this list, found by running it.
written : Book
written = record {
  start = memory;
  transactions =
      record { count = 2; completion_address = 16; completion_value = 7; unfinished_at_opening = [] }
      ∷ record { count = 1; completion_address = 16; completion_value = 9; unfinished_at_opening = [] } ∷ [];
  frames =
      record { messages = message 0 0 (1 ∷ 2 ∷ []) ∷ []; acknowledged = true; accepted = true }
      ∷ record { messages = message 0 2 (3 ∷ []) ∷ []; acknowledged = true; accepted = true }
      ∷ record { messages = message 1 1 (5 ∷ 6 ∷ []) ∷ []; acknowledged = true; accepted = true } ∷ [];
  building = [];
  hand_outs =
      frame_copy 0 ∷ frame_copy 0 ∷ frame_copy 1 ∷ frame_copy 0 ∷ frame_copy 2 ∷ nothing_handed ∷ lent_ack ∷ [];
  acks_due = run 1 1 ∷ run 0 2 ∷ run 0 2 ∷ run 2 1 ∷ run 0 3 ∷ [];
  expected =
      expect_accepted 1 (record { messages = 1; bytes = 1; completed = 0 }) 1
      ∷ expect_accepted 0 (record { messages = 1; bytes = 2; completed = 1 }) 2
      ∷ expect_again 0 2
      ∷ expect_accepted 2 (record { messages = 1; bytes = 2; completed = 1 }) 1
      ∷ expect_again 0 3 ∷ expect_no_effect ∷ expect_no_effect ∷ [];
}

read : Read 36 specified memory events written
unfolding computing events written
read = read_by 36 specified demand3 memory events written tt

book-is : book ≡ written
book-is = read.book_is

holds : Guarantees (outcome_of (runs 36 specified memory events).system) book
holds = read.guaranteed

both-finished : (i : ℕ) → i < length written.transactions → finished written i ≡ true
unfolding written finished all_messages_in messages_in of_transaction leading needed
both-finished zero h = refl
both-finished (suc zero) h = refl
both-finished (suc (suc i)) h = absurd (omega arith)

all_finished : (i : ℕ) → i < length book.transactions → finished book i ≡ true
all_finished =
    subst (λ (b : Book). (i : ℕ) → i < length b.transactions → finished b i ≡ true) (sym book-is) both-finished

-- What the theorem then says of the host: its answers one by one; and, with both transactions finished, three messages,
-- five bytes, two transactions, and memory as if the two had run one after the other.
answered : map seen_as (answers_to 36 memory events)
    ≡ expect_accepted 1 (record { messages = 1; bytes = 1; completed = 0 }) 1
    ∷ expect_accepted 0 (record { messages = 1; bytes = 2; completed = 1 }) 2
    ∷ expect_again 0 2
    ∷ expect_accepted 2 (record { messages = 1; bytes = 2; completed = 1 }) 1
    ∷ expect_again 0 3 ∷ expect_no_effect ∷ expect_no_effect ∷ []
unfolding written numbered_as
answered = holds.answers_match ∙ ap (λ (b : Book). map numbered_as b.expected) book-is

whole : WhenAllFinished (outcome_of (runs 36 specified memory events).system) book
whole = holds.when_all_finished all_finished

messages-whole : messages_sum (answers_to 36 memory events) ≡ 3
unfolding written needed_by needed
messages-whole = whole.messages_whole ∙ ap (λ (b : Book). needed_by b.transactions) book-is

bytes_whole_lem : bytes_sum (answers_to 36 memory events) ≡ 5
unfolding written messages_in of_transaction data_bytes bytes_by
bytes_whole_lem = whole.bytes_whole ∙ ap (λ (b : Book). bytes_by 0 b.transactions (added_messages b)) book-is

complete-whole : complete_sum (answers_to 36 memory events) ≡ 2
unfolding written
complete-whole = whole.complete_whole ∙ ap (λ (b : Book). length b.transactions) book-is

memory-whole : memory_after 36 memory events ≡ 1 ∷ 5 ∷ 6 ∷ replicate 13 0 ++ 9 ∷ 0 ∷ 0 ∷ 0 ∷ []
unfolding written messages_in of_transaction data_writes completion_write little serial_writes perform serial_memory
memory-whole = whole.memory_in_turn ∙ ap serial_memory book-is

-- ---- a list that breaks off

-- Added, sealed, accepted, acknowledged and released are all different here, so that a statement about the wrong ones
-- would show.
partway : List Event
partway =
    -- frame 0 holds a message each of transactions 0 and 1, frames 1, 2, 3 one of 1, 0, 2; one more of 1 is not sealed
    opens 2 20 7 ∷ opens 3 24 8 ∷ opens 1 28 9 ∷ adds 0 0 [] ∷ adds 1 4 (3 ∷ 4 ∷ 5 ∷ []) ∷ seals
    ∷ adds 1 7 (6 ∷ []) ∷ seals ∷ adds 0 2 (9 ∷ []) ∷ seals ∷ adds 2 8 (14 ∷ []) ∷ seals ∷ adds 1 9 (15 ∷ [])
    -- frame 1 is lost, frame 3 is never sent; frame 0 comes twice, after frame 2
    ∷ shows 0 ∷ shows 1 ∷ shows 2 ∷ receives 2 ∷ receives 0 ∷ receives 0
    -- both acknowledgements come back: frame 0 is released, frame 2 is not
    ∷ reads 0 ∷ reads 1 ∷ []

abbrev memory₂ : List ℕ
memory₂ = replicate 32 0

abbrev book₂ : Book
book₂ = booked 64 specified memory₂ partway

-- What the book says of it: of four sealed frames the first is released, the first and the third are accepted; of six
-- messages with seven bytes three with four are accepted, and one of three transactions is complete.
written₂ : Book
written₂ = record {
  start = memory₂;
  transactions =
      record { count = 2; completion_address = 20; completion_value = 7; unfinished_at_opening = [] }
      ∷ record { count = 3; completion_address = 24; completion_value = 8; unfinished_at_opening = 0 ∷ [] }
      ∷ record { count = 1; completion_address = 28; completion_value = 9; unfinished_at_opening = 0 ∷ 1 ∷ [] } ∷ [];
  frames =
      record { messages = message 0 0 [] ∷ message 1 4 (3 ∷ 4 ∷ 5 ∷ []) ∷ []; acknowledged = true; accepted = true }
      ∷ record { messages = message 1 7 (6 ∷ []) ∷ []; acknowledged = false; accepted = false }
      ∷ record { messages = message 0 2 (9 ∷ []) ∷ []; acknowledged = true; accepted = true }
      ∷ record { messages = message 2 8 (14 ∷ []) ∷ []; acknowledged = false; accepted = false } ∷ [];
  building = message 1 9 (15 ∷ []) ∷ [];
  hand_outs = frame_copy 0 ∷ frame_copy 1 ∷ frame_copy 2 ∷ [];
  acks_due = run 2 1 ∷ run 0 1 ∷ run 0 1 ∷ [];
  expected =
      expect_accepted 2 (record { messages = 1; bytes = 1; completed = 0 }) 1
      ∷ expect_accepted 0 (record { messages = 2; bytes = 3; completed = 1 }) 1
      ∷ expect_again 0 1 ∷ [];
}

read₂ : Read 64 specified memory₂ partway written₂
unfolding computing partway written₂
read₂ = read_by 64 specified demand3 memory₂ partway written₂ tt

book-is₂ : book₂ ≡ written₂
book-is₂ = read₂.book_is

holds₂ : Guarantees (outcome_of (runs 64 specified memory₂ partway).system) book₂
holds₂ = read₂.guaranteed

sealed-four : length book₂.frames ≡ 4
unfolding written₂
sealed-four = ap (λ (b : Book). length b.frames) book-is₂

released-first : released_count book₂ ≡ 1
unfolding written₂ leading
released-first = ap released_count book-is₂

-- Of the answers to the copies of frame 0, which came twice, one is "accepted", and of those to frame 2 too.
once-first : times_accepted 0 (answers_to 64 memory₂ partway) book₂.expected ≡ 1
unfolding written₂
once-first = holds₂.accepted_once 0 (ap (λ (b : Book). (frame_at b 0).accepted) book-is₂)

once-third : times_accepted 2 (answers_to 64 memory₂ partway) book₂.expected ≡ 1
unfolding written₂
once-third = holds₂.accepted_once 2 (ap (λ (b : Book). (frame_at b 2).accepted) book-is₂)

-- Of the four sealed frames the card has three left; the one released was accepted.
three-left : unreleased_after 64 memory₂ partway ≡ 3
three-left = omega (arith, holds₂.released_agrees, sealed-four, released-first)

released-once : times_accepted 0 (answers_to 64 memory₂ partway) book₂.expected ≡ 1
released-once = holds₂.released_accepted 0 (omega (arith, three-left, sealed-four))

-- Each transaction has its last message added, and none more.
none_over_lem : (i : ℕ) → i < 3
    → length (of_transaction i (added_messages written₂)) ≤ needed (transaction_at written₂ i).count
unfolding written₂
none_over_lem i h =
    subst (λ (b : Book). length (of_transaction i (added_messages b)) ≤ needed (transaction_at b i).count) book-is₂
    (holds₂.none_over i (subst (λ (b : Book). i < length b.transactions) (sym book-is₂) h))

messages-part : messages_sum (answers_to 64 memory₂ partway) ≡ 3
unfolding written₂ messages_in
messages-part = holds₂.messages_agree ∙ ap (λ (b : Book). length (accepted_messages b)) book-is₂

bytes-part : bytes_sum (answers_to 64 memory₂ partway) ≡ 4
unfolding written₂ messages_in data_bytes
bytes-part = holds₂.bytes_agree ∙ ap (λ (b : Book). data_bytes (accepted_messages b)) book-is₂

complete-part : complete_sum (answers_to 64 memory₂ partway) ≡ 1
unfolding written₂ messages_in of_transaction all_messages_in needed complete_count
complete-part =
    holds₂.complete_agree ∙ ap (λ (b : Book). complete_count 0 b.transactions (accepted_messages b)) book-is₂

-- the data of both transactions in the accepted frames, and the completion of the first
memory-part : memory_after 64 memory₂ partway ≡ 0 ∷ 0 ∷ 9 ∷ 0 ∷ 3 ∷ 4 ∷ 5 ∷ replicate 13 0 ++ 7 ∷ replicate 11 0
unfolding written₂ messages_in of_transaction all_messages_in needed data_writes completion_write little writes_of book_writes
    perform book_memory
memory-part = holds₂.memory_agrees ∙ ap book_memory book-is₂

-- ---- a filled hole, which joins the runs on both its sides

joined : List Event
joined =
    opens 4 16 7 ∷ adds 0 0 (1 ∷ []) ∷ seals ∷ adds 0 1 (2 ∷ []) ∷ seals ∷ adds 0 2 (3 ∷ []) ∷ seals
    ∷ adds 0 3 (4 ∷ []) ∷ seals ∷ shows 0 ∷ shows 1 ∷ shows 2 ∷ shows 3
    -- frame 1 comes last, and then frame 0 once more
    ∷ receives 0 ∷ receives 2 ∷ receives 3 ∷ receives 1 ∷ receives 0
    -- of five acknowledgements the card gets that of the repeat alone
    ∷ reads 4 ∷ []

abbrev book₃ : Book
book₃ = booked 36 specified memory joined

-- What the book says of it: frames 0, 2 and 3 are accepted with runs of their own number alone; frame 1 has one of
-- three, and the repeat of frame 0 one of all four.
abbrev frame_read : ℕ → ℕ → FrameRecord
frame_read at byte =
    record { messages = message 0 at (byte ∷ []) ∷ []; acknowledged = true; accepted = true }

written₃ : Book
written₃ = record {
  start = memory;
  transactions = record { count = 4; completion_address = 16; completion_value = 7; unfinished_at_opening = [] } ∷ [];
  frames = frame_read 0 1 ∷ frame_read 1 2 ∷ frame_read 2 3 ∷ frame_read 3 4 ∷ [];
  building = [];
  hand_outs = frame_copy 0 ∷ frame_copy 1 ∷ frame_copy 2 ∷ frame_copy 3 ∷ [];
  acks_due = run 0 1 ∷ run 2 1 ∷ run 3 1 ∷ run 1 3 ∷ run 0 4 ∷ [];
  expected =
      expect_accepted 0 (record { messages = 1; bytes = 1; completed = 0 }) 1
      ∷ expect_accepted 2 (record { messages = 1; bytes = 1; completed = 0 }) 1
      ∷ expect_accepted 3 (record { messages = 1; bytes = 1; completed = 0 }) 1
      ∷ expect_accepted 1 (record { messages = 1; bytes = 1; completed = 1 }) 3
      ∷ expect_again 0 4 ∷ [];
}

read₃ : Read 36 specified memory joined written₃
unfolding computing joined written₃
read₃ = read_by 36 specified demand3 memory joined written₃ tt

book-is₃ : book₃ ≡ written₃
book-is₃ = read₃.book_is

holds₃ : Guarantees (outcome_of (runs 36 specified memory joined).system) book₃
holds₃ = read₃.guaranteed

answered₃ : map seen_as (answers_to 36 memory joined)
    ≡ expect_accepted 0 (record { messages = 1; bytes = 1; completed = 0 }) 1
    ∷ expect_accepted 2 (record { messages = 1; bytes = 1; completed = 0 }) 1
    ∷ expect_accepted 3 (record { messages = 1; bytes = 1; completed = 0 }) 1
    ∷ expect_accepted 1 (record { messages = 1; bytes = 1; completed = 1 }) 3
    ∷ expect_again 0 4 ∷ []
unfolding written₃ numbered_as
answered₃ = holds₃.answers_match ∙ ap (λ (b : Book). map numbered_as b.expected) book-is₃

-- By the one acknowledgement that it read the card has released all four.
released-four : (length book₃.frames ≡ 4) × (released_count book₃ ≡ 4)
unfolding written₃ leading
released-four = (ap (λ (b : Book). length b.frames) book-is₃, ap released_count book-is₃)

none_left : unreleased_after 36 memory joined ≡ 0
none_left = omega (arith, holds₃.released_agrees, released-four)

-- ---- why writes of transactions that are open together must not meet

-- Both transactions write byte 5, and the one opened later is finished before the other writes.
crossed : List Event
crossed =
    opens 1 8 7 ∷ opens 1 12 8 ∷ adds 1 5 (1 ∷ []) ∷ seals ∷ shows 0 ∷ receives 0 ∷ reads 0
    ∷ adds 0 5 (2 ∷ []) ∷ seals ∷ shows 1 ∷ receives 1 ∷ []

crossed-excluded : WritesAllowed (booked 36 specified memory crossed) → ⊥
unfolding computing crossed Apart
crossed-excluded k =
    (k.apart.apart_together 0 1 (lit< tt) (lit< tt) (Memᴰ.head refl)).0.0 5 (lit≤ tt, lit< tt) (lit≤ tt, lit< tt)

crossed-differs : (runs 36 specified memory crossed).system.memory ≡ book_memory (booked 36 specified memory crossed) → ⊥
unfolding computing crossed
crossed-differs e =
    let z : ◌≡◌ {A = ℕ} 2 1 = ap (λ m. get_or m 5 0) e in
    omega arith
