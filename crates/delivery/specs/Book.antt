-- The plain book. It is fed the starting memory and what `System.Observation` shows, and sees neither end's state.
-- Transactions and frames are counted from 0 and never wrap.
use Rattle.std.specs.Prelude.{ℕ, zero, suc, ◌+◌, Bool, true, false, cond, not, ◌&&◌, List, [], ◌∷◌, ◌++◌, eqb, leb, ltb, length, get_or, take}
use Rattle.std.proofs.Math.Option.{Option, none, some}
use Rattle.std.proofs.Math.ListN.{get_elem?}
use Rattle.std.proofs.lemmas.List.Edits.{sets}
use Rattle.seq.specs.Ring.{latest, frame_space, trans_space}
use Rattle.bitmap.specs.Marks.{leading}
use Rattle.octets.specs.Octets.{little}
use Rattle.wire.specs.Format.{needed}
use Rattle.wire.specs.Reading.{number}
use Rattle.host.specs.declared.Sums.{Sums}
use Rattle.delivery.specs.System.{
  CardCall,
  open_call,
  add_call,
  seal_call,
  read_call,
  show_call,
  choose_call,
  Event,
  calls,
  receives,
  Observation,
}

-- A message: its transaction, and what it writes.
pub record MessageRecord : Type 0 where
  pub trans : ℕ
  pub data_address : ℕ
  pub bytes : List ℕ

-- A transaction: its terms, and the transactions that were unfinished when it was opened.
pub record Transaction : Type 0 where
  pub count : ℕ
  pub completion_address : ℕ
  pub completion_value : ℕ
  pub unfinished_at_opening : List ℕ

-- A sealed frame: its messages, whether it was acknowledged, whether the host has accepted it: whether a copy has
-- reached it.
pub record FrameRecord : Type 0 where
  pub messages : List MessageRecord
  pub acknowledged : Bool
  pub accepted : Bool

-- What a showing or a choice handed out: nothing where it was refused, the lent acknowledgement, or a copy of a sealed
-- frame.
pub data HandOut : Type 0 where
  nothing_handed : HandOut
  lent_ack : HandOut
  frame_copy : ℕ → HandOut

-- The frames that an acknowledgement covers: some that follow one another, from the first on.
pub record AckRange : Type 0 where
  pub first : ℕ
  pub many : ℕ

abbrev pub covers : AckRange → ℕ → Bool
covers r n = leb r.first n && ltb n (r.first + r.many)

-- The answer due to an arrival: accepted, with the frame's messages, data bytes and the transactions that it completes;
-- again; or one that is neither. The first number is the frame's count, the last how many frames are acknowledged.
pub data Expected : Type 0 where
  expect_accepted : ℕ → Sums → ℕ → Expected
  expect_again : ℕ → ℕ → Expected
  expect_no_effect : Expected

-- The starting memory, the transactions and the sealed frames in their order, the messages of the frame being built;
-- what was handed out, what the acknowledgements called for cover, and the answers due, each oldest first.
pub record Book : Type 0 where
  pub start : List ℕ
  pub transactions : List Transaction
  pub frames : List FrameRecord
  pub building : List MessageRecord
  pub hand_outs : List HandOut
  pub acks_due : List AckRange
  pub expected : List Expected

-- ---- what the book's columns come to

-- The messages of the frames that pass a test.
unfoldable pub messages_in : (FrameRecord → Bool) → List FrameRecord → List MessageRecord
messages_in p [] = []
messages_in p (s ∷ ss) = cond (p s) s.messages [] ++ messages_in p ss

abbrev pub no_frame : FrameRecord
no_frame = record { messages = []; acknowledged = false; accepted = false }

abbrev pub frame_at : Book → ℕ → FrameRecord
frame_at b c = get_or b.frames c no_frame

abbrev pub is_accepted : FrameRecord → Bool
is_accepted s = s.accepted

abbrev pub any_frame : FrameRecord → Bool
any_frame s = true

-- How many frames the card has released: all before the first that is not acknowledged. And the lowest frame not
-- accepted.
abbrev pub released_count : Book → ℕ
released_count b = leading (λ c. (frame_at b c).acknowledged) (length b.frames)

abbrev pub lowest_not_accepted : Book → ℕ
lowest_not_accepted b = leading (λ c. (frame_at b c).accepted) (length b.frames)

-- Messages in accepted frames, in released frames, and all.
abbrev pub accepted_messages : Book → List MessageRecord
accepted_messages b = messages_in is_accepted b.frames

abbrev pub released_messages : Book → List MessageRecord
released_messages b = messages_in any_frame (take (released_count b) b.frames)

abbrev pub added_messages : Book → List MessageRecord
added_messages b = messages_in any_frame b.frames ++ b.building

-- The messages of transaction i among some.
unfoldable pub of_transaction : ℕ → List MessageRecord → List MessageRecord
of_transaction i [] = []
of_transaction i (e ∷ es) = cond (eqb e.trans i) (e ∷ of_transaction i es) (of_transaction i es)

-- As many messages as the transaction takes are among these.
unfoldable pub all_messages_in : Transaction → ℕ → List MessageRecord → Bool
all_messages_in d i es = leb (needed d.count) (length (of_transaction i es))

abbrev pub no_transaction : Transaction
no_transaction = record { count = 0; completion_address = 0; completion_value = 0; unfinished_at_opening = [] }

abbrev pub transaction_at : Book → ℕ → Transaction
transaction_at b i = get_or b.transactions i no_transaction

-- Complete: all its messages are accepted. Finished: all are added and lie in released frames.
unfoldable pub complete : Book → ℕ → Bool
complete b i = all_messages_in (transaction_at b i) i (accepted_messages b)

unfoldable pub finished : Book → ℕ → Bool
finished b i = all_messages_in (transaction_at b i) i (released_messages b)

-- Those from the i-th on that do not have all their messages among some.
unfoldable pub unfinished_from : ℕ → List Transaction → List MessageRecord → List ℕ
unfinished_from i [] es = []
unfinished_from i (d ∷ ds) es =
    cond (all_messages_in d i es) (unfinished_from (suc i) ds es) (i ∷ unfinished_from (suc i) ds es)

-- The transactions that are not finished.
unfoldable pub unfinished : Book → List ℕ
unfinished b = unfinished_from 0 b.transactions (released_messages b)

-- ---- memory

-- One write, and writes made one after another. (`sets` stores bytes at, at + 1, .. and no other.)
pub record Write : Type 0 where
  pub at : ℕ
  pub bytes : List ℕ

unfoldable pub perform : List ℕ → List Write → List ℕ
perform m [] = m
perform m (w ∷ ws) = perform (sets m w.at w.bytes) ws

unfoldable pub data_writes : List MessageRecord → List Write
data_writes [] = []
data_writes (e ∷ es) = record { at = e.data_address; bytes = e.bytes } ∷ data_writes es

unfoldable pub completion_write : Transaction → Write
completion_write d = record { at = d.completion_address; bytes = little 4 d.completion_value }

-- The writes of transaction i: its data among these messages, and its completion exactly when all its messages are
-- among them.
unfoldable pub writes_of : Transaction → ℕ → List MessageRecord → List Write
writes_of d i es = data_writes (of_transaction i es) ++ cond (all_messages_in d i es) (completion_write d ∷ []) []

-- The writes of the transactions from i on, in order of opening; and the memory that the book says.
unfoldable pub book_writes : ℕ → List Transaction → List MessageRecord → List Write
book_writes i [] es = []
book_writes i (d ∷ ds) es = writes_of d i es ++ book_writes (suc i) ds es

unfoldable pub book_memory : Book → List ℕ
book_memory b = perform b.start (book_writes 0 b.transactions (accepted_messages b))

-- The transactions run whole, one after another: all data of one, its completion, and then the next.
unfoldable pub serial_writes : ℕ → List Transaction → List MessageRecord → List Write
serial_writes i [] es = []
serial_writes i (d ∷ ds) es = (data_writes (of_transaction i es) ++ (completion_write d ∷ [])) ++ serial_writes (suc i) ds es

unfoldable pub serial_memory : Book → List ℕ
serial_memory b = perform b.start (serial_writes 0 b.transactions (added_messages b))

-- ---- sums

unfoldable pub data_bytes : List MessageRecord → ℕ
data_bytes [] = 0
data_bytes (e ∷ es) = length e.bytes + data_bytes es

-- How many of the transactions from the i-th on have all their messages among some.
unfoldable pub complete_count : ℕ → List Transaction → List MessageRecord → ℕ
complete_count i [] es = 0
complete_count i (d ∷ ds) es = cond (all_messages_in d i es) 1 0 + complete_count (suc i) ds es

-- How many of the transactions from the i-th on have all their messages among the second ones, but not among the first.
unfoldable pub newly_complete : ℕ → List Transaction → List MessageRecord → List MessageRecord → ℕ
newly_complete i [] es fs = 0
newly_complete i (d ∷ ds) es fs =
    cond (all_messages_in d i fs && not (all_messages_in d i es)) 1 0 + newly_complete (suc i) ds es fs

-- ---- one call

-- The book with some of its columns replaced.
abbrev pub with_transactions : Book → List Transaction → Book
with_transactions b transactions = record {
  start = b.start;
  transactions = transactions;
  frames = b.frames;
  building = b.building;
  hand_outs = b.hand_outs;
  acks_due = b.acks_due;
  expected = b.expected;
}

abbrev pub with_frames : Book → List FrameRecord → List MessageRecord → Book
with_frames b frames building = record {
  start = b.start;
  transactions = b.transactions;
  frames = frames;
  building = building;
  hand_outs = b.hand_outs;
  acks_due = b.acks_due;
  expected = b.expected;
}

abbrev pub with_traffic : Book → List HandOut → List AckRange → List Expected → Book
with_traffic b hand_outs acks_due expected = record {
  start = b.start;
  transactions = b.transactions;
  frames = b.frames;
  building = b.building;
  hand_outs = hand_outs;
  acks_due = acks_due;
  expected = expected;
}

-- A transaction is opened.
abbrev pub new_transaction : Book → ℕ → ℕ → ℕ → Transaction
new_transaction b count address value =
    record { count = count; completion_address = address; completion_value = value; unfinished_at_opening = unfinished b }

unfoldable pub enter_opening : Book → ℕ → ℕ → ℕ → Book
enter_opening b count address value =
    with_transactions b (b.transactions ++ (new_transaction b count address value ∷ []))

-- A message is added to the frame being built: a transaction number means the latest transaction with it.
unfoldable pub enter_message : Book → ℕ → ℕ → List ℕ → Book
enter_message b n at bytes =
    let i = latest trans_space (length b.transactions) n in
    with_frames b b.frames (b.building ++ (record { trans = i; data_address = at; bytes = bytes } ∷ []))

-- The frame being built is sealed.
abbrev pub new_frame : Book → FrameRecord
new_frame b = record { messages = b.building; acknowledged = false; accepted = false }

unfoldable pub enter_sealing : Book → Book
enter_sealing b = with_frames b (b.frames ++ (new_frame b ∷ [])) []

-- The c-th frame, changed.
unfoldable pub change_at : List FrameRecord → ℕ → (FrameRecord → FrameRecord) → List FrameRecord
change_at [] c f = []
change_at (s ∷ ss) zero f = f s ∷ ss
change_at (s ∷ ss) (suc c) f = s ∷ change_at ss c f

abbrev pub mark_acknowledged : FrameRecord → FrameRecord
mark_acknowledged s = record { messages = s.messages; acknowledged = true; accepted = s.accepted }

abbrev pub mark_accepted : FrameRecord → FrameRecord
mark_accepted s = record { messages = s.messages; acknowledged = s.acknowledged; accepted = true }

-- The frames whose counts pass a test, changed.
unfoldable pub mark_where : (ℕ → Bool) → (FrameRecord → FrameRecord) → List FrameRecord → List FrameRecord
mark_where p f [] = []
mark_where p f (s ∷ ss) = cond (p 0) (f s) s ∷ mark_where (λ n. p (suc n)) f ss

-- The card reads an acknowledgement: the sealed frames that it covers are acknowledged.
unfoldable pub enter_ack : Book → Option AckRange → Book
enter_ack b none = b
enter_ack b (some r) = with_frames b (mark_where (covers r) mark_acknowledged b.frames) b.building

unfoldable pub enter_hand_out : Book → HandOut → Book
enter_hand_out b x = with_traffic b (b.hand_outs ++ (x ∷ [])) b.acks_due b.expected

-- The longest run of accepted frames starting at frame c, at most 255; and the acknowledgement of it.
unfoldable pub accepted_run : List FrameRecord → ℕ → ℕ
accepted_run frames c = leading (λ i. (get_or frames (c + i) no_frame).accepted) 255

abbrev pub ack_of : List FrameRecord → ℕ → AckRange
ack_of frames c = record { first = c; many = accepted_run frames c }

-- A copy of a sealed frame reaches the host: the first time it is accepted, each later time it is "again". Either
-- answer acknowledges the run from that frame on, after the arrival.
abbrev pub first_answer : Book → ℕ → List FrameRecord → Expected
first_answer b c frames =
    let es = (frame_at b c).messages in
    expect_accepted c
    (record {
      messages = length es;
      bytes = data_bytes es;
      completed = newly_complete 0 b.transactions (accepted_messages b) (messages_in is_accepted frames);
    })
    (accepted_run frames c)

unfoldable pub enter_arrival : Book → ℕ → Book
enter_arrival b c =
    let frames = change_at b.frames c mark_accepted in
    let answer = cond (frame_at b c).accepted (expect_again c (accepted_run frames c)) (first_answer b c frames) in
    with_traffic (with_frames b frames b.building) b.hand_outs (b.acks_due ++ (ack_of frames c ∷ []))
    (b.expected ++ (answer ∷ []))

-- What reaches the host carries no message.
unfoldable pub enter_no_effect : Book → Book
enter_no_effect b = with_traffic b b.hand_outs b.acks_due (b.expected ++ (expect_no_effect ∷ []))

unfoldable pub enter_delivery : Book → Option HandOut → Book
enter_delivery b none = enter_no_effect b
enter_delivery b (some nothing_handed) = enter_no_effect b
enter_delivery b (some lent_ack) = enter_no_effect b
enter_delivery b (some (frame_copy c)) = enter_arrival b c

-- What a showing or a choice handed out: a frame number means the latest frame with it.
unfoldable pub shown : Book → Bool → ℕ → HandOut
shown b was_refused n = cond was_refused nothing_handed (frame_copy (latest frame_space (length b.frames) n))

unfoldable pub chosen : Book → Bool → List ℕ → List ℕ → HandOut
chosen b was_refused ack handed_out =
    cond was_refused nothing_handed
    (cond (eqb (length ack) 10) lent_ack (frame_copy (latest frame_space (length b.frames) (number handed_out))))

-- Any call. A refused one enters nothing, but that a refused showing or choice hands out nothing.
abbrev pub enter_call : Book → CardCall → Bool → List ℕ → Book
enter_call b (open_call count address value) was_refused handed_out = cond was_refused b (enter_opening b count address value)
enter_call b (add_call n at bytes) was_refused handed_out = cond was_refused b (enter_message b n at bytes)
enter_call b seal_call was_refused handed_out = cond was_refused b (enter_sealing b)
enter_call b (read_call k) was_refused handed_out = cond was_refused b (enter_ack b (get_elem? b.acks_due k))
enter_call b (show_call n) was_refused handed_out = enter_hand_out b (shown b was_refused n)
enter_call b (choose_call ack) was_refused handed_out = enter_hand_out b (chosen b was_refused ack handed_out)

unfoldable pub enter : Book → Event → Bool → List ℕ → Book
enter b (calls x) was_refused handed_out = enter_call b x was_refused handed_out
enter b (receives k) was_refused handed_out = enter_delivery b (get_elem? b.hand_outs k)

abbrev pub book_step : Book → Observation → Book
book_step b s = enter b s.event s.was_refused s.handed_out

-- The book of a list of calls, from an empty one on.
unfoldable pub book_from : Book → List Observation → Book
book_from b [] = b
book_from b (s ∷ ss) = book_from (book_step b s) ss

unfoldable pub empty_book : List ℕ → Book
empty_book memory =
    record { start = memory; transactions = []; frames = []; building = []; hand_outs = []; acks_due = []; expected = [] }

abbrev pub book_of : List ℕ → List Observation → Book
book_of memory observations = book_from (empty_book memory) observations
