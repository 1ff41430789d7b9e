-- Demand 3: its premises and what follows from them, over a list of calls from two fresh ends.
use Rattle.std.specs.Prelude.{ℕ, suc, ◌+◌, ◌%◌, ◌≤◌, ◌<◌, ◌≡◌, Bool, true, false, cond, ◌&&◌, eqb, leb, ltb, length}
use mathlib.Core.List.{List, [], ◌∷◌, map, Memᴰ}
use Rattle.std.proofs.Math.Option.{Option, none, some}
use Rattle.std.proofs.Math.ListN.{get_elem?}
use Rattle.seq.specs.Ring.{frame_space, trans_space}
use Rattle.wire.specs.Format.{needed}
use Rattle.host.specs.declared.Sums.{Sums}
use Rattle.host.specs.declared.Opened.{Opened}
use Rattle.host.specs.declared.Answer.{Answer}
use Rattle.host.specs.declared.Answer.TheVariants.{Accepted, Again, NoMessages, Refused}
use Rattle.card.specs.Window.{unreleased}
use Rattle.delivery.specs.System.{
  CardResult,
  Implementation,
  specified,
  CardCall,
  open_call,
  add_call,
  seal_call,
  read_call,
  show_call,
  choose_call,
  Event,
  calls,
  receives,
  System,
  Observation,
  initial,
  run,
}
use Rattle.delivery.specs.Book.{
  MessageRecord,
  Transaction,
  HandOut,
  nothing_handed,
  lent_ack,
  frame_copy,
  AckRange,
  Expected,
  expect_accepted,
  expect_again,
  expect_no_effect,
  Book,
  frame_at,
  released_count,
  lowest_not_accepted,
  accepted_messages,
  added_messages,
  of_transaction,
  transaction_at,
  finished,
  Write,
  writes_of,
  book_memory,
  serial_memory,
  data_bytes,
  complete_count,
  book_step,
  empty_book,
  book_of,
}

-- ---- premises

-- The IDs are of their type, and neither opening is refused.
pub record BothOpen (card_id host_id : ℕ) (card : CardResult) (host : Opened) : Type 0 where
  pub card_fits : card_id < frame_space
  pub host_fits : host_id < frame_space
  pub card_opens : card.refusal ≡ 0
  pub host_opens : host.refusal.number ≡ 0

-- The arguments are of the calls' types: 16-bit and 32-bit numbers. (Bytes may be any.)
abbrev pub typed_call : CardCall → Bool
typed_call (open_call count address value) = ltb count 65536 && (ltb address trans_space && ltb value trans_space)
typed_call (add_call t at bytes) = ltb t trans_space && ltb at trans_space
typed_call seal_call = true
typed_call (read_call k) = true
typed_call (show_call n) = ltb n frame_space
typed_call (choose_call ack) = true

unfoldable pub typed : Event → Bool
typed (calls x) = typed_call x
typed (receives k) = true

unfoldable pub all_typed : List Event → Bool
all_typed [] = true
all_typed (x ∷ xs) = typed x && all_typed xs

-- Late (a term of the rules) on arrival: how far the count of a copy's frame lies before the lowest that the host has
-- not accepted; and of an acknowledgement, how far the first frame that it covers lies before the lowest that the card
-- has not released. Neither may be more than 32,768, each arrival taken with the book as it stands then.
abbrev pub copy_late_most : ℕ
copy_late_most = 32768

abbrev pub ack_late_most : ℕ
ack_late_most = 32768

unfoldable pub frame_in_time : Book → Option HandOut → Bool
frame_in_time b none = true
frame_in_time b (some nothing_handed) = true
frame_in_time b (some lent_ack) = true
frame_in_time b (some (frame_copy c)) = leb (lowest_not_accepted b) (c + copy_late_most)

unfoldable pub ack_in_time : Book → Option AckRange → Bool
ack_in_time b none = true
ack_in_time b (some r) = leb (released_count b) (r.first + ack_late_most)

abbrev pub call_in_time : Book → CardCall → Bool
call_in_time b (open_call count address value) = true
call_in_time b (add_call t at bytes) = true
call_in_time b seal_call = true
call_in_time b (read_call k) = ack_in_time b (get_elem? b.acks_due k)
call_in_time b (show_call n) = true
call_in_time b (choose_call ack) = true

unfoldable pub in_time : Book → Event → Bool
in_time b (calls x) = call_in_time b x
in_time b (receives k) = frame_in_time b (get_elem? b.hand_outs k)

unfoldable pub not_too_late : Book → List Observation → Bool
not_too_late b [] = true
not_too_late b (s ∷ ss) = in_time b s.event && not_too_late (book_step b s) ss

-- A write covers a byte; two writes have no byte in common.
abbrev pub Covers : Write → ℕ → Type 0
Covers w x = (w.at ≤ x) × (x < w.at + length w.bytes)

unfoldable pub Apart : Write → Write → Type 0
Apart w v = (x : ℕ) → Covers w x → Covers v x → ⊥

abbrev pub ApartFrom : Write → List Write → Type 0
ApartFrom w [] = Unit {0}
ApartFrom w (v ∷ vs) = Apart w v × ApartFrom w vs

abbrev pub AllApart : List Write → List Write → Type 0
AllApart [] vs = Unit {0}
AllApart (w ∷ ws) vs = ApartFrom w vs × AllApart ws vs

abbrev pub NoByteTwice : List Write → Type 0
NoByteTwice [] = Unit {0}
NoByteTwice (w ∷ ws) = ApartFrom w ws × NoByteTwice ws

-- What transaction i has written: its data in accepted frames, and its completion if that is due.
abbrev pub writes_made : Book → ℕ → List Write
writes_made b i = writes_of (transaction_at b i) i (accepted_messages b)

-- Where a message's data ends, and where a completion does.
abbrev pub data_end : MessageRecord → ℕ
data_end e = e.data_address + length e.bytes

abbrev pub completion_end : Transaction → ℕ
completion_end d = d.completion_address + 4

-- What the list has to keep to; b is the book after it. Every write lies inside memory, also one of no bytes and a
-- completion that is not due yet.
pub record WritesInside (b : Book) : Type 0 where
  pub data_inside : (e : MessageRecord) → Memᴰ e (added_messages b) → data_end e ≤ length b.start
  pub completion_inside : (d : Transaction) → Memᴰ d b.transactions → completion_end d ≤ length b.start

pub record WritesApart (b : Book) : Type 0 where
  -- no transaction writes one byte twice
  pub once_each : (i : ℕ) → i < length b.transactions → NoByteTwice (writes_made b i)
  -- no two that write a common byte are opened and unfinished together: i, opened first, was unfinished when j was
  -- opened
  pub apart_together : (i j : ℕ) → i < j → j < length b.transactions
      → Memᴰ i (transaction_at b j).unfinished_at_opening → AllApart (writes_made b i) (writes_made b j)

pub record WritesAllowed (b : Book) : Type 0 where
  pub inside : WritesInside b
  pub apart : WritesApart b

-- ---- what follows

-- What a list leaves that the demand speaks of: the host's answers and memory, and how many sealed frames the card has
-- not released.
pub record Outcome : Type 0 where
  pub answers : List Answer
  pub memory : List ℕ
  pub unreleased_frames : ℕ

abbrev pub outcome_of : System → Outcome
outcome_of w = record { answers = w.answers; memory = w.memory; unreleased_frames = unreleased w.card.window }

-- What an answer comes to. Which refusal is given to what carries no message is left open.
unfoldable pub seen_as : Answer → Expected
seen_as (Accepted n sums run) = expect_accepted n.0 sums run
seen_as (Again n run) = expect_again n.0 run
seen_as NoMessages = expect_no_effect
seen_as (Refused r) = expect_no_effect

-- The answer that the book expects, with the frame's number instead of its count.
unfoldable pub numbered_as : Expected → Expected
numbered_as (expect_accepted c sums run) = expect_accepted (c % frame_space) sums run
numbered_as (expect_again c run) = expect_again (c % frame_space) run
numbered_as expect_no_effect = expect_no_effect

-- The k-th answer is the one to what arrived k-th, and the book's k-th line says of which frame that was a copy, if of
-- any. So this is how often copies of frame c were answered "accepted".
unfoldable pub copy_of : ℕ → Expected → Bool
copy_of c (expect_accepted x sums run) = eqb x c
copy_of c (expect_again x run) = eqb x c
copy_of c expect_no_effect = false

unfoldable pub says_accepted : Answer → Bool
says_accepted (Accepted n sums run) = true
says_accepted (Again n run) = false
says_accepted NoMessages = false
says_accepted (Refused r) = false

unfoldable pub times_accepted : ℕ → List Answer → List Expected → ℕ
times_accepted c [] arrivals = 0
times_accepted c (a ∷ answers) [] = 0
times_accepted c (a ∷ answers) (r ∷ arrivals) =
    cond (says_accepted a && copy_of c r) 1 0 + times_accepted c answers arrivals

-- Sums over the accepted answers.
unfoldable pub sum_over : (Sums → ℕ) → List Answer → ℕ
sum_over f [] = 0
sum_over f (Accepted n sums run ∷ answers) = f sums + sum_over f answers
sum_over f (Again n run ∷ answers) = sum_over f answers
sum_over f (NoMessages ∷ answers) = sum_over f answers
sum_over f (Refused r ∷ answers) = sum_over f answers

abbrev pub messages_sum : List Answer → ℕ
messages_sum = sum_over (λ s. s.messages)

abbrev pub bytes_sum : List Answer → ℕ
bytes_sum = sum_over (λ s. s.bytes)

abbrev pub complete_sum : List Answer → ℕ
complete_sum = sum_over (λ s. s.completed)

-- The messages that all transactions take together, and the data bytes of those from i on, each transaction's counted
-- once.
unfoldable pub needed_by : List Transaction → ℕ
needed_by [] = 0
needed_by (d ∷ ds) = needed d.count + needed_by ds

unfoldable pub bytes_by : ℕ → List Transaction → List MessageRecord → ℕ
bytes_by i [] es = 0
bytes_by i (d ∷ ds) es = data_bytes (of_transaction i es) + bytes_by (suc i) ds es

-- Once all opened transactions are finished.
pub record WhenAllFinished (o : Outcome) (b : Book) : Type 0 where
  pub messages_whole : messages_sum o.answers ≡ needed_by b.transactions
  pub bytes_whole : bytes_sum o.answers ≡ bytes_by 0 b.transactions (added_messages b)
  pub complete_whole : complete_sum o.answers ≡ length b.transactions
  pub memory_in_turn : o.memory ≡ serial_memory b

pub record Guarantees (o : Outcome) (b : Book) : Type 0 where
  -- each arrival is answered as the book says, and of the answers to copies of a sealed frame that reached the host
  -- exactly one is "accepted"
  pub answers_match : map seen_as o.answers ≡ map numbered_as b.expected
  pub accepted_once : (c : ℕ) → (frame_at b c).accepted ≡ true → times_accepted c o.answers b.expected ≡ 1
  -- the card released only such frames: it has released all sealed ones but the last few, as many as it has unreleased.
  -- They are those that the book says.
  pub released_accepted : (c : ℕ) → c + o.unreleased_frames < length b.frames
      → times_accepted c o.answers b.expected ≡ 1
  pub released_agrees : length b.frames ≡ released_count b + o.unreleased_frames
  -- no transaction has more messages than its count, so that "as many as it takes" is exactly as many
  pub none_over : (i : ℕ) → i < length b.transactions
      → length (of_transaction i (added_messages b)) ≤ needed (transaction_at b i).count
  -- memory, and the sums of the accepted answers
  pub memory_agrees : o.memory ≡ book_memory b
  pub messages_agree : messages_sum o.answers ≡ length (accepted_messages b)
  pub bytes_agree : bytes_sum o.answers ≡ data_bytes (accepted_messages b)
  pub complete_agree : complete_sum o.answers ≡ complete_count 0 b.transactions (accepted_messages b)
  pub when_all_finished : ((i : ℕ) → i < length b.transactions → finished b i ≡ true) → WhenAllFinished o b

-- Demand 3, for any two ends.
unfoldable pub Demand3For : Implementation → Type 0
Demand3For e =
    (card_id host_id limit : ℕ) (slots memory : List ℕ) (events : List Event)
    → BothOpen card_id host_id (e.card_end.card_opening card_id host_id limit slots) (e.host_end.host_opening host_id card_id)
    → let r = run e (initial e card_id host_id limit slots memory) events in
    let b = book_of memory r.observations in
    all_typed events ≡ true → not_too_late (empty_book memory) r.observations ≡ true
    → WritesAllowed b → Guarantees (outcome_of r.system) b

-- Demand 3: for the ends that the rules describe. proofs/Demand.antt has a term of this type.
abbrev pub Demand3 : Type 0
Demand3 = Demand3For specified
