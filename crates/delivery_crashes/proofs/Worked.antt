-- The theorems over crashes, read from the list of Crashed.antt. Assumes nothing.
use Prim.Native.Nat.{ℕ, zero, suc, ◌<◌}
use native.Mathlib.Omega.{arith}
use mathlib.Core.Path.{◌≡◌, refl, sym, ap, ◌∙◌, subst}
use mathlib.Core.Bool.{true}
use mathlib.Core.List.{List, [], ◌∷◌, ◌++◌, map}
use lib.Dec.{T}
use lib.ListN.{length, replicate}
use Rattle.bitmap.specs.Marks.{leading}
use Rattle.octets.specs.Octets.{little}
use Rattle.wire.specs.Format.{needed}
use Rattle.delivery.specs.System.{specified, Event, RunResult, run, initial}
use Rattle.delivery.specs.Book.{
  expect_accepted,
  expect_again,
  Book,
  messages_in,
  added_messages,
  of_transaction,
  all_messages_in,
  finished,
  data_bytes,
  data_writes,
  completion_write,
  serial_writes,
  perform,
  serial_memory,
}
use Rattle.delivery.specs.Demand3.{
  outcome_of,
  seen_as,
  numbered_as,
  messages_sum,
  bytes_sum,
  complete_sum,
  needed_by,
  bytes_by,
  Guarantees,
  WhenAllFinished,
}
use Rattle.delivery.proofs.Lists.Check.{slots_of}
use Rattle.delivery_restarts.specs.Restarts.{specified_ends}
use Rattle.delivery_crashes.proofs.Demand.{as-if-lost, demand3-over-crashes}
use Rattle.delivery_crashes.proofs.Computing.{
  ended,
  booked,
  judge,
  passes_all,
  judged-passes,
  judged-book,
  applied,
  applied-lost,
}
use Rattle.delivery_crashes.proofs.Crashed.{memory, crashed, written, judged, survivors, survivors-are}

-- ---- as if lost

passes : T (passes_all (judge 36 specified_ends memory crashed))
passes = judged-passes 36 specified_ends memory crashed written judged

-- The surviving calls leave the same from fresh ends, with neither storing nor crash.
left-alike : (run specified (initial specified 2 1 36 (slots_of 36) memory) survivors).system
    ≡ ended 36 specified_ends memory crashed
left-alike =
    ap (λ (xs : List Event). (run specified (initial specified 2 1 36 (slots_of 36) memory) xs).system)
    (sym survivors-are)
    ∙ ap (λ (r : RunResult). r.system) (applied-lost 36 specified_ends as-if-lost memory crashed passes)

-- ---- demand 3

book-is : booked 36 specified_ends memory crashed ≡ written
book-is = judged-book 36 specified_ends memory crashed written judged

holds : Guarantees (outcome_of (ended 36 specified_ends memory crashed)) (booked 36 specified_ends memory crashed)
holds = applied 36 specified_ends demand3-over-crashes memory crashed passes

-- Each frame is accepted once over all crashes.
answered : map seen_as (ended 36 specified_ends memory crashed).answers
    ≡ expect_accepted 0 (record { messages = 1; bytes = 1; completed = 0 }) 1
    ∷ expect_accepted 1 (record { messages = 1; bytes = 1; completed = 0 }) 1
    ∷ expect_accepted 2 (record { messages = 1; bytes = 1; completed = 1 }) 1
    ∷ expect_again 2 1 ∷ expect_again 2 1 ∷ []
unfolding written numbered_as
answered = holds.answers_match ∙ ap (λ (b : Book). map numbered_as b.expected) book-is

all_finished : (i : ℕ) → i < length written.transactions → finished written i ≡ true
unfolding written finished all_messages_in messages_in of_transaction leading needed
all_finished zero h = refl
all_finished (suc i) h = absurd (omega arith)

whole : WhenAllFinished (outcome_of (ended 36 specified_ends memory crashed))
    (booked 36 specified_ends memory crashed)
whole =
    holds.when_all_finished
    (subst (λ (b : Book). (i : ℕ) → i < length b.transactions → finished b i ≡ true) (sym book-is) all_finished)

-- Three messages of a byte each are billed, one transaction is complete, and memory is as if the host had never failed.
messages-whole : messages_sum (ended 36 specified_ends memory crashed).answers ≡ 3
unfolding written needed_by needed
messages-whole = whole.messages_whole ∙ ap (λ (b : Book). needed_by b.transactions) book-is

bytes_whole_lem : bytes_sum (ended 36 specified_ends memory crashed).answers ≡ 3
unfolding written bytes_by messages_in of_transaction data_bytes
bytes_whole_lem = whole.bytes_whole ∙ ap (λ (b : Book). bytes_by 0 b.transactions (added_messages b)) book-is

completed-whole : complete_sum (ended 36 specified_ends memory crashed).answers ≡ 1
unfolding written
completed-whole = whole.complete_whole ∙ ap (λ (b : Book). length b.transactions) book-is

memory-whole : (ended 36 specified_ends memory crashed).memory ≡ 1 ∷ 2 ∷ 3 ∷ replicate 13 0 ++ 7 ∷ 0 ∷ 0 ∷ 0 ∷ []
unfolding written messages_in of_transaction data_writes completion_write little serial_writes perform serial_memory
memory-whole = whole.memory_in_turn ∙ ap serial_memory book-is
