-- Demand 3 over restarts, read from the theorem over one list; and why nothing may be accepted between a storing and
-- the return. Assumes nothing.
use Prim.Native.Nat.{ℕ, zero, suc, ◌<◌}
use native.Mathlib.Omega.{arith}
use mathlib.Core.Path.{◌≡◌, refl, sym, ap, ◌∙◌, subst}
use mathlib.Core.Bool.{true, false}
use mathlib.Core.List.{List, [], ◌∷◌, ◌++◌, map}
use lib.Dec.{T}
use lib.ListN.{length, replicate}
use Rattle.bitmap.specs.Marks.{leading}
use Rattle.octets.specs.Octets.{little}
use Rattle.wire.specs.Format.{needed}
use Rattle.delivery.specs.System.{opens, adds, seals, reads, shows, receives}
use Rattle.delivery.specs.Book.{
  MessageRecord,
  frame_copy,
  nothing_handed,
  AckRange,
  expect_accepted,
  expect_again,
  expect_no_effect,
  Book,
  messages_in,
  of_transaction,
  all_messages_in,
  finished,
  data_writes,
  completion_write,
  serial_writes,
  perform,
  serial_memory,
}
use Rattle.delivery.specs.Demand3.{
  outcome_of,
  seen_as,
  numbered_as,
  complete_sum,
  Guarantees,
  WhenAllFinished,
}
use Rattle.delivery_restarts.specs.Restarts.{
  specified_ends,
  Call,
  ordinary,
  stores,
  returns,
  Shown,
  shows_call,
  shows_storing,
  shows_return,
  site_after,
  shown_by,
  initial_site,
}
use Rattle.delivery_restarts.proofs.Demand.{demand3-over-restarts}
use Rattle.delivery_restarts.proofs.Computing.{
  ended,
  showing,
  booked,
  judge,
  judged_as,
  judged-holds,
  judged-book,
  restarting,
}

abbrev memory : List ℕ
memory = replicate 20 0

-- What storings and returns show, as two numbers each: 100 and the refusal of a storing, the storing that a return goes
-- back to and its refusal.
unfoldable pub restarts_in : List Shown → List (List ℕ)
restarts_in [] = []
restarts_in (shows_call s ∷ ss) = restarts_in ss
restarts_in (shows_storing r ∷ ss) = (100 ∷ r ∷ []) ∷ restarts_in ss
restarts_in (shows_return k r ∷ ss) = (k ∷ r ∷ []) ∷ restarts_in ss

-- ---- a list with restarts

restarted : List Call
restarted =
    ordinary (opens 3 16 7) ∷ ordinary (adds 0 0 (1 ∷ [])) ∷ ordinary seals ∷ ordinary (adds 0 1 (2 ∷ []))
    ∷ ordinary seals ∷ ordinary (adds 0 2 (3 ∷ [])) ∷ ordinary seals
    ∷ ordinary (shows 0) ∷ ordinary (shows 1) ∷ ordinary (shows 2)
    -- the host's place, with frame 1 received ahead and a transaction open, is a text of 80 bytes: a buffer of 79 is
    -- refused, one of 80 is kept
    ∷ ordinary (receives 1) ∷ stores (replicate 79 0) ∷ stores (replicate 80 0)
    -- a repeat, card steps and refusals come between, and a return to what was not kept; then the host is back
    ∷ ordinary (receives 1) ∷ ordinary (reads 0) ∷ ordinary (adds 0 3 (4 ∷ [])) ∷ ordinary (shows 9)
    ∷ ordinary (receives 3) ∷ returns 1 ∷ returns 0
    -- the hole is filled; the host's place is stored again, in a longer buffer, and the host starts twice from it
    ∷ ordinary (receives 0) ∷ stores (replicate 90 0) ∷ returns 1 ∷ returns 1
    ∷ ordinary (receives 2) ∷ ordinary (receives 1) ∷ ordinary (reads 2) ∷ ordinary (reads 3) ∷ []

abbrev message : ℕ → List ℕ → MessageRecord
message at bytes = record { trans = 0; data_address = at; bytes = bytes }

abbrev run : ℕ → ℕ → AckRange
run first many = record { first = first; many = many }

-- What the book says of it.
written : Book
written = record {
  start = memory;
  transactions = record { count = 3; completion_address = 16; completion_value = 7; unfinished_at_opening = [] } ∷ [];
  frames =
      record { messages = message 0 (1 ∷ []) ∷ []; acknowledged = true; accepted = true }
      ∷ record { messages = message 1 (2 ∷ []) ∷ []; acknowledged = true; accepted = true }
      ∷ record { messages = message 2 (3 ∷ []) ∷ []; acknowledged = true; accepted = true } ∷ [];
  building = [];
  hand_outs = frame_copy 0 ∷ frame_copy 1 ∷ frame_copy 2 ∷ nothing_handed ∷ [];
  acks_due = run 1 1 ∷ run 1 1 ∷ run 0 2 ∷ run 2 1 ∷ run 1 2 ∷ [];
  expected =
      expect_accepted 1 (record { messages = 1; bytes = 1; completed = 0 }) 1
      ∷ expect_again 1 1
      ∷ expect_no_effect
      ∷ expect_accepted 0 (record { messages = 1; bytes = 1; completed = 0 }) 2
      ∷ expect_accepted 2 (record { messages = 1; bytes = 1; completed = 1 }) 1
      ∷ expect_again 1 2 ∷ [];
}

judged : T (judged_as (judge 36 specified_ends memory restarted) written)
unfolding restarting restarted written
judged = tt

-- Which storings and returns were refused: 19, and 15 for the return to nothing.
shown-are : restarts_in (showing 36 specified_ends memory restarted)
    ≡ (100 ∷ 19 ∷ []) ∷ (100 ∷ 0 ∷ []) ∷ (1 ∷ 15 ∷ []) ∷ (0 ∷ 0 ∷ [])
    ∷ (100 ∷ 0 ∷ []) ∷ (1 ∷ 0 ∷ []) ∷ (1 ∷ 0 ∷ []) ∷ []
unfolding restarting restarted restarts_in
shown-are = refl

book-is : booked 36 specified_ends memory restarted ≡ written
book-is = judged-book 36 specified_ends memory restarted written judged

holds : Guarantees (outcome_of (ended 36 specified_ends memory restarted))
    (booked 36 specified_ends memory restarted)
holds = judged-holds 36 specified_ends demand3-over-restarts memory restarted written judged

-- Each frame is accepted once over all restarts, and memory is as if there had been none.
answered : map seen_as (ended 36 specified_ends memory restarted).answers
    ≡ expect_accepted 1 (record { messages = 1; bytes = 1; completed = 0 }) 1
    ∷ expect_again 1 1
    ∷ expect_no_effect
    ∷ expect_accepted 0 (record { messages = 1; bytes = 1; completed = 0 }) 2
    ∷ expect_accepted 2 (record { messages = 1; bytes = 1; completed = 1 }) 1
    ∷ expect_again 1 2 ∷ []
unfolding written numbered_as
answered = holds.answers_match ∙ ap (λ (b : Book). map numbered_as b.expected) book-is

all_finished : (i : ℕ) → i < length written.transactions → finished written i ≡ true
unfolding written finished all_messages_in messages_in of_transaction leading needed
all_finished zero h = refl
all_finished (suc i) h = absurd (omega arith)

whole : WhenAllFinished (outcome_of (ended 36 specified_ends memory restarted))
    (booked 36 specified_ends memory restarted)
whole =
    holds.when_all_finished
    (subst (λ (b : Book). (i : ℕ) → i < length b.transactions → finished b i ≡ true) (sym book-is) all_finished)

completed-whole : complete_sum (ended 36 specified_ends memory restarted).answers ≡ 1
unfolding written
completed-whole = whole.complete_whole ∙ ap (λ (b : Book). length b.transactions) book-is

memory-whole : (ended 36 specified_ends memory restarted).memory
    ≡ 1 ∷ 2 ∷ 3 ∷ replicate 13 0 ++ 7 ∷ 0 ∷ 0 ∷ 0 ∷ []
unfolding written messages_in of_transaction data_writes completion_write little serial_writes perform serial_memory
memory-whole = whole.memory_in_turn ∙ ap serial_memory book-is

-- ---- ends that are not open

refused_both : List Call
refused_both = stores (replicate 47 0) ∷ returns 0 ∷ []

-- A host of a refused opening has IDs 0: storing it gets 13, nothing is kept, and there is nothing to return to. No
-- premise of the demand lets such a list in.
unopened : (restarts_in (shown_by specified_ends (initial_site specified_ends 0 0 36 [] memory) refused_both)
    ≡ (100 ∷ 13 ∷ []) ∷ (0 ∷ 15 ∷ []) ∷ [])
    × ((site_after specified_ends (initial_site specified_ends 0 0 36 [] memory) refused_both).kept ≡ [])
unfolding restarting restarts_in refused_both
unopened = (refl, refl)

-- ---- why nothing may be accepted between a storing and the return

-- The frame is accepted after the storing, so that the host that comes back accepts it once more.
out_of_date : List Call
out_of_date =
    ordinary (opens 2 0 1) ∷ ordinary (adds 0 4 (9 ∷ [])) ∷ ordinary seals ∷ ordinary (shows 0)
    ∷ stores (replicate 47 0) ∷ ordinary (receives 0) ∷ returns 0 ∷ ordinary (receives 0) ∷ []

-- It meets every premise but that one.
outdated : ((judge 36 specified_ends memory out_of_date).passed ≡ true)
    × ((judge 36 specified_ends memory out_of_date).current ≡ false)
unfolding restarting out_of_date
outdated = (refl, refl)

outdated-fails : Guarantees (outcome_of (ended 36 specified_ends memory out_of_date))
    (booked 36 specified_ends memory out_of_date)
    → ⊥
unfolding restarting out_of_date
outdated-fails g =
    let z : ◌≡◌ {A = ℕ} 2 1 = g.accepted_once 0 refl in
    omega arith
