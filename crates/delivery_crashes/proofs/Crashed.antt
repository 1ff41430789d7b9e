-- A list with four crashes and four storings, two of them refused: what it leaves, shows and lets survive, and that it
-- passes all premises. Assumes nothing.
use Prim.Native.Nat.{ℕ}
use mathlib.Core.Path.{◌≡◌, refl}
use mathlib.Core.Bool.{true}
use mathlib.Core.List.{List, [], ◌∷◌, ◌++◌}
use lib.Dec.{T}
use lib.ListN.{length, replicate}
use Rattle.delivery.specs.System.{Event, opens, adds, seals, reads, shows, receives}
use Rattle.delivery.specs.Book.{
  MessageRecord,
  nothing_handed,
  frame_copy,
  AckRange,
  expect_accepted,
  expect_again,
  Book,
}
use Rattle.delivery_restarts.specs.Restarts.{specified_ends}
use Rattle.delivery_crashes.specs.Crashes.{
  Call,
  ordinary,
  stores,
  crashes,
  Shown,
  shows_call,
  shows_storing,
  shows_crash,
  shows_read_undone,
}
use Rattle.delivery_crashes.specs.OverCrashes.{events_of}
use Rattle.delivery_crashes.proofs.Computing.{ended, showing, seeing, judge, judged_as, crashing}

abbrev pub memory : List ℕ
memory = replicate 20 0

-- ---- the list

until_second_crash : List Call
until_second_crash =
    ordinary (opens 3 16 7) ∷ ordinary (adds 0 0 (1 ∷ [])) ∷ ordinary seals ∷ ordinary (adds 0 1 (2 ∷ []))
    ∷ ordinary seals ∷ ordinary (adds 0 2 (3 ∷ [])) ∷ ordinary seals
    ∷ ordinary (shows 0) ∷ ordinary (shows 1) ∷ ordinary (shows 2)
    -- frame 1 arrives, and the host fails before anything was stored: it is as freshly opened
    ∷ ordinary (receives 1) ∷ crashes
    -- frame 0 arrives and is stored, in the second buffer: a text of 80 bytes does not fit into 79
    ∷ ordinary (receives 0) ∷ stores (replicate 79 0) ∷ stores (replicate 80 0)
    -- frames 1 and 2 arrive, so that all is complete, and frame 0 once more, whose run then covers all three; of the
    -- acknowledgements only the stored one is read, and a storing that is refused keeps nothing
    ∷ ordinary (receives 1) ∷ ordinary (receives 2) ∷ ordinary (receives 0) ∷ ordinary (reads 0)
    ∷ stores (replicate 10 0) ∷ []

pub crashed : List Call
crashed =
    until_second_crash
    -- the host fails, twice. The card has frame 0 released and the other two not: it sends them again
    ++ (crashes ∷ crashes ∷ ordinary (shows 0) ∷ ordinary (shows 1) ∷ ordinary (shows 2)
    ∷ ordinary (receives 4) ∷ ordinary (receives 5) ∷ ordinary (receives 2) ∷ stores (replicate 80 0)
    ∷ ordinary (reads 1) ∷ crashes ∷ ordinary (reads 3)
    -- there is no such acknowledgement; and an answer that is never stored, and never undone
    ∷ ordinary (reads 4) ∷ ordinary (receives 5) ∷ [])

-- ---- what it leaves and shows

-- The second crash undoes three answers of four, and what they wrote.
undone : (length (ended 36 specified_ends memory until_second_crash).answers ≡ 4)
    × ((ended 36 specified_ends memory until_second_crash).memory ≡ 1 ∷ 2 ∷ 3 ∷ replicate 13 0 ++ 7 ∷ 0 ∷ 0 ∷ 0 ∷ [])
    × (length (ended 36 specified_ends memory (until_second_crash ++ (crashes ∷ []))).answers ≡ 1)
    × ((ended 36 specified_ends memory (until_second_crash ++ (crashes ∷ []))).memory ≡ 1 ∷ replicate 19 0)
unfolding crashing until_second_crash
undone = (refl, refl, refl, refl)

-- The refusals of storings, and for each crash 100, which is no refusal.
unfoldable storings_in : List Shown → List ℕ
storings_in [] = []
storings_in (shows_call s ∷ ss) = storings_in ss
storings_in (shows_storing r ∷ ss) = r ∷ storings_in ss
storings_in (shows_crash ∷ ss) = 100 ∷ storings_in ss
storings_in (shows_read_undone ∷ ss) = storings_in ss

storings-are : storings_in (showing 36 specified_ends memory crashed)
    ≡ 100 ∷ 19 ∷ 0 ∷ 19 ∷ 100 ∷ 100 ∷ 0 ∷ 100 ∷ []
unfolding crashing until_second_crash crashed storings_in
storings-are = refl

-- The calls that survive: four arrivals of nine are undone.
pub survivors : List Event
survivors =
    opens 3 16 7 ∷ adds 0 0 (1 ∷ []) ∷ seals ∷ adds 0 1 (2 ∷ []) ∷ seals ∷ adds 0 2 (3 ∷ []) ∷ seals
    ∷ shows 0 ∷ shows 1 ∷ shows 2 ∷ receives 0 ∷ reads 0 ∷ shows 0 ∷ shows 1 ∷ shows 2
    ∷ receives 4 ∷ receives 5 ∷ receives 2 ∷ reads 1 ∷ reads 3 ∷ reads 4 ∷ receives 5 ∷ []

pub survivors-are : events_of (seeing 36 specified_ends memory crashed) ≡ survivors
unfolding crashing until_second_crash crashed survivors
survivors-are = refl

-- ---- its book

abbrev message : ℕ → List ℕ → MessageRecord
message at bytes = record { trans = 0; data_address = at; bytes = bytes }

abbrev due : ℕ → ℕ → AckRange
due first many = record { first = first; many = many }

-- What the book says of it: the first arrival of frame 1 and the three that came before the second crash are not in it.
unfoldable pub written : Book
written = record {
  start = memory;
  transactions = record { count = 3; completion_address = 16; completion_value = 7; unfinished_at_opening = [] } ∷ [];
  frames =
      record { messages = message 0 (1 ∷ []) ∷ []; acknowledged = true; accepted = true }
      ∷ record { messages = message 1 (2 ∷ []) ∷ []; acknowledged = true; accepted = true }
      ∷ record { messages = message 2 (3 ∷ []) ∷ []; acknowledged = true; accepted = true } ∷ [];
  building = [];
  hand_outs = frame_copy 0 ∷ frame_copy 1 ∷ frame_copy 2 ∷ nothing_handed ∷ frame_copy 1 ∷ frame_copy 2 ∷ [];
  acks_due = due 0 1 ∷ due 1 1 ∷ due 2 1 ∷ due 2 1 ∷ due 2 1 ∷ [];
  expected =
      expect_accepted 0 (record { messages = 1; bytes = 1; completed = 0 }) 1
      ∷ expect_accepted 1 (record { messages = 1; bytes = 1; completed = 0 }) 1
      ∷ expect_accepted 2 (record { messages = 1; bytes = 1; completed = 1 }) 1
      ∷ expect_again 2 1 ∷ expect_again 2 1 ∷ [];
}

pub judged : T (judged_as (judge 36 specified_ends memory crashed) written)
unfolding crashing until_second_crash crashed written
judged = tt
