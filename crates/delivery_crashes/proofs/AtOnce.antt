-- Why no acknowledgement may leave the host before its answer is stored: lists that meet every premise but that one,
-- after which the card has released a frame that no answer accepts any more. Assumes nothing.
use Prim.Native.Nat.{ℕ}
use native.Mathlib.Omega.{arith}
use mathlib.Core.Path.{◌≡◌, refl}
use mathlib.Core.Bool.{true, false}
use mathlib.Core.List.{List, [], ◌∷◌, ◌++◌, map}
use lib.Dec.{lit<}
use lib.ListN.{replicate}
use Rattle.delivery.specs.System.{opens, adds, seals, reads, shows, receives}
use Rattle.delivery.specs.Book.{nothing_handed, frame_copy, expect_accepted, expect_again}
use Rattle.delivery.specs.Demand3.{outcome_of, seen_as, Guarantees}
use Rattle.delivery_restarts.specs.Restarts.{specified_ends}
use Rattle.delivery_crashes.specs.Crashes.{Call, ordinary, stores, crashes, reads_undone}
use Rattle.delivery_crashes.specs.OverCrashes.{reads_only_kept}
use Rattle.delivery_crashes.proofs.Computing.{from, ended, booked, judge, crashing}

abbrev pub memory : List ℕ
memory = replicate 10 0

-- Every premise holds but the one on acknowledgements.
record OnlyReadsEarly (list : List Call) : Type 0 where
  others_hold : (judge 36 specified_ends memory list).passed ≡ true
  reads_early : reads_only_kept specified_ends (from 36 specified_ends memory) list ≡ false

-- ---- "accepted" is acknowledged at once

-- The frame is accepted, the card reads the acknowledgement and releases it, and the host fails before it has stored.
-- Shown once more, the frame is not there.
too_early : List Call
too_early =
    ordinary (opens 2 0 1) ∷ ordinary (adds 0 4 (9 ∷ [])) ∷ ordinary seals ∷ ordinary (shows 0)
    ∷ ordinary (receives 0) ∷ ordinary (reads 0) ∷ crashes ∷ ordinary (shows 0) ∷ ordinary (receives 1) ∷ []

too_early-passes : OnlyReadsEarly too_early
unfolding crashing too_early
too_early-passes = record { others_hold = refl; reads_early = refl }

too_early-gone : (booked 36 specified_ends memory too_early).hand_outs ≡ frame_copy 0 ∷ nothing_handed ∷ []
unfolding crashing too_early
too_early-gone = refl

too_early-fails : Guarantees (outcome_of (ended 36 specified_ends memory too_early))
    (booked 36 specified_ends memory too_early) → ⊥
unfolding crashing too_early
too_early-fails g =
    let z : ◌≡◌ {A = ℕ} 0 1 = g.released_accepted 0 (lit< tt) in
    omega arith

-- The same where the acknowledgement is on its way when the host fails, and is read after that.
on_its_way : List Call
on_its_way =
    ordinary (opens 2 0 1) ∷ ordinary (adds 0 4 (9 ∷ [])) ∷ ordinary seals ∷ ordinary (shows 0)
    ∷ ordinary (receives 0) ∷ crashes ∷ reads_undone 0 ∷ []

on_its_way-passes : OnlyReadsEarly on_its_way
unfolding crashing on_its_way
on_its_way-passes = record { others_hold = refl; reads_early = refl }

on_its_way-fails : Guarantees (outcome_of (ended 36 specified_ends memory on_its_way))
    (booked 36 specified_ends memory on_its_way) → ⊥
unfolding crashing on_its_way
on_its_way-fails g =
    let z : ◌≡◌ {A = ℕ} 0 1 = g.released_accepted 0 (lit< tt) in
    omega arith

-- ---- only "again" is acknowledged at once

-- Frame 0 is stored. Frame 1 is accepted, and neither stored nor acknowledged. A copy of frame 0 comes again: its run
-- covers frame 1 too.
until_again : List Call
until_again =
    ordinary (opens 3 0 1) ∷ ordinary (adds 0 4 (9 ∷ [])) ∷ ordinary seals ∷ ordinary (adds 0 5 (9 ∷ []))
    ∷ ordinary seals ∷ ordinary (shows 0) ∷ ordinary (shows 1)
    ∷ ordinary (receives 0) ∷ stores (replicate 80 0) ∷ ordinary (receives 1) ∷ ordinary (receives 0) ∷ []

until_again-says : map seen_as (ended 36 specified_ends memory until_again).answers
    ≡ expect_accepted 0 (record { messages = 1; bytes = 1; completed = 0 }) 1
    ∷ expect_accepted 1 (record { messages = 1; bytes = 1; completed = 0 }) 1
    ∷ expect_again 0 2 ∷ []
unfolding crashing until_again
until_again-says = refl

-- The card reads its acknowledgement, and releases both. The host fails, and frame 1 is not there any more.
again_early : List Call
again_early = until_again ++ (ordinary (reads 2) ∷ crashes ∷ ordinary (shows 1) ∷ ordinary (receives 2) ∷ [])

again_early-passes : OnlyReadsEarly again_early
unfolding crashing until_again again_early
again_early-passes = record { others_hold = refl; reads_early = refl }

again_early-gone : (booked 36 specified_ends memory again_early).hand_outs
    ≡ frame_copy 0 ∷ frame_copy 1 ∷ nothing_handed ∷ []
unfolding crashing until_again again_early
again_early-gone = refl

again_early-fails : Guarantees (outcome_of (ended 36 specified_ends memory again_early))
    (booked 36 specified_ends memory again_early) → ⊥
unfolding crashing until_again again_early
again_early-fails g =
    let z : ◌≡◌ {A = ℕ} 0 1 = g.released_accepted 1 (lit< tt) in
    omega arith
