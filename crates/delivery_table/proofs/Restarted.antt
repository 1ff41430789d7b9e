-- A worked list with restarts of the whole table in it, which meets every premise of demand 3 per card over restarts.
-- Assumes nothing.
use Prim.Native.Nat.{ℕ}
use mathlib.Core.Path.{◌≡◌, refl}
use mathlib.Core.List.{List, [], ◌∷◌, ◌++◌, map}
use lib.Dec.{lit<}
use lib.ListN.{replicate}
use Rattle.host.specs.Host.{fresh}
use Rattle.delivery.specs.System.{open_call, add_call, seal_call, read_call, show_call}
use Rattle.delivery.specs.Book.{expect_accepted, expect_again, Book, book_of}
use Rattle.delivery.specs.Demand3.{seen_as, Guarantees, complete_sum}
use Rattle.delivery.proofs.Lists.Check.{slots₀, allowed-by}
use Rattle.delivery_restarts.specs.Restarts.{specified_store}
use Rattle.delivery_restarts.specs.OverRestarts.{observations_in}
use Rattle.delivery_restarts.proofs.Computing.{restarting}
use Rattle.delivery_restarts.proofs.Worked.{restarts_in}
use Rattle.table.specs.Table.{Entry, Table, TableStep, entry_of, region}
use Rattle.table.specs.Reopening.{adopt_all, reopened_with}
use Rattle.table.specs.Calls.{registers, adopts, removes, comes, Site, open_site, site_step, site_after}
use Rattle.table.proofs.Worked.{frame}
use Rattle.delivery_table.specs.PerCard.{of_card, arrives, besides, begin, outcome_in}
use Rattle.delivery_table.specs.Restarts.{
  specified_storing,
  Turn,
  ordinary,
  stores,
  leaves,
  reopens,
  returns,
  KeptScene,
  kept_by,
  returned_for,
  return_refusal,
  turn_for,
  after_turns,
  shown_by_turns,
  turn_events,
  needs_card,
  allowed_turns,
}
use Rattle.delivery_table.specs.WholeTable.{through_text}
use Rattle.delivery_table.specs.OverRestarts.{PerCardOverRestartsFor}
use Rattle.delivery_table.proofs.Worked.{running}
use Rattle.delivery_table.proofs.OverRestarts.{per-card-over-restarts}

-- One name that unfolds every definition that the lists below run through.
unfoldable pub resuming : Unit {0}
unfolding running restarting kept_by returned_for return_refusal turn_for after_turns shown_by_turns turn_events needs_card
    allowed_turns PerCardOverRestartsFor
resuming = tt

-- Card 3 has bytes 0 to 29 of 64, and card 2 comes with bytes 30 to 49.
abbrev pub before : Site
before = site_after (open_site 1 (replicate 64 0)) (registers 3 0 30 64 ∷ [])

abbrev pub started : KeptScene
started = record { scene = begin 2 1 64 slots₀ (site_step before (registers 2 30 20 64)); kept = [] }

-- ---- a list

-- A transaction of two messages in a frame each, completion 7 at byte 16 of the region; both frames are handed out.
unfoldable pub sent : List Turn → List Turn
sent xs =
    ordinary (of_card (open_call 2 16 7)) ∷ ordinary (of_card (add_call 0 0 (1 ∷ 2 ∷ []))) ∷ ordinary (of_card seal_call)
    ∷ ordinary (of_card (add_call 0 2 (3 ∷ []))) ∷ ordinary (of_card seal_call)
    ∷ ordinary (of_card (show_call 0)) ∷ ordinary (of_card (show_call 1)) ∷ xs

-- Memory as the machine has it after the restart: shorter, and as it was only in the card's region.
unfoldable pub memory' : List ℕ
memory' = replicate 30 9 ++ 1 ∷ 2 ∷ replicate 18 0 ++ replicate 10 9

restarted : List Turn
restarted =
    sent
    -- the card's pair, with a transaction open, is a text of 80 bytes: a buffer of 79 is refused, one of 80 is kept
    (ordinary (arrives 0 64) ∷ stores (replicate 79 0) ∷ stores (replicate 80 0)
    -- a repeat, and a frame of card 3; then the table is opened anew
    ∷ ordinary (arrives 0 64) ∷ ordinary (besides (comes (frame 3 16 0) 64)) ∷ reopens memory'
    -- card 4 comes, and its frame; card 3 comes back elsewhere; card 2 reads an acknowledgement
    ∷ ordinary (besides (registers 4 0 30 60)) ∷ ordinary (besides (comes (frame 4 16 0) 60))
    ∷ ordinary (besides (adopts (fresh 1 3) 50 10 60)) ∷ ordinary (of_card (read_call 0))
    -- the pair is back, lent just enough, at the third place; once more after a removal, and after a second opening
    ∷ returns 0 50 ∷ leaves ∷ returns 0 60 ∷ reopens memory' ∷ returns 0 60
    -- frame 0 comes again, and frame 1 for the first time
    ∷ ordinary (arrives 0 60) ∷ ordinary (arrives 1 60) ∷ ordinary (of_card (read_call 3)) ∷ [])

abbrev book : Book
book = book_of (region 30 20 before.memory) (observations_in (shown_by_turns specified_storing started restarted))

holds : Guarantees (outcome_in 30 20 (after_turns specified_storing started restarted).scene) book
unfolding resuming sent restarted memory'
holds =
    per-card-over-restarts 2 1 64 30 20 64 slots₀ (replicate 64 0) (registers 3 0 30 64 ∷ []) restarted (lit< tt)
    (lit< tt) refl refl refl ((refl, refl), ((refl, refl), ((refl, refl), tt))) refl refl refl (allowed-by book refl)

-- What storings and returns are told: 19 and 0, and the returns nothing.
told : restarts_in (shown_by_turns specified_storing started restarted)
    ≡ (100 ∷ 19 ∷ []) ∷ (100 ∷ 0 ∷ []) ∷ (0 ∷ 0 ∷ []) ∷ (0 ∷ 0 ∷ []) ∷ (0 ∷ 0 ∷ []) ∷ []
unfolding resuming sent restarted memory' restarts_in
told = refl

-- What the theorem says of it: each frame is accepted once, and the region is as if there had been no restart.
said : map seen_as (after_turns specified_storing started restarted).scene.answers
    ≡ expect_accepted 0 (record { messages = 1; bytes = 2; completed = 0 }) 1
    ∷ expect_again 0 1 ∷ expect_again 0 1
    ∷ expect_accepted 1 (record { messages = 1; bytes = 1; completed = 1 }) 1 ∷ []
unfolding resuming sent restarted memory'
said = holds.answers_match

whole : (complete_sum (after_turns specified_storing started restarted).scene.answers ≡ 1)
    × (region 30 20 (after_turns specified_storing started restarted).scene.site.memory
    ≡ 1 ∷ 2 ∷ 3 ∷ replicate 13 0 ++ 7 ∷ 0 ∷ 0 ∷ 0 ∷ [])
unfolding resuming sent restarted memory'
whole = (holds.complete_agree, holds.memory_agrees)

-- ---- the whole table

-- Card 4 has the place that card 3 had, and card 2, with a frame accepted, the second one.
cards : Table
cards =
    (site_after before (registers 2 30 20 64 ∷ comes (frame 2 8 0) 64 ∷ removes 3 ∷ registers 4 0 10 64 ∷ [])).table

abbrev opened-anew : TableStep
opened-anew = reopened_with cards (map (λ e. through_text specified_store cards (replicate 80 0) e) cards.entries) 64

-- Both cards are back from their texts, card 2 with its frame accepted.
all_there : (opened-anew.refusal ≡ 0)
    × (map (λ (e : Entry). e.source) opened-anew.table.entries ≡ 4 ∷ 2 ∷ replicate 14 0)
    × ((entry_of opened-anew.table 2).pair.next.0 ≡ 1)
unfolding resuming cards through_text adopt_all
all_there = (refl, refl, refl)
