-- A worked list that meets the premises of demand 3 per card, with what the theorem gives for it.
-- Assumes nothing.
use Prim.Native.Nat.{ℕ}
use mathlib.Core.Path.{◌≡◌, refl}
use mathlib.Core.List.{List, [], ◌∷◌, ◌++◌, map}
use lib.Dec.{lit<}
use lib.ListN.{replicate}
use Rattle.delivery.specs.System.{open_call, add_call, seal_call, read_call, show_call, choose_call}
use Rattle.delivery.specs.Book.{expect_accepted, expect_again, expect_no_effect, Book, book_of}
use Rattle.delivery.specs.Demand3.{seen_as, Guarantees, bytes_sum}
use Rattle.delivery.proofs.Lists.Check.{slots₀, allowed-by}
use Rattle.delivery.proofs.Lists.Computing.{computing}
use Rattle.table.specs.Table.{region}
use Rattle.table.specs.Adopting.{take_out, adopt_refusal, adopt}
use Rattle.table.specs.Calls.{Call, registers, removes, comes, Site, open_site, site_step, site_after}
use Rattle.table.proofs.Worked.{computed, header, frame}
use Rattle.delivery_table.specs.PerCard.{
  Action,
  of_card,
  arrives,
  rehoused,
  besides,
  own_events,
  SceneRun,
  on_card,
  act,
  leaves_alone,
  allowed,
  begin,
  outcome_in,
  acks_to_for,
  on_table_for,
  rehoused_site_for,
  act_for,
  Demand3PerCardFor,
}
use Rattle.delivery_table.proofs.PerCard.{per-card}

-- One name that unfolds every definition that the list below runs through.
unfoldable pub running : Unit {0}
unfolding computing computed take_out adopt_refusal adopt own_events rehoused_site_for on_card acks_to_for on_table_for act_for
    leaves_alone allowed Demand3PerCardFor
running = tt

-- ---- demand 3 for card 2, among others

-- Card 2 was there before, elsewhere; card 3 has bytes 0 to 29.
earlier : List Call
earlier = registers 2 40 10 64 ∷ removes 2 ∷ registers 3 0 30 64 ∷ []

abbrev zeros : List ℕ
zeros = replicate 64 0

-- From its registering on: bytes 30 to 49.
actions : List Action
actions =
    -- a transaction of two messages in a frame each, completion 7 at byte 16 of its region
    of_card (open_call 2 16 7) ∷ of_card (add_call 0 0 (1 ∷ 2 ∷ [])) ∷ of_card seal_call ∷ of_card (add_call 0 2 (3 ∷ []))
    ∷ of_card seal_call ∷ of_card (show_call 0) ∷ of_card (show_call 1)
    -- a frame of card 3, which writes at its own bytes 0 and 16; card 4 comes; bytes that are nobody's
    ∷ besides (comes (frame 3 16 0) 64) ∷ besides (registers 4 50 14 64) ∷ besides (comes (1 ∷ []) 0)
    -- frame 1 first, with just enough of the memory lent, then frame 0, and frame 0 once more
    ∷ arrives 1 50 ∷ arrives 0 64 ∷ arrives 0 64
    -- the card's ID cannot be registered twice; card 3 goes; a frame of card 4 that is refused
    ∷ besides (registers 2 60 1 64) ∷ besides (removes 3) ∷ besides (comes (frame 4 16 0) 64)
    -- its pair is taken out and adopted: it is at another place then, the one that card 3 had
    ∷ rehoused 64
    -- a lent acknowledgement with card 4's ID on it goes out, and reaches the table
    ∷ of_card (choose_call (header 1 4 0)) ∷ arrives 2 64
    -- both frames are acknowledged
    ∷ of_card (read_call 0) ∷ of_card (read_call 1) ∷ []

abbrev before : Site
before = site_after (open_site 1 zeros) earlier

abbrev ran : SceneRun
ran = act (begin 2 1 64 slots₀ (site_step before (registers 2 30 20 64))) actions

abbrev book : Book
book = book_of (region 30 20 before.memory) ran.observations

holds : Guarantees (outcome_in 30 20 ran.scene) book
unfolding running earlier actions
holds = per-card 2 1 64 30 20 64 slots₀ zeros earlier actions (lit< tt) (lit< tt) refl refl refl refl refl
    (allowed-by book refl)

-- What the theorem says of it: the answers, three bytes of data, and the region as if only this card had run.
said : map seen_as ran.scene.answers
    ≡ expect_accepted 1 (record { messages = 1; bytes = 1; completed = 0 }) 1
    ∷ expect_accepted 0 (record { messages = 1; bytes = 2; completed = 1 }) 2
    ∷ expect_again 0 2 ∷ expect_no_effect ∷ []
unfolding running earlier actions
said = holds.answers_match

whole : (bytes_sum ran.scene.answers ≡ 3)
    × (region 30 20 ran.scene.site.memory ≡ 1 ∷ 2 ∷ 3 ∷ replicate 13 0 ++ 7 ∷ 0 ∷ 0 ∷ 0 ∷ [])
unfolding running earlier actions
whole = (holds.bytes_agree, holds.memory_agrees)
