-- The blocks of delivery_ledger/proofs/Lists/Worked.antt from a card among others at a table. Assumes nothing.
use Prim.Native.Nat.{ℕ}
use mathlib.Core.Path.{◌≡◌, refl}
use mathlib.Core.Bool.{Bool, ◌&&◌, and-eq-true_iff}
use mathlib.Core.List.{List, [], ◌∷◌, map}
use lib.Dec.{T, lit<}
use lib.ListN.{replicate, take, drop}
use Rattle.delivery.specs.System.{open_call, add_call, seal_call, read_call, show_call}
use Rattle.delivery.proofs.Lists.Same.{T_true}
use Rattle.delivery.proofs.Lists.Check.{slots_of}
use Rattle.table.specs.TableEnd.{specified_table}
use Rattle.table.specs.Calls.{Call, registers, removes, comes}
use Rattle.table.proofs.Worked.{frame}
use Rattle.delivery_table.specs.PerCard.{Action, of_card, arrives, rehoused, besides}
use Rattle.ledger.specs.Ledger.{empty, total_of}
use Rattle.ledger.specs.History.{after, sum_below, bytes_passed, last_of}
use Rattle.ledger.specs.Counted.{block_of, all_of, counts_of, true_bytes, all_true_bytes, ChargedAsTold}
use Rattle.delivery_ledger.specs.Blocks.{Act, does, takes, calls_of, Course, blocks_sent, blocks_read}
use Rattle.delivery_ledger.proofs.Lists.Check.{ready_after, ready-each-by}
use Rattle.delivery_ledger.proofs.Lists.Worked.{first, second, third, block, told, countable}
use Rattle.delivery_ledger_table.specs.PerCard.{table_course, ChargedPerCardFor}
use Rattle.delivery_ledger_table.proofs.PerCard.{charged-per-card}
use Rattle.delivery_ledger_table.proofs.Lists.Check.{keeps_to, keeps-by, at_table}

-- Card 3 has bytes 0 to 29; card 2 has 30 to 65.
earlier : List Call
earlier = registers 3 0 30 70 ∷ []

acts : List (Act Action)
acts =
    -- transaction 0 carries the first block at byte 0 of the region, transaction 1 the second at byte 16
    does (of_card (open_call 2 24 1)) ∷ does (of_card (add_call 0 6 (drop 6 (block_of first)))) ∷ does (of_card seal_call)
    ∷ does (of_card (open_call 1 28 1)) ∷ does (of_card (add_call 1 16 (block_of second))) ∷ does (of_card seal_call)
    ∷ does (of_card (add_call 0 0 (take 6 (block_of first)))) ∷ does (of_card seal_call)
    ∷ does (of_card (show_call 0)) ∷ does (of_card (show_call 1)) ∷ does (of_card (show_call 2))
    -- frames 1, 2 and 0 arrive, with a frame of card 3 between them, which writes at its own bytes 0 and 16
    ∷ does (arrives 1 70) ∷ does (arrives 2 66) ∷ does (besides (comes (frame 3 16 0) 70)) ∷ does (arrives 0 70)
    ∷ takes (block 0 0 first)
    -- card 3 is removed, and card 2's pair is taken out and adopted: it gets card 3's place in the table
    ∷ does (besides (removes 3)) ∷ does (rehoused 70) ∷ takes (block 1 16 second)
    -- the third block comes where the first was
    ∷ does (of_card (read_call 2)) ∷ does (of_card (open_call 1 32 1)) ∷ does (of_card (add_call 2 0 (block_of third)))
    ∷ does (of_card seal_call) ∷ does (of_card (show_call 3)) ∷ does (arrives 3 70) ∷ does (arrives 1 70)
    ∷ takes (block 2 0 third) ∷ []

abbrev zeros : List ℕ
zeros = replicate 70 0

abbrev site : Course Action
site = table_course specified_table 2 1 50 30 36 70 (slots_of 50) zeros earlier

abbrev kept : Bool
kept = keeps_to specified_table 2 1 50 30 36 70 (slots_of 50) zeros earlier (calls_of acts)

unfoldable delivers : Bool
delivers = kept && ready_after site [] acts

met : T delivers
unfolding at_table earlier acts delivers
met = tt

sent : blocks_sent acts ≡ map block_of told
unfolding acts told blocks_sent
sent = refl

charged : ChargedAsTold (blocks_read site acts) told
unfolding ChargedPerCardFor delivers
charged =
    let h = (and-eq-true_iff kept (ready_after site [] acts)).0 (T_true delivers met) in
    charged-per-card 2 1 50 30 36 70 (slots_of 50) zeros earlier acts told
    (keeps-by specified_table 2 1 50 30 36 70 (slots_of 50) zeros earlier (lit< tt) (lit< tt) (calls_of acts) h.0)
    (record { ready_each = ready-each-by site acts [] h.1; tells = sent; countable = countable })

seven-is-497 : total_of (after empty (blocks_read site acts)) 7 ≡ 497
unfolding told all_of counts_of true_bytes bytes_passed last_of
seven-is-497 = charged.charges.totals_are 7

sum-is-597 : (after empty (blocks_read site acts)).summary ≡ 597
unfolding told all_of counts_of true_bytes all_true_bytes sum_below bytes_passed last_of
sum-is-597 = charged.charges.summary_is
