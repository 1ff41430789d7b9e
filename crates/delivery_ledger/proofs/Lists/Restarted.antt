-- The list of Worked.antt with two restarts of the host in it. Assumes nothing.
use mathlib.Core.Path.{◌≡◌, refl}
use mathlib.Core.List.{List, [], ◌∷◌, map}
use lib.Dec.{T}
use lib.ListN.{replicate, take, drop}
use Rattle.delivery.specs.System.{opens, adds, seals, reads, shows, receives}
use Rattle.delivery.proofs.Lists.Check.{slots_of}
use Rattle.delivery_restarts.specs.Restarts.{specified_ends, Call, ordinary, stores, returns}
use Rattle.ledger.specs.Ledger.{empty, total_of}
use Rattle.ledger.specs.History.{after, bytes_passed, last_of}
use Rattle.ledger.specs.Counted.{block_of, all_of, counts_of, true_bytes, ChargedAsTold}
use Rattle.delivery_ledger.specs.Blocks.{Act, does, takes, Course, blocks_sent, blocks_read}
use Rattle.delivery_ledger.specs.OverRestarts.{ChargedOverRestartsFor}
use Rattle.delivery_ledger.proofs.OverRestarts.{charged-over-restarts}
use Rattle.delivery_ledger.proofs.Lists.Worked.{first, second, third, block, told, memory, countable}
use Rattle.delivery_ledger.proofs.Lists.RestartCheck.{course_over, delivers, delivers-by, restarting_acts}

acts : List (Act Call)
acts =
    does (ordinary (opens 2 24 1)) ∷ does (ordinary (adds 0 6 (drop 6 (block_of first)))) ∷ does (ordinary seals)
    ∷ does (ordinary (opens 1 28 1)) ∷ does (ordinary (adds 1 16 (block_of second))) ∷ does (ordinary seals)
    ∷ does (ordinary (adds 0 0 (take 6 (block_of first)))) ∷ does (ordinary seals)
    ∷ does (ordinary (shows 0)) ∷ does (ordinary (shows 1)) ∷ does (ordinary (shows 2)) ∷ does (ordinary (shows 0))
    -- when half of the first block has arrived, the host is stored and started again; a repeat arrives between the two
    ∷ does (ordinary (receives 1)) ∷ does (ordinary (receives 2)) ∷ does (stores (replicate 80 0))
    ∷ does (ordinary (receives 2)) ∷ does (returns 0) ∷ does (ordinary (receives 3))
    -- and the host is started again between the takings of two blocks
    ∷ does (stores (replicate 80 0)) ∷ takes (block 0 0 first) ∷ does (returns 1) ∷ takes (block 1 16 second)
    ∷ does (ordinary (reads 3)) ∷ does (ordinary (opens 1 32 1)) ∷ does (ordinary (adds 2 0 (block_of third)))
    ∷ does (ordinary seals) ∷ does (ordinary (shows 3)) ∷ does (ordinary (shows 3)) ∷ does (ordinary (receives 5))
    ∷ does (ordinary (receives 1)) ∷ takes (block 2 0 third) ∷ []

abbrev site : Course Call
site = course_over 50 specified_ends memory

met : T (delivers 50 specified_ends memory acts)
unfolding restarting_acts acts
met = tt

sent : blocks_sent acts ≡ map block_of told
unfolding acts told blocks_sent
sent = refl

charged : ChargedAsTold (blocks_read site acts) told
unfolding ChargedOverRestartsFor
charged =
    let k = delivers-by 50 specified_ends memory acts met in
    charged-over-restarts 2 1 50 (slots_of 50) memory acts told k.premises
    (record { ready_each = k.ready_each; tells = sent; countable = countable })

seven-is-497 : total_of (after empty (blocks_read site acts)) 7 ≡ 497
unfolding told all_of counts_of true_bytes bytes_passed last_of
seven-is-497 = charged.charges.totals_are 7
