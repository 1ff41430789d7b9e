-- The blocks of Worked.antt with three power failures of the host: one crash undoes two takings, another undoes one,
-- and all three blocks are charged once. Assumes nothing.
use Prim.Native.Nat.{ℕ}
use native.Mathlib.Omega.{arith}
use mathlib.Core.Path.{◌≡◌, refl}
use mathlib.Core.List.{List, [], ◌∷◌, ◌++◌, map}
use lib.Dec.{T}
use lib.ListN.{replicate, take, drop}
use Rattle.delivery.specs.System.{Event, opens, adds, seals, reads, shows, receives}
use Rattle.delivery.proofs.Lists.Check.{slots_of}
use Rattle.delivery_restarts.specs.Restarts.{specified_ends}
use Rattle.delivery_crashes.specs.Crashes.{Call, ordinary, stores, crashes}
use Rattle.ledger.specs.Ledger.{empty, total_of}
use Rattle.ledger.specs.History.{after, bytes_passed, last_of}
use Rattle.ledger.specs.Counted.{block_of, all_of, counts_of, true_bytes}
use Rattle.delivery_ledger.specs.Blocks.{Act, does, takes, blocks_sent, blocks_read}
use Rattle.delivery_ledger.specs.OverCrashes.{
  LedgerSite,
  ledger_left,
  ledger_kept,
  ledger_site_step,
  ledger_site_after,
  open_ledger_site,
  ChargedAtSite,
  ChargedOverCrashesFor,
}
use Rattle.delivery_ledger.proofs.OverCrashes.{charged-over-crashes}
use Rattle.delivery_ledger.proofs.Lists.Worked.{first, second, third, block, told, memory, countable}
use Rattle.delivery_ledger.proofs.Lists.Wrong.{charging}
use Rattle.delivery_ledger.proofs.Lists.CrashCheck.{
  from,
  course_over,
  stands,
  delivers,
  delivers-by,
  crashing_acts,
}

-- ---- the list

abbrev call : Event → Act Call
call x = does (ordinary x)

until_first_crash : List (Act Call)
until_first_crash =
    call (opens 2 24 1) ∷ call (adds 0 6 (drop 6 (block_of first))) ∷ call seals
    ∷ call (opens 1 28 1) ∷ call (adds 1 16 (block_of second)) ∷ call seals
    ∷ call (adds 0 0 (take 6 (block_of first))) ∷ call seals
    ∷ call (shows 0) ∷ call (shows 1) ∷ call (shows 2)
    -- both blocks are complete and taken, and a storing is refused: its buffer is too short
    ∷ call (receives 1) ∷ call (receives 2) ∷ call (receives 0)
    ∷ takes (block 0 0 first) ∷ takes (block 1 16 second) ∷ does (stores (replicate 10 0)) ∷ []

until_second_crash : List (Act Call)
until_second_crash =
    -- the card sends all again; the first block is stored as taken, the second is not
    call (shows 0) ∷ call (shows 1) ∷ call (shows 2)
    ∷ call (receives 4) ∷ call (receives 5) ∷ call (receives 3)
    ∷ takes (block 0 0 first) ∷ does (stores (replicate 80 0)) ∷ takes (block 1 16 second) ∷ []

acts : List (Act Call)
acts =
    until_first_crash
    ++ (does crashes ∷ until_second_crash
    -- the second block is in the memory that comes back, and is taken again
    ++ (does crashes ∷ takes (block 1 16 second)
    -- the stored acknowledgement of all three frames is read; the third block comes where the first was
    ∷ call (reads 2) ∷ call (opens 1 32 1) ∷ call (adds 2 0 (block_of third)) ∷ call seals
    ∷ call (shows 3) ∷ call (receives 6) ∷ takes (block 2 0 third) ∷ does (stores (replicate 80 0))
    ∷ does crashes ∷ []))

unfoldable computing_list : Unit {0}
unfolding crashing_acts until_first_crash until_second_crash acts
computing_list = tt

met : T (delivers 50 specified_ends memory acts)
unfolding computing_list
met = tt

-- Three takings of six survive.
sent : blocks_sent (stands 50 specified_ends memory acts) ≡ map block_of told
unfolding computing_list
sent = refl

-- ---- what the theorem then says

abbrev left : List (Act Call) → LedgerSite
left list = ledger_site_after specified_ends (open_ledger_site (from 50 specified_ends memory)) list

abbrev read : List (List ℕ)
read = blocks_read (course_over 50 specified_ends memory) (stands 50 specified_ends memory acts)

charged : ChargedAtSite (left acts) read told
unfolding ChargedOverCrashesFor
charged =
    let k = delivers-by 50 specified_ends memory acts met in
    charged-over-crashes 2 1 50 (slots_of 50) memory acts told k.both_open k.premises
    (record { ready_each = k.ready_each; tells = sent; countable = countable })

seven-is-497 : total_of (left acts).ledger 7 ≡ 497
unfolding told all_of counts_of true_bytes bytes_passed last_of
seven-is-497 = charged.charges.totals_are 7

-- ---- what a crash brings back

unfoldable with_ledger : Unit {0}
unfolding computing_list charging ledger_left ledger_kept ledger_site_step ledger_site_after
with_ledger = tt

undone : (total_of (left until_first_crash).ledger 7 ≡ 496)
    × (total_of (left (until_first_crash ++ (does crashes ∷ []))).ledger 7 ≡ 0)
unfolding with_ledger
undone = (refl, refl)

-- Why the ledger is stored with the host's record: one that outlived the crashes would have all six takings in it, with
-- readings that come late, and would charge otherwise.
outliving-differs : total_of (after empty (blocks_read (course_over 50 specified_ends memory) acts)) 7 ≡ 497 → ⊥
unfolding with_ledger
outliving-differs e = omega (arith, e)
