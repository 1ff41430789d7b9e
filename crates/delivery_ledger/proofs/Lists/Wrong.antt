-- Why blocks are taken when they may be and in the order of counting, and why the ends have to meet demand 3: lists and
-- ends for which something else is charged. Assumes nothing.
use Prim.Native.Nat.{ℕ}
use native.Mathlib.Omega.{arith}
use mathlib.Core.Path.{◌≡◌, refl}
use mathlib.Core.List.{List, [], ◌∷◌}
use lib.Dec.{T}
use lib.ListN.{take, drop}
use Rattle.seq.specs.Ring.{distance}
use Rattle.octets.specs.Octets.{little, value, field}
use Rattle.delivery.specs.System.{Implementation, specified, Event, opens, adds, seals, reads, shows, receives}
use Rattle.delivery.specs.WrongEnds.{with_host, writes_first}
use Rattle.delivery.proofs.Lists.Check.{slots_of}
use Rattle.ledger.specs.Ledger.{empty, total_of, reading_at, readings_from, readings_of}
use Rattle.ledger.specs.Ledger.{charge, fault, entered, entered_all, all_or_nothing, taken}
use Rattle.ledger.specs.History.{after, bytes_passed, last_of, InStep, InStepFrom}
use Rattle.ledger.specs.Counted.{block_of, all_of, counts_of, true_bytes, Countable}
use Rattle.delivery_ledger.specs.Blocks.{Act, does, takes, blocks_after, blocks_read}
use Rattle.delivery_ledger.specs.Charged.{CountedIsChargedFor}
use Rattle.delivery_ledger.proofs.Lists.Check.{course_of, delivers, delivers-by}
use Rattle.delivery_ledger.proofs.Lists.Worked.{
  first,
  second,
  third,
  block,
  told,
  acts,
  memory,
  computing_acts,
  sent,
  countable,
}

-- What is charged to subscriber 7, of which 497 bytes were counted.
abbrev charged_to_seven : Implementation → List (Act Event) → ℕ
charged_to_seven e list = total_of (after empty (blocks_read (course_of 50 e memory) list)) 7

unfoldable pub charging : Unit {0}
unfolding computing_acts distance little value field reading_at readings_from readings_of charge fault entered entered_all
    all_or_nothing taken empty after blocks_after
charging = tt

right : charged_to_seven specified acts ≡ 497
unfolding charging
right = refl

-- ---- a block taken at another time

-- The calls of the list in Worked.antt up to the arrival of the first block's last frame, without that arrival; and
-- those from the acknowledgement on up to the arrival of the third block.
abbrev before : List (Act Event) → List (Act Event)
before rest =
    does (opens 2 24 1) ∷ does (adds 0 6 (drop 6 (block_of first))) ∷ does seals
    ∷ does (opens 1 28 1) ∷ does (adds 1 16 (block_of second)) ∷ does seals
    ∷ does (adds 0 0 (take 6 (block_of first))) ∷ does seals
    ∷ does (shows 0) ∷ does (shows 1) ∷ does (shows 2) ∷ does (shows 0)
    ∷ does (receives 1) ∷ does (receives 2) ∷ rest

abbrev between : List (Act Event) → List (Act Event)
between rest =
    does (reads 2) ∷ does (opens 1 32 1) ∷ does (adds 2 0 (block_of third)) ∷ does seals
    ∷ does (shows 3) ∷ does (shows 3) ∷ does (receives 5) ∷ does (receives 1) ∷ rest

-- The first block is taken before its transaction is complete: its end is still missing.
too_early : List (Act Event)
too_early =
    before (takes (block 0 0 first) ∷ does (receives 3) ∷ takes (block 1 16 second)
    ∷ between (takes (block 2 0 third) ∷ []))

-- The first block is taken after the third was written there.
too_late : List (Act Event)
too_late =
    before (does (receives 3)
    ∷ between (takes (block 0 0 first) ∷ takes (block 1 16 second) ∷ takes (block 2 0 third) ∷ []))

-- The second block, which is complete first, is taken before the first block, which was counted first.
out_of_order : List (Act Event)
out_of_order =
    before (takes (block 1 16 second) ∷ does (receives 3) ∷ takes (block 0 0 first)
    ∷ between (takes (block 2 0 third) ∷ []))

early-differs : charged_to_seven specified too_early ≡ 497 → ⊥
unfolding charging too_early
early-differs e = omega (arith, e)

late-differs : charged_to_seven specified too_late ≡ 497 → ⊥
unfolding charging too_late
late-differs e = omega (arith, e)

order-differs : charged_to_seven specified out_of_order ≡ 497 → ⊥
unfolding charging out_of_order
order-differs e = omega (arith, e)

-- The first two take a block when it may not be taken. The third takes each block when it may be, but the counts that
-- its blocks tell are not in step.
early-shut-out : T (delivers 50 specified memory too_early) → ⊥
unfolding computing_acts too_early
early-shut-out t = t

late-shut-out : T (delivers 50 specified memory too_late) → ⊥
unfolding computing_acts too_late
late-shut-out t = t

order-let-in : T (delivers 50 specified memory out_of_order)
unfolding computing_acts out_of_order
order-let-in = tt

out-of-step : Countable (all_of (second ∷ first ∷ third ∷ [])) → ⊥
unfolding all_of counts_of InStep InStepFrom
out-of-step c = omega (arith, (c.in_step 7).0)

-- ---- ends that do not meet demand 3

-- It answers as the rules say, but only its first frame is written.
first-met : T (delivers 50 (with_host writes_first) memory acts)
unfolding computing_acts writes_first
first-met = tt

not-writes_first : CountedIsChargedFor (with_host writes_first) → ⊥
unfolding CountedIsChargedFor charging writes_first counts_of true_bytes bytes_passed last_of
not-writes_first c =
    let k = delivers-by 50 (with_host writes_first) memory acts first-met in
    let z = (c 2 1 50 (slots_of 50) memory acts told k.premises
    (record { ready_each = k.ready_each; tells = sent; countable = countable })).charges.totals_are 7 in
    omega (arith, z)
