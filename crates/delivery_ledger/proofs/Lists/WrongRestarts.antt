-- Why nothing may be accepted between a storing and the return to it, and why a store has to keep pairs: a list and a
-- store for which something else is charged. Assumes nothing.
use Prim.Native.Nat.{ℕ}
use native.Mathlib.Omega.{arith}
use mathlib.Core.Path.{◌≡◌, refl}
use mathlib.Core.Bool.{true, false}
use mathlib.Core.List.{List, [], ◌∷◌, map}
use lib.Dec.{T}
use lib.ListN.{replicate}
use Rattle.delivery.specs.System.{receives}
use Rattle.delivery.proofs.Lists.Check.{slots_of}
use Rattle.delivery_restarts.specs.Restarts.{
  RestartEnds,
  with_store,
  specified_ends,
  Call,
  ordinary,
  stores,
  returns,
}
use Rattle.delivery_restarts.specs.WrongStores.{stores_what_fits}
use Rattle.delivery_restarts.proofs.Computing.{judge}
use Rattle.ledger.specs.Ledger.{empty, total_of}
use Rattle.ledger.specs.History.{after, bytes_passed, last_of}
use Rattle.ledger.specs.Counted.{block_of, counts_of, true_bytes}
use Rattle.delivery_ledger.specs.Blocks.{Act, calls_of, blocks_sent, blocks_read}
use Rattle.delivery_ledger.specs.OverRestarts.{ChargedOverRestartsFor}
use Rattle.delivery_ledger.proofs.Lists.Worked.{told, countable}
use Rattle.delivery_ledger.proofs.Lists.Wrong.{charging}
use Rattle.delivery_ledger.proofs.Lists.Around.{around, roomy}
use Rattle.delivery_ledger.proofs.Lists.RestartCheck.{course_over, delivers, delivers-by, restarting_acts}

-- What is charged to subscriber 7, of which 497 bytes were counted.
abbrev charged_to_seven : List (Act Call) → ℕ
charged_to_seven list = total_of (after empty (blocks_read (course_over 50 specified_ends roomy) list)) 7

-- The host is stored and started again, with a buffer of so many bytes.
restarted : ℕ → List (Act Call)
restarted room = around ordinary (stores (replicate room 0) ∷ returns 0 ∷ ordinary (receives 0) ∷ [])

unfoldable computing_list : Unit {0}
unfolding restarting_acts charging around restarted
computing_list = tt

right : charged_to_seven (restarted 80) ≡ 497
unfolding computing_list
right = refl

-- ---- a return that undoes something

-- Frame 0 is accepted after the storing, and the return takes its bytes back.
undoing : List (Act Call)
undoing = around ordinary (stores (replicate 80 0) ∷ ordinary (receives 0) ∷ returns 0 ∷ [])

undoing-differs : charged_to_seven undoing ≡ 497 → ⊥
unfolding computing_list undoing
undoing-differs e = omega (arith, e)

-- Only the premise on returns shuts it out.
undoing-shut-out : ((judge 50 specified_ends roomy (calls_of undoing)).passed ≡ true)
    × ((judge 50 specified_ends roomy (calls_of undoing)).current ≡ false)
unfolding computing_list undoing
undoing-shut-out = (refl, refl)

-- ---- a store that cuts the text

-- It comes back as a host of a refused opening, and refuses the rest of the first block.
abbrev cutting : RestartEnds
cutting = with_store stores_what_fits

cut-met : T (delivers 50 cutting roomy (restarted 79))
unfolding computing_list stores_what_fits
cut-met = tt

sent : blocks_sent (restarted 79) ≡ map block_of told
unfolding restarted around told blocks_sent
sent = refl

not-stores_what_fits : ChargedOverRestartsFor cutting → ⊥
unfolding ChargedOverRestartsFor computing_list stores_what_fits counts_of true_bytes bytes_passed last_of
not-stores_what_fits c =
    let k = delivers-by 50 cutting roomy (restarted 79) cut-met in
    let z = (c 2 1 50 (slots_of 50) roomy (restarted 79) told k.premises
    (record { ready_each = k.ready_each; tells = sent; countable = countable })).charges.totals_are 7 in
    omega (arith, z)
