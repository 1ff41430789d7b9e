-- Why a store has to keep pairs also over crashes: a store for which something else is charged. Assumes nothing.
use native.Mathlib.Omega.{arith}
use mathlib.Core.Path.{◌≡◌, refl}
use mathlib.Core.List.{List, [], ◌∷◌, map}
use lib.Dec.{T}
use lib.ListN.{replicate}
use Rattle.delivery.specs.System.{receives}
use Rattle.delivery.proofs.Lists.Check.{slots_of}
use Rattle.delivery_restarts.specs.Restarts.{RestartEnds, with_store}
use Rattle.delivery_restarts.specs.WrongStores.{stores_what_fits}
use Rattle.delivery_crashes.specs.Crashes.{Call, ordinary, stores, crashes}
use Rattle.ledger.specs.History.{bytes_passed, last_of}
use Rattle.ledger.specs.Counted.{block_of, counts_of, true_bytes}
use Rattle.delivery_ledger.specs.Blocks.{Act, blocks_sent}
use Rattle.delivery_ledger.specs.OverCrashes.{
  ledger_left,
  ledger_kept,
  ledger_site_step,
  ledger_site_after,
  ChargedOverCrashesFor,
}
use Rattle.delivery_ledger.proofs.Lists.Worked.{told, countable}
use Rattle.delivery_ledger.proofs.Lists.Wrong.{charging}
use Rattle.delivery_ledger.proofs.Lists.Around.{around, roomy}
use Rattle.delivery_ledger.proofs.Lists.CrashCheck.{stands, delivers, delivers-by, crashing_acts}

-- Half of the first block is stored, in a buffer that is too short, and the host fails. It comes back as one of a
-- refused opening, and refuses the rest.
crashed : List (Act Call)
crashed = around ordinary (stores (replicate 79 0) ∷ crashes ∷ ordinary (receives 0) ∷ [])

abbrev cutting : RestartEnds
cutting = with_store stores_what_fits

unfoldable computing_list : Unit {0}
unfolding crashing_acts charging around crashed stores_what_fits ledger_left ledger_kept ledger_site_step ledger_site_after
computing_list = tt

cut-met : T (delivers 50 cutting roomy crashed)
unfolding computing_list
cut-met = tt

sent : blocks_sent (stands 50 cutting roomy crashed) ≡ map block_of told
unfolding computing_list
sent = refl

not-stores_what_fits : ChargedOverCrashesFor cutting → ⊥
unfolding ChargedOverCrashesFor computing_list counts_of true_bytes bytes_passed last_of
not-stores_what_fits c =
    let k = delivers-by 50 cutting roomy crashed cut-met in
    let z = (c 2 1 50 (slots_of 50) roomy crashed told k.both_open k.premises
    (record { ready_each = k.ready_each; tells = sent; countable = countable })).charges.totals_are 7 in
    omega (arith, z)
