-- What demand 3 over crashes shuts out: for each wrong store a list that meets the premises, where the conclusion is
-- false. Assumes nothing.
use Prim.Native.Nat.{ℕ}
use native.Mathlib.Omega.{arith}
use mathlib.Core.Path.{◌≡◌, refl, ap}
use mathlib.Core.List.{List, [], ◌∷◌}
use lib.ListN.{get_or, replicate}
use Rattle.delivery.specs.System.{opens, adds, seals, shows, receives}
use Rattle.delivery.specs.Book.{Expected, expect_no_effect}
use Rattle.delivery.proofs.Wrong.Excluded.{kind}
use Rattle.delivery_restarts.specs.Restarts.{with_store}
use Rattle.delivery_restarts.specs.WrongStores.{stores_what_fits, with_restoring, rereads, comes_fresh}
use Rattle.delivery_crashes.specs.Crashes.{Call, ordinary, stores, crashes}
use Rattle.delivery_crashes.specs.OverCrashes.{OverCrashesFor}
use Rattle.delivery_crashes.proofs.Computing.{applied, crashing}
use Rattle.delivery_crashes.proofs.AtOnce.{memory}

-- The frame is accepted and stored; the host fails; the frame comes once more.
comes_again : ℕ → List Call
comes_again buffer =
    ordinary (opens 2 0 1) ∷ ordinary (adds 0 4 (9 ∷ [])) ∷ ordinary seals ∷ ordinary (shows 0)
    ∷ ordinary (receives 0) ∷ stores (replicate buffer 0) ∷ crashes ∷ ordinary (receives 0) ∷ []

-- The host comes back as freshly opened, and accepts it twice.
not-comes_fresh : OverCrashesFor (with_store (with_restoring (rereads comes_fresh))) → ⊥
unfolding crashing comes_again rereads comes_fresh
not-comes_fresh d =
    let z : ◌≡◌ {A = ℕ} 2 1 = (applied 36 _ d memory (comes_again 80) tt).accepted_once 0 refl in
    omega arith

-- The text is cut short: the host comes back as one of a refused opening, and refuses it.
not-stores_what_fits : OverCrashesFor (with_store stores_what_fits) → ⊥
unfolding crashing comes_again stores_what_fits kind
not-stores_what_fits d =
    let z : ◌≡◌ {A = ℕ} 3 2 =
    ap (λ (xs : List Expected). kind (get_or xs 1 expect_no_effect))
    (applied 36 _ d memory (comes_again 79) tt).answers_match in
    omega arith

-- The text is cut behind its first line, and reads as that of a host without the open transaction: the second message
-- opens it anew, and it is never complete.
completed_after : List Call
completed_after =
    ordinary (opens 2 0 1) ∷ ordinary (adds 0 4 (9 ∷ [])) ∷ ordinary seals ∷ ordinary (adds 0 5 (9 ∷ []))
    ∷ ordinary seals ∷ ordinary (shows 0) ∷ ordinary (shows 1)
    ∷ ordinary (receives 0) ∷ stores (replicate 47 0) ∷ crashes ∷ ordinary (receives 1) ∷ []

not-stores_first_line : OverCrashesFor (with_store stores_what_fits) → ⊥
unfolding crashing completed_after stores_what_fits
not-stores_first_line d =
    let z : ◌≡◌ {A = ℕ} 0 1 = (applied 36 _ d memory completed_after tt).complete_agree in
    omega arith
