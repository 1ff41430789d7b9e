-- What demand 3 over restarts shuts out: for each wrong store a list that meets the premises, where the conclusion is
-- false. Assumes nothing.
use Prim.Native.Nat.{ℕ, zero, suc}
use native.Mathlib.Omega.{arith}
use mathlib.Core.Path.{◌≡◌, refl, ap}
use mathlib.Core.List.{List, [], ◌∷◌}
use lib.ListN.{get_or, replicate}
use Rattle.delivery.specs.System.{opens, adds, seals, reads, shows, receives}
use Rattle.delivery.specs.Book.{Expected, expect_no_effect}
use Rattle.delivery.proofs.Wrong.Excluded.{kind}
use Rattle.delivery_restarts.specs.Restarts.{with_store, Call, ordinary, stores, returns}
use Rattle.delivery_restarts.specs.OverRestarts.{OverRestartsFor}
use Rattle.delivery_restarts.specs.WrongStores.{
  stores_what_fits,
  with_restoring,
  reads_none,
  rereads,
  comes_fresh,
  forgets_open,
  forgets_closed,
  shifts_marks,
}
use Rattle.delivery_restarts.proofs.Computing.{applied, restarting}

abbrev memory : List ℕ
memory = replicate 10 0

kind_at : ℕ → List Expected → ℕ
kind_at k xs = kind (get_or xs k expect_no_effect)

-- One of two messages arrives, the host comes back from a text of 80 bytes, and the frame comes once more.
comes_again : ℕ → List Call
comes_again buffer =
    ordinary (opens 2 0 1) ∷ ordinary (adds 0 4 (9 ∷ [])) ∷ ordinary seals ∷ ordinary (shows 0)
    ∷ ordinary (receives 0) ∷ stores (replicate buffer 0) ∷ returns 0 ∷ ordinary (receives 0) ∷ []

-- The text is cut short, and is not read.
not-stores_what_fits : OverRestartsFor (with_store stores_what_fits) → ⊥
unfolding restarting comes_again stores_what_fits kind kind_at
not-stores_what_fits d =
    let z : ◌≡◌ {A = ℕ} 3 2 = ap (kind_at 1) (applied 36 _ d memory (comes_again 79) tt tt).answers_match in
    omega arith

not-reads_none : OverRestartsFor (with_store (with_restoring reads_none)) → ⊥
unfolding restarting comes_again reads_none kind kind_at
not-reads_none d =
    let z : ◌≡◌ {A = ℕ} 3 2 = ap (kind_at 1) (applied 36 _ d memory (comes_again 80) tt tt).answers_match in
    omega arith

not-comes_fresh : OverRestartsFor (with_store (with_restoring (rereads comes_fresh))) → ⊥
unfolding restarting comes_again rereads comes_fresh
not-comes_fresh d =
    let z : ◌≡◌ {A = ℕ} 2 1 = (applied 36 _ d memory (comes_again 80) tt tt).accepted_once 0 refl in
    omega arith

-- The second message comes after the return, and completes the transaction.
completed_after : List Call
completed_after =
    ordinary (opens 2 0 1) ∷ ordinary (adds 0 4 (9 ∷ [])) ∷ ordinary seals ∷ ordinary (adds 0 5 (9 ∷ []))
    ∷ ordinary seals ∷ ordinary (shows 0) ∷ ordinary (shows 1) ∷ ordinary (receives 0)
    ∷ stores (replicate 80 0) ∷ returns 0 ∷ ordinary (receives 1) ∷ []

not-forgets_open : OverRestartsFor (with_store (with_restoring (rereads forgets_open))) → ⊥
unfolding restarting completed_after rereads forgets_open
not-forgets_open d =
    let z : ◌≡◌ {A = ℕ} 0 1 = (applied 36 _ d memory completed_after tt tt).complete_agree in
    omega arith

-- Frame 1 is received ahead, and comes once more after the return.
ahead_again : List Call
ahead_again =
    ordinary (opens 2 0 1) ∷ ordinary (adds 0 4 (9 ∷ [])) ∷ ordinary seals ∷ ordinary (adds 0 5 (9 ∷ []))
    ∷ ordinary seals ∷ ordinary (shows 1) ∷ ordinary (receives 0)
    ∷ stores (replicate 80 0) ∷ returns 0 ∷ ordinary (receives 0) ∷ []

not-shifts_marks : OverRestartsFor (with_store (with_restoring (rereads shifts_marks))) → ⊥
unfolding restarting ahead_again rereads shifts_marks
not-shifts_marks d =
    let z : ◌≡◌ {A = ℕ} 2 1 = (applied 36 _ d memory ahead_again tt tt).accepted_once 1 refl in
    omega arith

-- Transaction 1 is complete before transaction 0, and the host comes back between the two. With both finished the card
-- opens transactions 32 and 33, of which the second is the last of the host's window.
many_opens : ℕ → List Call → List Call
many_opens zero xs = xs
many_opens (suc n) xs = ordinary (opens 0 0 0) ∷ many_opens n xs

window_after : List Call
window_after =
    ordinary (opens 0 0 0) ∷ ordinary (opens 0 4 0)
    ∷ many_opens 30
    (ordinary (adds 1 0 []) ∷ ordinary seals ∷ ordinary (adds 0 0 []) ∷ ordinary seals
    ∷ ordinary (shows 0) ∷ ordinary (shows 1) ∷ ordinary (receives 0)
    ∷ stores (replicate 47 0) ∷ returns 0 ∷ ordinary (receives 1) ∷ ordinary (reads 0) ∷ ordinary (reads 1)
    ∷ ordinary (opens 0 4 0) ∷ ordinary (opens 0 4 0) ∷ ordinary (adds 33 0 []) ∷ ordinary seals
    ∷ ordinary (shows 2) ∷ ordinary (receives 2) ∷ [])

not-forgets_closed : OverRestartsFor (with_store (with_restoring (rereads forgets_closed))) → ⊥
unfolding restarting window_after many_opens rereads forgets_closed kind kind_at
not-forgets_closed d =
    let z : ◌≡◌ {A = ℕ} 3 1 = ap (kind_at 2) (applied 36 _ d memory window_after tt tt).answers_match in
    omega arith
