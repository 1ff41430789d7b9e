-- What demand 3 per card shuts out: for each wrong table a list that meets the premises, where the conclusion is false.
-- Assumes nothing.
use Prim.Native.Nat.{ℕ}
use native.Mathlib.Omega.{arith}
use mathlib.Core.Path.{◌≡◌, refl, ap}
use mathlib.Core.List.{List, [], ◌∷◌}
use lib.Dec.{lit<}
use lib.ListN.{get_or, replicate}
use Rattle.delivery.specs.System.{open_call, add_call, seal_call, show_call}
use Rattle.delivery.specs.Book.{Expected, expect_no_effect}
use Rattle.delivery.proofs.Lists.Check.{slots₀, allowed-by}
use Rattle.delivery.proofs.Wrong.Excluded.{kind}
use Rattle.table.specs.Calls.{registers, removes, comes}
use Rattle.table.specs.TableEnd.{specified_table}
use Rattle.table.specs.WrongTables.{
  with_adopting,
  with_receiving,
  looks_first,
  leaves_pair,
  finds_pair,
  keeps_pair,
  takes_fresh,
  adopts_fresh,
}
use Rattle.table.proofs.Worked.{frame}
use Rattle.table.proofs.Wrong.{wrongly}
use Rattle.delivery_table.specs.PerCard.{Action, of_card, arrives, rehoused, Demand3PerCardFor}
use Rattle.delivery_table.proofs.Worked.{running}

abbrev memory : List ℕ
memory = replicate 64 0

kind_at : ℕ → List Expected → ℕ
kind_at k xs = kind (get_or xs k expect_no_effect)

-- One of two messages is sent, and arrives.
sent : List Action → List Action
sent xs =
    of_card (open_call 2 0 1) ∷ of_card (add_call 0 4 (9 ∷ [])) ∷ of_card seal_call ∷ of_card (show_call 0)
    ∷ arrives 0 64 ∷ xs

-- Card 3 was registered before, and so has the first place: card 2's frame gets 3.
not-looks_first : Demand3PerCardFor (with_receiving looks_first) → ⊥
unfolding running wrongly sent looks_first kind kind_at
not-looks_first d =
    let z : ◌≡◌ {A = ℕ} 3 1 =
    ap (kind_at 0)
    (d 2 1 64 20 20 64 slots₀ memory (registers 3 0 20 64 ∷ []) (sent []) (lit< tt) (lit< tt) refl refl refl refl refl
    (allowed-by _ refl)).answers_match in
    omega arith

-- Card 2 was there before, and its frame 0 was accepted then: the frame 0 of now is answered "again".
not-keeps_pair : Demand3PerCardFor keeps_pair → ⊥
unfolding running wrongly sent leaves_pair finds_pair kind kind_at
not-keeps_pair d =
    let z : ◌≡◌ {A = ℕ} 0 1 =
    (d 2 1 64 0 20 64 slots₀ memory (registers 2 0 20 64 ∷ comes (frame 2 4 0) 64 ∷ removes 2 ∷ []) (sent [])
    (lit< tt) (lit< tt) refl refl refl refl refl (allowed-by _ refl)).accepted_once 0 refl in
    omega arith

-- The card's pair is taken out and adopted, and the frame comes once more: it is accepted twice.
not-takes_fresh : Demand3PerCardFor (with_adopting takes_fresh specified_table.adopting) → ⊥
unfolding running wrongly sent takes_fresh
not-takes_fresh d =
    let z : ◌≡◌ {A = ℕ} 2 1 =
    (d 2 1 64 0 20 64 slots₀ memory [] (sent (rehoused 64 ∷ arrives 0 64 ∷ [])) (lit< tt) (lit< tt) refl refl refl refl
    refl (allowed-by _ refl)).accepted_once 0 refl in
    omega arith

not-adopts_fresh : Demand3PerCardFor (with_adopting specified_table.taking adopts_fresh) → ⊥
unfolding running wrongly sent adopts_fresh
not-adopts_fresh d =
    let z : ◌≡◌ {A = ℕ} 2 1 =
    (d 2 1 64 0 20 64 slots₀ memory [] (sent (rehoused 64 ∷ arrives 0 64 ∷ [])) (lit< tt) (lit< tt) refl refl refl refl
    refl (allowed-by _ refl)).accepted_once 0 refl in
    omega arith
