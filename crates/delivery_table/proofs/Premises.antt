-- Why demand 3 per card has its premises on the list: for each a list that meets all the others, where the conclusion
-- is false. Assumes nothing.
use Prim.Native.Nat.{ℕ}
use native.Mathlib.Omega.{arith}
use mathlib.Core.Path.{◌≡◌, refl, sym, ap}
use mathlib.Core.Bool.{true, ◌&&◌, true≢false}
use mathlib.Core.List.{List, [], ◌∷◌}
use lib.ListN.{get_or, replicate}
use Rattle.delivery.specs.System.{open_call, add_call, seal_call, show_call}
use Rattle.delivery.specs.Book.{Expected, expect_no_effect, Book, empty_book, book_of}
use Rattle.delivery.specs.Demand3.{all_typed, not_too_late, Guarantees}
use Rattle.delivery.proofs.Lists.Check.{slots₀, writes_allowed}
use Rattle.delivery.proofs.Wrong.Excluded.{kind}
use Rattle.table.specs.Table.{region}
use Rattle.table.specs.Calls.{registers, removes, comes, Site, open_site, site_step}
use Rattle.table.proofs.Worked.{frame}
use Rattle.delivery_table.specs.PerCard.{
  Action,
  of_card,
  arrives,
  rehoused,
  besides,
  own_events,
  Scene,
  act,
  allowed,
  begin,
  outcome_in,
}
use Rattle.delivery_table.proofs.Worked.{running}

-- Card 2 is registered with bytes 0 to 19 of 64.
abbrev before : Site
before = open_site 1 (replicate 64 0)

abbrev start : Scene
start = begin 2 1 64 slots₀ (site_step before (registers 2 0 20 64))

abbrev book : List Action → Book
book xs = book_of (region 0 20 before.memory) (act start xs).observations

-- The premises that each of the lists below meets, and the one that it does not.
abbrev Usual : List Action → Type 0
Usual xs =
    (all_typed (own_events xs)
    && (not_too_late (empty_book (region 0 20 before.memory)) (act start xs).observations && writes_allowed (book xs)))
    ≡ true

abbrev Allowed : List Action → Type 0
Allowed xs = allowed 2 20 xs ≡ true

abbrev Holds : List Action → Type 0
Holds xs = Guarantees (outcome_in 0 20 (act start xs).scene) (book xs)

-- All of it, for a list: it is shut out by that premise only, and rightly so.
abbrev Needed : List Action → Type 0
Needed xs = Usual xs × (Allowed xs → ⊥) × (Holds xs → ⊥)

kind_at : ℕ → List Expected → ℕ
kind_at k xs = kind (get_or xs k expect_no_effect)

-- One of two messages is sent.
sent : List Action → List Action
sent xs =
    of_card (open_call 2 0 1) ∷ of_card (add_call 0 4 (9 ∷ [])) ∷ of_card seal_call ∷ of_card (show_call 0) ∷ xs

-- A frame 0 from an earlier registering of the card arrives: the card's own frame 0 is answered "again".
left_over : List Action
left_over = sent (besides (comes (frame 2 8 0) 64) ∷ arrives 0 64 ∷ [])

not-invented : Needed left_over
unfolding running sent left_over kind kind_at
not-invented = (
  refl,
  λ q. true≢false (sym q),
  λ g.
      let z : ◌≡◌ {A = ℕ} 2 1 = ap (kind_at 0) g.answers_match in
      omega arith,
)

-- The card is removed before its frame arrives, which gets 3.
removed_before : List Action
removed_before = sent (besides (removes 2) ∷ arrives 0 64 ∷ [])

not-removed : Needed removed_before
unfolding running sent removed_before kind kind_at
not-removed = (
  refl,
  λ q. true≢false (sym q),
  λ g.
      let z : ◌≡◌ {A = ℕ} 3 1 = ap (kind_at 0) g.answers_match in
      omega arith,
)

-- The memory lent with the card's frame ends before its region does: 31.
lent_short : List Action
lent_short = sent (arrives 0 19 ∷ [])

not_short : Needed lent_short
unfolding running sent lent_short kind kind_at
not_short = (
  refl,
  λ q. true≢false (sym q),
  λ g.
      let z : ◌≡◌ {A = ℕ} 3 1 = ap (kind_at 0) g.answers_match in
      omega arith,
)

-- The memory lent with the adopting ends before the region does: 31, so that the card is removed and does not come
-- back.
adopted_short : List Action
adopted_short = sent (rehoused 19 ∷ arrives 0 64 ∷ [])

not-adopted-short : Needed adopted_short
unfolding running sent adopted_short kind kind_at
not-adopted-short = (
  refl,
  λ q. true≢false (sym q),
  λ g.
      let z : ◌≡◌ {A = ℕ} 3 1 = ap (kind_at 0) g.answers_match in
      omega arith,
)
