-- What demand 3 per card over restarts shuts out, and why it has its premises: wrong stores and tables with a list that
-- meets the premises, where the conclusion is false; and for the rules' own ends lists that meet every premise but one,
-- where it is false as well. Assumes nothing.
use Prim.Native.Nat.{ℕ}
use native.Mathlib.Omega.{arith}
use mathlib.Core.Path.{◌≡◌, refl, sym, ap}
use mathlib.Core.Bool.{true, ◌&&◌, true≢false}
use mathlib.Core.List.{List, [], ◌∷◌}
use lib.Dec.{lit<}
use lib.ListN.{get_or, replicate}
use Rattle.delivery.specs.Book.{Expected, expect_no_effect, Book, empty_book, book_of}
use Rattle.delivery.specs.Demand3.{all_typed, not_too_late, Guarantees}
use Rattle.delivery.proofs.Lists.Check.{slots₀, writes_allowed, allowed-by}
use Rattle.delivery.proofs.Wrong.Excluded.{kind}
use Rattle.delivery_restarts.specs.Restarts.{specified_store}
use Rattle.delivery_restarts.specs.OverRestarts.{observations_in, nothing_accepted_since}
use Rattle.delivery_restarts.specs.WrongStores.{with_restoring, rereads, comes_fresh, forgets_open}
use Rattle.table.specs.Table.{region}
use Rattle.table.specs.TableEnd.{specified_table}
use Rattle.table.specs.Calls.{registers, removes, comes}
use Rattle.table.specs.WrongTables.{with_adopting, adopts_fresh}
use Rattle.table.proofs.Worked.{frame}
use Rattle.table.proofs.Wrong.{wrongly}
use Rattle.delivery_table.specs.PerCard.{arrives, besides, outcome_in}
use Rattle.delivery_table.specs.Restarts.{
  StoringEnd,
  with_store,
  specified_storing,
  Turn,
  ordinary,
  stores,
  reopens,
  returns,
  after_turns,
  shown_by_turns,
  turn_events,
  allowed_turns,
  FineReturns,
}
use Rattle.delivery_table.specs.OverRestarts.{PerCardOverRestartsFor}
use Rattle.delivery_table.proofs.Restarted.{resuming, before, started, sent, memory'}

-- ---- wrong stores, and a wrong table

-- Frame 0 arrives, the card comes back in a table opened anew, and the frame comes once more, or the other one.
back_with : ℕ → List Turn
back_with j =
    sent (ordinary (arrives 0 64) ∷ stores (replicate 80 0) ∷ reopens memory' ∷ returns 0 60
    ∷ ordinary (arrives j 60) ∷ [])

abbrev book_of_turns : StoringEnd → List Turn → Book
book_of_turns e xs = book_of (region 30 20 before.memory) (observations_in (shown_by_turns e started xs))

-- The pair comes back fresh: frame 0 is accepted twice.
not-comes_fresh : PerCardOverRestartsFor (with_store (with_restoring (rereads comes_fresh))) → ⊥
unfolding resuming sent back_with memory' rereads comes_fresh
not-comes_fresh d =
    let z : ◌≡◌ {A = ℕ} 2 1 =
    (d 2 1 64 30 20 64 slots₀ (replicate 64 0) (registers 3 0 30 64 ∷ []) (back_with 0) (lit< tt) (lit< tt) refl refl refl
    ((refl, refl), tt) refl refl refl (allowed-by _ refl)).accepted_once 0 refl in
    omega arith

-- The open transaction is forgotten: the second message does not complete it.
not-forgets_open : PerCardOverRestartsFor (with_store (with_restoring (rereads forgets_open))) → ⊥
unfolding resuming sent back_with memory' rereads forgets_open
not-forgets_open d =
    let z : ◌≡◌ {A = ℕ} 0 1 =
    (d 2 1 64 30 20 64 slots₀ (replicate 64 0) (registers 3 0 30 64 ∷ []) (back_with 1) (lit< tt) (lit< tt) refl refl refl
    ((refl, refl), tt) refl refl refl (allowed-by _ refl)).complete_agree in
    omega arith

-- The table adopts a fresh pair in place of the one read.
adopts_anew : StoringEnd
adopts_anew = record { table_end = with_adopting specified_table.taking adopts_fresh; store = specified_store }

not-adopts_fresh : PerCardOverRestartsFor adopts_anew → ⊥
unfolding resuming wrongly sent back_with memory' adopts_anew adopts_fresh
not-adopts_fresh d =
    let z : ◌≡◌ {A = ℕ} 2 1 =
    (d 2 1 64 30 20 64 slots₀ (replicate 64 0) (registers 3 0 30 64 ∷ []) (back_with 0) (lit< tt) (lit< tt) refl refl refl
    ((refl, refl), tt) refl refl refl (allowed-by _ refl)).accepted_once 0 refl in
    omega arith

-- ---- lists that meet every premise but one

abbrev Holds : List Turn → Type 0
Holds xs =
    Guarantees (outcome_in 30 20 (after_turns specified_storing started xs).scene) (book_of_turns specified_storing xs)

-- The premises that each of the lists below meets.
abbrev Usual : List Turn → Type 0
Usual xs =
    (all_typed (turn_events xs)
    && (not_too_late (empty_book (region 30 20 before.memory))
    (observations_in (shown_by_turns specified_storing started xs))
    && writes_allowed (book_of_turns specified_storing xs)))
    ≡ true

abbrev Allowed : List Turn → Type 0
Allowed xs = allowed_turns 2 50 true xs ≡ true

abbrev Current : List Turn → Type 0
Current xs =
    nothing_accepted_since (empty_book (region 30 20 before.memory)) [] (shown_by_turns specified_storing started xs)
    ≡ true

-- Frame 0 is accepted between the storing and the return: it is accepted again after it.
out_of_date : List Turn
out_of_date =
    sent (stores (replicate 47 0) ∷ ordinary (arrives 0 64) ∷ reopens (replicate 60 0) ∷ returns 0 60
    ∷ ordinary (arrives 0 60) ∷ [])

outdated : Usual out_of_date × Allowed out_of_date × FineReturns specified_storing started out_of_date
    × (Current out_of_date → ⊥) × (Holds out_of_date → ⊥)
unfolding resuming sent out_of_date
outdated = (
  refl,
  refl,
  ((refl, refl), tt),
  λ q. absurd (true≢false (sym q)),
  λ g.
      let z : ◌≡◌ {A = ℕ} 2 1 = g.accepted_once 0 refl in
      omega arith,
)

-- Another card has the region while the card is away, and writes into it.
written_over : List Turn
written_over =
    sent (ordinary (arrives 0 64) ∷ stores (replicate 80 0) ∷ reopens memory'
    ∷ ordinary (besides (registers 4 30 20 60)) ∷ ordinary (besides (comes (frame 4 16 0) 60))
    ∷ ordinary (besides (removes 4)) ∷ returns 0 60 ∷ [])

written_over_lem : Usual written_over × Allowed written_over × (FineReturns specified_storing started written_over → ⊥)
    × Current written_over × (Holds written_over → ⊥)
unfolding resuming sent written_over memory'
written_over_lem = (
  refl,
  refl,
  λ f.
      let z : ◌≡◌ {A = ℕ} 170 1 = ap (λ (l : List ℕ). get_or l 0 0) f.0.1 in
      omega arith,
  refl,
  λ g.
      let z : ◌≡◌ {A = ℕ} 170 1 = ap (λ (l : List ℕ). get_or l 0 0) g.memory_agrees in
      omega arith,
)

-- A frame of the card arrives while the card is away, and gets 3.
arrives_away : List Turn
arrives_away =
    sent (ordinary (arrives 0 64) ∷ stores (replicate 80 0) ∷ reopens memory' ∷ ordinary (arrives 0 60) ∷ returns 0 60
    ∷ [])

kind_at : ℕ → List Expected → ℕ
kind_at k xs = kind (get_or xs k expect_no_effect)

arrived-away : Usual arrives_away × (Allowed arrives_away → ⊥) × FineReturns specified_storing started arrives_away
    × Current arrives_away × (Holds arrives_away → ⊥)
unfolding resuming sent arrives_away memory' kind kind_at
arrived-away = (
  refl,
  λ q. true≢false (sym q),
  ((refl, refl), tt),
  refl,
  λ g.
      let z : ◌≡◌ {A = ℕ} 3 2 = ap (kind_at 1) g.answers_match in
      omega arith,
)

-- The card returns where nothing was kept: it is not there, and its frame gets 3.
nothing_kept : List Turn
nothing_kept =
    sent (ordinary (arrives 0 64) ∷ reopens memory' ∷ returns 0 60 ∷ ordinary (arrives 0 60) ∷ [])

none_kept : Usual nothing_kept × Allowed nothing_kept × (FineReturns specified_storing started nothing_kept → ⊥)
    × Current nothing_kept × (Holds nothing_kept → ⊥)
unfolding resuming sent nothing_kept memory' kind kind_at
none_kept = (
  refl,
  refl,
  λ f. f.0,
  refl,
  λ g.
      let z : ◌≡◌ {A = ℕ} 3 2 = ap (kind_at 1) g.answers_match in
      omega arith,
)

-- The memory lent with the adopting ends before the region does: 31, and again the card is not there.
returns_short : List Turn
returns_short =
    sent (ordinary (arrives 0 64) ∷ stores (replicate 80 0) ∷ reopens memory' ∷ returns 0 49
    ∷ ordinary (arrives 0 60) ∷ [])

returned-short : Usual returns_short × Allowed returns_short × (FineReturns specified_storing started returns_short → ⊥)
    × Current returns_short × (Holds returns_short → ⊥)
unfolding resuming sent returns_short memory' kind kind_at
returned-short = (
  refl,
  refl,
  λ f.
      let z : ◌≡◌ {A = ℕ} 31 0 = f.0.0 in
      omega arith,
  refl,
  λ g.
      let z : ◌≡◌ {A = ℕ} 3 2 = ap (kind_at 1) g.answers_match in
      omega arith,
)

-- The table is opened anew over a memory without the card's bytes, and the list ends there.
ends_away : List Turn
ends_away = sent (ordinary (arrives 0 64) ∷ reopens (replicate 60 0) ∷ [])

ended-away : Usual ends_away × (Allowed ends_away → ⊥) × FineReturns specified_storing started ends_away
    × Current ends_away × (Holds ends_away → ⊥)
unfolding resuming sent ends_away
ended-away = (
  refl,
  λ q. true≢false (sym q),
  tt,
  refl,
  λ g.
      let z : ◌≡◌ {A = ℕ} 0 1 = ap (λ (l : List ℕ). get_or l 0 0) g.memory_agrees in
      omega arith,
)

-- The card is registered at the table opened anew, and its fresh pair stored there, for which it returns: frame 0 is
-- accepted twice.
stores_away : List Turn
stores_away =
    sent (ordinary (arrives 0 64) ∷ reopens memory' ∷ ordinary (besides (registers 2 30 20 60))
    ∷ stores (replicate 47 0) ∷ reopens memory' ∷ returns 0 60 ∷ ordinary (arrives 0 60) ∷ [])

stored-away : Usual stores_away × (Allowed stores_away → ⊥) × FineReturns specified_storing started stores_away
    × Current stores_away × (Holds stores_away → ⊥)
unfolding resuming sent stores_away memory'
stored-away = (
  refl,
  λ q. true≢false (sym q),
  ((refl, refl), tt),
  refl,
  λ g.
      let z : ◌≡◌ {A = ℕ} 2 1 = g.accepted_once 0 refl in
      omega arith,
)
