-- Demand 3 over restarts: its premises and what follows, over lists with storings and returns in them. The book is
-- shown the ordinary calls alone, and premises and guarantees are those of delivery/specs/Demand3.antt. One premise is
-- new: nothing was accepted between a storing and the return to it.
use Rattle.std.specs.Prelude.{ℕ, suc, ◌≡◌, Bool, true, cond, ◌&&◌, List, [], ◌∷◌, ◌++◌, eqb}
use Rattle.std.proofs.Math.Option.{Option, none, some}
use Rattle.std.proofs.Math.ListN.{get_elem?}
use Rattle.delivery.specs.System.{Event, Observation}
use Rattle.delivery.specs.Book.{
  Expected,
  expect_accepted,
  expect_again,
  expect_no_effect,
  Book,
  book_step,
  empty_book,
  book_of,
}
use Rattle.delivery.specs.Demand3.{BothOpen, all_typed, not_too_late, WritesAllowed, outcome_of, Guarantees}
use Rattle.delivery_restarts.specs.Restarts.{
  RestartEnds,
  specified_ends,
  Call,
  ordinary,
  stores,
  returns,
  Shown,
  shows_call,
  shows_storing,
  shows_return,
  site_after,
  shown_by,
  initial_site,
}

-- The ordinary calls of a list, and what they show.
unfoldable pub events_in : List Call → List Event
events_in [] = []
events_in (ordinary x ∷ xs) = x ∷ events_in xs
events_in (stores buffer ∷ xs) = events_in xs
events_in (returns k ∷ xs) = events_in xs

unfoldable pub observations_in : List Shown → List Observation
observations_in [] = []
observations_in (shows_call s ∷ ss) = s ∷ observations_in ss
observations_in (shows_storing r ∷ ss) = observations_in ss
observations_in (shows_return k r ∷ ss) = observations_in ss

-- How many arrivals were accepted.
unfoldable pub acceptances : List Expected → ℕ
acceptances [] = 0
acceptances (expect_accepted c sums run ∷ rs) = suc (acceptances rs)
acceptances (expect_again c run ∷ rs) = acceptances rs
acceptances (expect_no_effect ∷ rs) = acceptances rs

-- Nothing was accepted between a storing and the return to it: the book has as many acceptances at both. `storings`
-- says how many there were at each storing that kept something, oldest first. Where nothing was kept there is no
-- return, and nothing to ask for.
unfoldable pub nothing_since : Book → Option ℕ → Bool
nothing_since b none = true
nothing_since b (some n) = eqb (acceptances b.expected) n

unfoldable pub nothing_accepted_since : Book → List ℕ → List Shown → Bool
nothing_accepted_since b storings [] = true
nothing_accepted_since b storings (shows_call s ∷ ss) = nothing_accepted_since (book_step b s) storings ss
nothing_accepted_since b storings (shows_storing r ∷ ss) =
    nothing_accepted_since b (storings ++ cond (eqb r 0) (acceptances b.expected ∷ []) []) ss
nothing_accepted_since b storings (shows_return k r ∷ ss) =
    nothing_since b (get_elem? storings k) && nothing_accepted_since b storings ss

-- Demand 3 over restarts, for any ends and any store.
unfoldable pub OverRestartsFor : RestartEnds → Type 0
OverRestartsFor e =
    (card_id host_id limit : ℕ) (slots memory : List ℕ) (list : List Call)
    → BothOpen card_id host_id (e.ends.card_end.card_opening card_id host_id limit slots)
    (e.ends.host_end.host_opening host_id card_id)
    → let w = initial_site e card_id host_id limit slots memory in
    let seen = observations_in (shown_by e w list) in
    let b = book_of memory seen in
    all_typed (events_in list) ≡ true → not_too_late (empty_book memory) seen ≡ true
    → nothing_accepted_since (empty_book memory) [] (shown_by e w list) ≡ true → WritesAllowed b
    → Guarantees (outcome_of (site_after e w list).system) b

-- For the ends and the store that the rules describe. proofs/Demand.antt has a term of this type.
abbrev pub OverRestarts : Type 0
OverRestarts = OverRestartsFor specified_ends
