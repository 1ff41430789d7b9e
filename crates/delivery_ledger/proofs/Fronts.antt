-- The front part of a list of calls keeps the premises of demand 3 if the whole list does. Assumes nothing.
use mathlib.Core.Path.{◌≡◌, refl, subst}
use mathlib.Core.Bool.{true, and-eq-true_iff}
use mathlib.Core.List.{List, [], ◌∷◌, ◌++◌}
use Rattle.delivery.specs.System.{Event, Observation}
use Rattle.delivery.specs.Book.{Book, book_step, book_from}
use Rattle.delivery.specs.Demand3.{typed, all_typed, in_time, not_too_late, WritesAllowed}
use Rattle.delivery.proofs.Book.Earlier.{allowed-before}

pub typed-front : (xs ys : List Event) → all_typed (xs ++ ys) ≡ true → all_typed xs ≡ true
unfolding all_typed
typed-front [] ys t = refl
typed-front (x ∷ xs) ys t =
    let p = (and-eq-true_iff (typed x) (all_typed (xs ++ ys))).0 t in
    (and-eq-true_iff (typed x) (all_typed xs)).1 (p.0, typed-front xs ys p.1)

pub in-time-front : (b : Book) (ss ts : List Observation) → not_too_late b (ss ++ ts) ≡ true → not_too_late b ss ≡ true
unfolding not_too_late
in-time-front b [] ts t = refl
in-time-front b (s ∷ ss) ts t =
    let p = (and-eq-true_iff (in_time b s.event) (not_too_late (book_step b s) (ss ++ ts))).0 t in
    (and-eq-true_iff (in_time b s.event) (not_too_late (book_step b s) ss)).1
    (p.0, in-time-front (book_step b s) ss ts p.1)

pub book-append : (b : Book) (ss ts : List Observation) → book_from b (ss ++ ts) ≡ book_from (book_from b ss) ts
unfolding book_from
book-append b [] ts = refl
book-append b (s ∷ ss) ts = book-append (book_step b s) ss ts

pub allowed-front : (b : Book) (ss ts : List Observation) → WritesAllowed (book_from b (ss ++ ts))
    → WritesAllowed (book_from b ss)
allowed-front b ss ts k = allowed-before (book_from b ss) ts (subst WritesAllowed (book-append b ss ts) k)
