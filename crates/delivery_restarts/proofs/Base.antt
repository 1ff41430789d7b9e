-- Demand 3 over restarts holds demand 3 in it: the lists of delivery are those without a storing or a return.
-- Assumes nothing.
use mathlib.Core.Path.{◌≡◌, refl, sym, ap, subst}
use mathlib.Core.Bool.{true}
use mathlib.Core.List.{List, [], ◌∷◌, map}
use Rattle.delivery.specs.System.{Event, System, Observation, step, run}
use Rattle.delivery.specs.Book.{Book, book_step, empty_book, book_of}
use Rattle.delivery.specs.Demand3.{all_typed, not_too_late, WritesAllowed, outcome_of, Guarantees, Demand3For}
use Rattle.delivery_restarts.specs.Restarts.{
  RestartEnds,
  ordinary,
  Site,
  site_step,
  site_after,
  shown_by,
  initial_site,
}
use Rattle.delivery_restarts.specs.OverRestarts.{
  events_in,
  observations_in,
  nothing_accepted_since,
  OverRestartsFor,
}

events-are : (xs : List Event) → events_in (map ordinary xs) ≡ xs
unfolding events_in
events-are [] = refl
events-are (x ∷ xs) = ap {B = List Event} (λ r. x ∷ r) (events-are xs)

module _ (e : RestartEnds) where
  system-is : (xs : List Event) (w : Site)
      → (site_after e w (map ordinary xs)).system ≡ (run e.ends w.system xs).system
  unfolding site_after site_step run
  system-is [] w = refl
  system-is (x ∷ xs) w = system-is xs (site_step e w (ordinary x)).site

  observations-are : (xs : List Event) (w : Site)
      → observations_in (shown_by e w (map ordinary xs)) ≡ (run e.ends w.system xs).observations
  unfolding shown_by site_step observations_in run
  observations-are [] w = refl
  observations-are (x ∷ xs) w =
      ap {B = List Observation} (λ r. (step e.ends w.system x).observation ∷ r)
      (observations-are xs (site_step e w (ordinary x)).site)

  no-restart : (xs : List Event) (w : Site) (b : Book)
      → nothing_accepted_since b [] (shown_by e w (map ordinary xs)) ≡ true
  unfolding shown_by site_step nothing_accepted_since
  no-restart [] w b = refl
  no-restart (x ∷ xs) w b =
      no-restart xs (site_step e w (ordinary x)).site (book_step b (step e.ends w.system x).observation)

  pub without-restarts : OverRestartsFor e → Demand3For e.ends
  unfolding OverRestartsFor Demand3For initial_site
  without-restarts d card_id host_id limit slots memory events o t i k =
      let w = initial_site e card_id host_id limit slots memory in
      let seen : observations_in (shown_by e w (map ordinary events)) ≡ (run e.ends w.system events).observations =
      observations-are events w in
      let end : (site_after e w (map ordinary events)).system ≡ (run e.ends w.system events).system =
      system-is events w in
      subst (λ (s : System). Guarantees (outcome_of s) (book_of memory (run e.ends w.system events).observations))
      end
      (subst (λ (l : List Observation). Guarantees (outcome_of (site_after e w (map ordinary events)).system)
      (book_of memory l)) seen
      (d card_id host_id limit slots memory (map ordinary events) o
      (subst (λ (l : List Event). all_typed l ≡ true) (sym (events-are events)) t)
      (subst (λ (l : List Observation). not_too_late (empty_book memory) l ≡ true) (sym seen) i)
      (no-restart events w (empty_book memory))
      (subst (λ (l : List Observation). WritesAllowed (book_of memory l)) (sym seen) k)))
