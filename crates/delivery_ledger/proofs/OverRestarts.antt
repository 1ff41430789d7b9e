-- Bytes counted are the bytes charged over restarts of the host: from demand 3 over restarts and the ledger's history
-- only. Assumes nothing.
use Prim.Native.Nat.{ℕ}
use mathlib.Core.Path.{◌≡◌, refl, ap, ◌∙◌, subst}
use mathlib.Core.Bool.{true, cond, and-eq-true_iff}
use mathlib.Core.List.{List, [], ◌∷◌, ◌++◌}
use lib.Dec.{eqb}
use lib.ListN.{get_elem?}
use Rattle.delivery.specs.System.{Event, Observation}
use Rattle.delivery.specs.Book.{Book, book_step, empty_book, book_of}
use Rattle.delivery.specs.Demand3.{all_typed, not_too_late, WritesAllowed, outcome_of}
use Rattle.delivery_restarts.specs.Restarts.{
  RestartEnds,
  specified_ends,
  Call,
  ordinary,
  stores,
  returns,
  Site,
  Shown,
  shows_call,
  shows_storing,
  shows_return,
  site_step,
  site_after,
  shown_by,
  initial_site,
}
use Rattle.delivery_restarts.specs.OverRestarts.{
  events_in,
  observations_in,
  acceptances,
  nothing_since,
  nothing_accepted_since,
  OverRestartsFor,
}
use Rattle.delivery_restarts.proofs.Demand.{demand3-over-restarts}
use Rattle.delivery_ledger.specs.Blocks.{calls_of}
use Rattle.delivery_ledger.specs.OverRestarts.{
  restart_course,
  RestartPremises,
  ChargedOverRestartsFor,
  ChargedOverRestarts,
}
use Rattle.delivery_ledger.proofs.Blocks.Taking.{
  delivered,
  charged-as-told,
  Guaranteed,
  delivered-each,
  of-every,
}
use Rattle.delivery_ledger.proofs.Fronts.{typed-front, in-time-front, allowed-front}

-- ---- the front part of a list keeps the premises

events-append : (xs ys : List Call) → events_in (xs ++ ys) ≡ events_in xs ++ events_in ys
unfolding events_in
events-append [] ys = refl
events-append (ordinary x ∷ xs) ys = ap (λ (l : List Event). x ∷ l) (events-append xs ys)
events-append (stores buffer ∷ xs) ys = events-append xs ys
events-append (returns k ∷ xs) ys = events-append xs ys

observations-append : (ss ts : List Shown) → observations_in (ss ++ ts) ≡ observations_in ss ++ observations_in ts
unfolding observations_in
observations-append [] ts = refl
observations-append (shows_call s ∷ ss) ts = ap (λ (l : List Observation). s ∷ l) (observations-append ss ts)
observations-append (shows_storing r ∷ ss) ts = observations-append ss ts
observations-append (shows_return k r ∷ ss) ts = observations-append ss ts

shown-append : (e : RestartEnds) (w : Site) (xs ys : List Call)
    → shown_by e w (xs ++ ys) ≡ shown_by e w xs ++ shown_by e (site_after e w xs) ys
unfolding shown_by site_after
shown-append e w [] ys = refl
shown-append e w (x ∷ xs) ys =
    ap (λ (l : List Shown). (site_step e w x).shown ∷ l) (shown-append e (site_step e w x).site xs ys)

since-front : (b : Book) (storings : List ℕ) (ss ts : List Shown) → nothing_accepted_since b storings (ss ++ ts) ≡ true
    → nothing_accepted_since b storings ss ≡ true
unfolding nothing_accepted_since
since-front b storings [] ts t = refl
since-front b storings (shows_call s ∷ ss) ts t = since-front (book_step b s) storings ss ts t
since-front b storings (shows_storing r ∷ ss) ts t =
    since-front b (storings ++ cond (eqb r 0) (acceptances b.expected ∷ []) []) ss ts t
since-front b storings (shows_return k r ∷ ss) ts t =
    let p = (and-eq-true_iff (nothing_since b (get_elem? storings k)) (nothing_accepted_since b storings (ss ++ ts))).0 t in
    (and-eq-true_iff (nothing_since b (get_elem? storings k)) (nothing_accepted_since b storings ss)).1
    (p.0, since-front b storings ss ts p.1)

-- ---- demand 3 over restarts

module _ (e : RestartEnds) (d : OverRestartsFor e) (card_id host_id limit : ℕ) (slots memory : List ℕ) where
  abbrev w : Site
  w = initial_site e card_id host_id limit slots memory

  abbrev Keeps : List Call → Type 0
  Keeps = RestartPremises e card_id host_id limit slots memory

  front : (xs ys : List Call) → Keeps (xs ++ ys) → Keeps xs
  front xs ys p =
      let seen = observations_in (shown_by e w xs) in
      let later = shown_by e (site_after e w xs) ys in
      let s = shown-append e w xs ys in
      let o : observations_in (shown_by e w (xs ++ ys)) ≡ seen ++ observations_in later =
      ap observations_in s ∙ observations-append (shown_by e w xs) later in
      record {
        both_open = p.both_open;
        all_of_type =
            typed-front (events_in xs) (events_in ys)
            (subst (λ (l : List Event). all_typed l ≡ true) (events-append xs ys) p.all_of_type);
        none_too_late =
            in-time-front (empty_book memory) seen (observations_in later)
            (subst (λ (l : List Observation). not_too_late (empty_book memory) l ≡ true) o p.none_too_late);
        nothing_accepted =
            since-front (empty_book memory) [] (shown_by e w xs) later
            (subst (λ (l : List Shown). nothing_accepted_since (empty_book memory) [] l ≡ true) s p.nothing_accepted);
        writes_allowed =
            allowed-front (empty_book memory) seen (observations_in later)
            (subst (λ (l : List Observation). WritesAllowed (book_of memory l)) o p.writes_allowed);
      }

  guaranteed : Guaranteed (restart_course e card_id host_id limit slots memory) (λ s. Keeps)
  unfolding OverRestartsFor
  guaranteed = record {
    front = λ s. front;
    holds = λ s xs p.
        delivered (outcome_of (site_after e w xs).system) (book_of memory (observations_in (shown_by e w xs)))
        (d card_id host_id limit slots memory xs p.both_open p.all_of_type p.none_too_late p.nothing_accepted
        p.writes_allowed)
        p.writes_allowed;
  }

-- Bytes counted are bytes charged.
pub restarts-charged-by : (e : RestartEnds) → OverRestartsFor e → ChargedOverRestartsFor e
unfolding ChargedOverRestartsFor
restarts-charged-by e d card_id host_id limit slots memory acts told p =
    let v = restart_course e card_id host_id limit slots memory in
    let P = RestartPremises e card_id host_id limit slots memory in
    charged-as-told v acts told
    (delivered-each v (λ s. P) (guaranteed e d card_id host_id limit slots memory) acts
    (of-every (λ s. P (calls_of acts)) acts (λ s. p)))

pub charged-over-restarts : ChargedOverRestarts
charged-over-restarts = restarts-charged-by specified_ends demand3-over-restarts
