-- Demand 3 per card over restarts holds demand 3 per card in it: the lists of specs/PerCard.antt are those without a
-- storing, an opening anew or a return. Assumes nothing.
use Prim.Native.Nat.{ℕ, ◌+◌}
use mathlib.Core.Path.{◌≡◌, refl, sym, ap, subst}
use mathlib.Core.Bool.{Bool, true, ◌&&◌, and-eq-true_iff}
use mathlib.Core.List.{List, [], ◌∷◌, map}
use lib.Dec.{leb}
use Rattle.delivery.specs.System.{Event, calls, receives, Observation}
use Rattle.delivery.specs.Book.{Book, book_step, empty_book, book_of}
use Rattle.delivery.specs.Demand3.{all_typed, not_too_late, WritesAllowed, Guarantees}
use Rattle.delivery_restarts.specs.OverRestarts.{observations_in, nothing_accepted_since}
use Rattle.table.specs.Table.{region}
use Rattle.table.specs.Calls.{registers, open_site_for, site_step_for, site_after_for}
use Rattle.delivery_table.specs.PerCard.{
  Action,
  of_card,
  arrives,
  rehoused,
  besides,
  own_events,
  Scene,
  on_card,
  on_table_for,
  aside_for,
  rehouse_for,
  act_for,
  leaves_alone,
  allowed,
  begin,
  outcome_in,
  Demand3PerCardFor,
}
use Rattle.delivery_table.specs.Restarts.{
  StoringEnd,
  ordinary,
  KeptScene,
  turn_for,
  after_turns,
  shown_by_turns,
  turn_events,
  needs_card,
  allowed_turns,
  FineReturns,
}
use Rattle.delivery_table.specs.OverRestarts.{PerCardOverRestartsFor}

events-are : (xs : List Action) → turn_events (map ordinary xs) ≡ own_events xs
unfolding turn_events own_events
events-are [] = refl
events-are (of_card x ∷ xs) = ap (λ (l : List Event). calls x ∷ l) (events-are xs)
events-are (arrives k lent ∷ xs) = ap (λ (l : List Event). receives k ∷ l) (events-are xs)
events-are (rehoused lent ∷ xs) = events-are xs
events-are (besides c ∷ xs) = events-are xs

one-allowed : (p q : Bool) → (p && q) ≡ true → (r : Bool) → (q ≡ true → r ≡ true) → ((p && true) && r) ≡ true
one-allowed p q h r f =
    let both = (and-eq-true_iff p q).0 h in
    rw (both.0, f both.1)

allowed-are : (s end : ℕ) (xs : List Action) → allowed s end xs ≡ true
    → allowed_turns s end true (map ordinary xs) ≡ true
unfolding allowed allowed_turns needs_card
allowed-are s end [] h = refl
allowed-are s end (of_card x ∷ xs) h = allowed-are s end xs h
allowed-are s end (arrives k lent ∷ xs) h =
    one-allowed (leb end lent) (allowed s end xs) h (allowed_turns s end true (map ordinary xs)) (allowed-are s end xs)
allowed-are s end (rehoused lent ∷ xs) h =
    one-allowed (leb end lent) (allowed s end xs) h (allowed_turns s end true (map ordinary xs)) (allowed-are s end xs)
allowed-are s end (besides c ∷ xs) h =
    one-allowed (leaves_alone s c) (allowed s end xs) h (allowed_turns s end true (map ordinary xs))
    (allowed-are s end xs)

module _ (e : StoringEnd) where
  abbrev kept-as : KeptScene → Scene → KeptScene
  kept-as v x = record { scene = x; kept = v.kept }

  scene-is : (xs : List Action) (v : KeptScene)
      → (after_turns e v (map ordinary xs)).scene ≡ (act_for e.table_end v.scene xs).scene
  unfolding after_turns turn_for act_for
  scene-is [] v = refl
  scene-is (of_card x ∷ xs) v = scene-is xs (kept-as v (on_card v.scene x).scene)
  scene-is (arrives k lent ∷ xs) v = scene-is xs (kept-as v (on_table_for e.table_end v.scene k lent).scene)
  scene-is (rehoused lent ∷ xs) v = scene-is xs (kept-as v (rehouse_for e.table_end v.scene lent))
  scene-is (besides c ∷ xs) v = scene-is xs (kept-as v (aside_for e.table_end v.scene c))

  seen_are : (xs : List Action) (v : KeptScene)
      → observations_in (shown_by_turns e v (map ordinary xs)) ≡ (act_for e.table_end v.scene xs).observations
  unfolding shown_by_turns turn_for act_for observations_in
  seen_are [] v = refl
  seen_are (of_card x ∷ xs) v =
      ap (λ (l : List Observation). (on_card v.scene x).observation ∷ l)
      (seen_are xs (kept-as v (on_card v.scene x).scene))
  seen_are (arrives k lent ∷ xs) v =
      ap (λ (l : List Observation). (on_table_for e.table_end v.scene k lent).observation ∷ l)
      (seen_are xs (kept-as v (on_table_for e.table_end v.scene k lent).scene))
  seen_are (rehoused lent ∷ xs) v = seen_are xs (kept-as v (rehouse_for e.table_end v.scene lent))
  seen_are (besides c ∷ xs) v = seen_are xs (kept-as v (aside_for e.table_end v.scene c))

  none-since : (xs : List Action) (v : KeptScene) (b : Book)
      → nothing_accepted_since b [] (shown_by_turns e v (map ordinary xs)) ≡ true
  unfolding shown_by_turns turn_for act_for nothing_accepted_since
  none-since [] v b = refl
  none-since (of_card x ∷ xs) v b =
      none-since xs (kept-as v (on_card v.scene x).scene) (book_step b (on_card v.scene x).observation)
  none-since (arrives k lent ∷ xs) v b =
      none-since xs (kept-as v (on_table_for e.table_end v.scene k lent).scene)
      (book_step b (on_table_for e.table_end v.scene k lent).observation)
  none-since (rehoused lent ∷ xs) v b = none-since xs (kept-as v (rehouse_for e.table_end v.scene lent)) b
  none-since (besides c ∷ xs) v b = none-since xs (kept-as v (aside_for e.table_end v.scene c)) b

  no-returns : (xs : List Action) (v : KeptScene) → FineReturns e v (map ordinary xs)
  no-returns [] v = tt
  no-returns (x ∷ xs) v = no-returns xs (turn_for e v (ordinary x)).now

  pub without-restarts : PerCardOverRestartsFor e → Demand3PerCardFor e.table_end
  unfolding PerCardOverRestartsFor Demand3PerCardFor
  without-restarts d card_id host_id limit first size lent slots memory earlier actions c h o z al ty ti wr =
      let w = site_after_for e.table_end (open_site_for e.table_end host_id memory) earlier in
      let from = region first size w.memory in
      let x = begin card_id host_id limit slots (site_step_for e.table_end w (registers card_id first size lent)) in
      let v : KeptScene = record { scene = x; kept = [] } in
      let seen = seen_are actions v in
      subst (λ (y : Scene). Guarantees (outcome_in first size y)
      (book_of from (act_for e.table_end x actions).observations)) (scene-is actions v)
      (subst (λ (l : List Observation). Guarantees (outcome_in first size (after_turns e v (map ordinary actions)).scene)
      (book_of from l)) seen
      (d card_id host_id limit first size lent slots memory earlier (map ordinary actions) c h o z
      (allowed-are card_id (first + size) actions al) (no-returns actions v)
      (subst (λ (l : List Event). all_typed l ≡ true) (sym (events-are actions)) ty)
      (subst (λ (l : List Observation). not_too_late (empty_book from) l ≡ true) (sym seen) ti)
      (none-since actions v (empty_book from))
      (subst (λ (l : List Observation). WritesAllowed (book_of from l)) (sym seen) wr)))
