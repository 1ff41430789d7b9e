-- Demand 3 over restarts: any call keeps site and book in agreement, and so a list's end does. Assumes nothing.
use Prim.Native.Nat.{ℕ, ◌<◌}
use native.Mathlib.Omega.{arith}
use mathlib.Core.Path.{◌≡◌, refl, subst}
use mathlib.Core.Logic.{◌≢◌}
use mathlib.Core.Bool.{Bool, true, false, and-eq-true_iff}
use mathlib.Core.List.{List, [], ◌∷◌}
use borrow.Author.Tests.{eqb-false}
use lib.Dec.{eqb}
use lib.ListN.{get_elem?}
use Rattle.seq.specs.Ring.{frame_space}
use Rattle.host.specs.Host.{opened_of}
use Rattle.host.proofs.Reachable.{opened-reachable}
use Rattle.delivery.specs.System.{specified, Event, step, initial}
use Rattle.delivery.specs.Book.{Book, book_step, book_from, empty_book, book_of}
use Rattle.delivery.specs.Demand3.{
  BothOpen,
  typed,
  all_typed,
  in_time,
  not_too_late,
  WritesAllowed,
}
use Rattle.delivery.proofs.Book.Earlier.{allowed-before}
use Rattle.delivery.proofs.Demand.{seen-event, starts, guaranteed}
use Rattle.delivery.proofs.Agree.{SystemFor}
use Rattle.delivery_restarts.specs.Restarts.{
  Store,
  specified_store,
  RestartEnds,
  with_store,
  Call,
  ordinary,
  stores,
  returns,
  Site,
  site_step,
  site_after,
  shown_by,
  initial_site,
}
use Rattle.delivery_restarts.specs.OverRestarts.{
  events_in,
  observations_in,
  nothing_since,
  nothing_accepted_since,
  OverRestartsFor,
  OverRestarts,
}
use Rattle.delivery_restarts.proofs.Restarting.{
  KeepsPairs,
  read_back,
  SiteFor,
  site-ordinary,
  site-stores,
  site-returns,
}

-- an opening that is not refused has IDs that are not 0
pub opened_some : (own peer : ℕ) → (opened_of own peer).refusal.number ≡ 0 → (own ≢ 0) × (peer ≢ 0)
unfolding opened_of
opened_some own peer = go (eqb own 0) refl (eqb peer 0) refl
  where
    go : (x : Bool) → eqb own 0 ≡ x → (y : Bool) → eqb peer 0 ≡ y → (opened_of own peer).refusal.number ≡ 0
        → (own ≢ 0) × (peer ≢ 0)
    go true p y r q = absurd (let z : ◌≡◌ {A = ℕ} 13 0 = rw p at q in omega arith)
    go false p true r q = absurd (let z : ◌≡◌ {A = ℕ} 13 0 = rw (p, r) at q in omega arith)
    go false p false r q = (eqb-false own 0 p, eqb-false peer 0 r)

module _ (card_id host_id : ℕ) (card_fits : card_id < frame_space) (host_fits : host_id < frame_space) (keep : Store)
    (back : KeepsPairs keep) where
  abbrev For : Site → Book → List ℕ → Type 0
  For = SiteFor card_id host_id card_fits host_fits keep back

  abbrev e : RestartEnds
  e = with_store keep

  all-calls : (list : List Call) (w : Site) (b : Book) (storings : List ℕ) → For w b storings
      → all_typed (events_in list) ≡ true
      → not_too_late b (observations_in (shown_by e w list)) ≡ true
      → nothing_accepted_since b storings (shown_by e w list) ≡ true
      → WritesAllowed (book_from b (observations_in (shown_by e w list)))
      → SystemFor card_id host_id (site_after e w list).system
      (book_from b (observations_in (shown_by e w list)))
  unfolding site_after shown_by site_step events_in observations_in book_from all_typed not_too_late nothing_accepted_since
  all-calls [] w b l f t i u k = f.agree
  all-calls (ordinary x ∷ xs) w b l f t i u k =
      let s = step specified w.system x in
      let w' : Site = record { system = s.system; kept = w.kept } in
      let later = observations_in (shown_by e w' xs) in
      let b' = book_step b s.observation in
      let timely = (and-eq-true_iff (in_time b s.observation.event) (not_too_late b' later)).0 i in
      let fitting = (and-eq-true_iff (typed x) (all_typed (events_in xs))).0 t in
      all-calls xs w' b' l
      (site-ordinary card_id host_id card_fits host_fits keep back w b l f x fitting.0
      (subst (λ (y : Event). in_time b y ≡ true) (seen-event specified w.system x) timely.0)
      (allowed-before b' later k))
      fitting.1 timely.1 u k
  all-calls (stores buffer ∷ xs) w b l f t i u k =
      all-calls xs _ b _ (site-stores card_id host_id card_fits host_fits keep back w b l f buffer) t i u k
  all-calls (returns j ∷ xs) w b l f t i u k =
      let since = (and-eq-true_iff (nothing_since b (get_elem? l j)) _).0 u in
      all-calls xs _ b l (site-returns card_id host_id card_fits host_fits keep back w b l f j since.0) t i since.1 k

  begins : (limit : ℕ) (slots memory : List ℕ)
      → BothOpen card_id host_id (specified.card_end.card_opening card_id host_id limit slots)
      (specified.host_end.host_opening host_id card_id)
      → For (initial_site e card_id host_id limit slots memory) (empty_book memory) []
  unfolding initial_site initial
  begins limit slots memory o =
      let some = opened_some host_id card_id o.host_opens in
      record {
        agree = starts card_id host_id card_fits host_fits limit slots memory o;
        reachable = opened-reachable host_id card_id host_fits card_fits;
        host_some = some.0;
        card_some = some.1;
        kept_for = tt;
      }

-- With any store that keeps pairs.
pub over-restarts-by : (keep : Store) → KeepsPairs keep → OverRestartsFor (with_store keep)
unfolding OverRestartsFor
over-restarts-by keep back card_id host_id limit slots memory list o t i u k =
    let w = initial_site (with_store keep) card_id host_id limit slots memory in
    let p = o.card_fits in
    let q = o.host_fits in
    guaranteed card_id host_id p q (site_after (with_store keep) w list).system
    (book_of memory (observations_in (shown_by (with_store keep) w list)))
    (all-calls card_id host_id p q keep back list w (empty_book memory) []
    (begins card_id host_id p q keep back limit slots memory o) t i u k)

pub demand3-over-restarts : OverRestarts
demand3-over-restarts = over-restarts-by specified_store read_back
