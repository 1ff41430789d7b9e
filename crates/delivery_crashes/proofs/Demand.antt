-- A crash is as if the arrivals that it undoes had been lost: what a list leaves is what its surviving calls leave. So
-- demand 3 over crashes follows from demand 3. Assumes nothing.
use Prim.Native.Nat.{ℕ, ◌<◌}
use native.Mathlib.Omega.{arith}
use mathlib.Core.Path.{◌≡◌, refl, sym, ap, ◌∙◌, subst}
use mathlib.Core.Bool.{Bool, true, false, cond, and-eq-true_iff}
use mathlib.Core.List.{List, [], ◌∷◌, append-nil}
use Rattle.seq.specs.Ring.{frame_space}
use Rattle.host.specs.Reachable.{Reachable}
use Rattle.host.proofs.Reachable.{opened-reachable}
use Rattle.delivery.specs.System.{
  specified,
  calls,
  receives,
  System,
  Observation,
  StepResult,
  RunResult,
  run,
  by_card,
  by_host,
  step,
  initial,
}
use Rattle.delivery.specs.Book.{Book, book_step, book_from, empty_book, book_of}
use Rattle.delivery.specs.Demand3.{
  BothOpen,
  typed,
  all_typed,
  in_time,
  not_too_late,
  WritesAllowed,
  outcome_of,
  Guarantees,
  Demand3For,
}
use Rattle.delivery.proofs.Book.Earlier.{allowed-before}
use Rattle.delivery.proofs.Demand.{starts, demand3}
use Rattle.delivery.proofs.Agree.{SystemFor}
use Rattle.delivery_restarts.specs.Restarts.{Store, specified_store, RestartEnds, with_store, specified_ends}
use Rattle.delivery_restarts.proofs.Restarting.{KeepsPairs, read_back}
use Rattle.delivery_restarts.proofs.Demand.{opened_some}
use Rattle.delivery_crashes.specs.Crashes.{
  Call,
  ordinary,
  stores,
  crashes,
  reads_undone,
  Site,
  site_step,
  site_after,
  shown_by,
  initial_site,
}
use Rattle.delivery_crashes.specs.OverCrashes.{
  undone_by,
  surviving,
  events_of,
  card_reads_kept,
  reads_kept,
  reads_only_kept,
  seen_in,
  AsIfLostFor,
  OverCrashesFor,
  AsIfLost,
  OverCrashes,
}
use Rattle.delivery_crashes.proofs.Standing.{
  standing,
  card_moves,
  moves-card,
  stands-crashes,
  SiteFor,
  stands-stores,
  site-calls,
  site-undone,
  site-receives,
  site-crashes,
  site-stores,
}

module _ (card_id host_id : ℕ) (card_fits : card_id < frame_space) (host_fits : host_id < frame_space) (keep : Store)
    (back : KeepsPairs keep) where
  abbrev For : Bool → Site → Book → Type 0
  For = SiteFor keep card_id host_id card_fits host_fits back

  abbrev e : RestartEnds
  e = with_store keep

  -- From v on, the surviving calls leave this end, with neither storing nor crash, and show the same.
  abbrev Leave : System → List Observation → System → Type 0
  Leave v seen end = run specified v (events_of seen) ≡ record { system = end; observations = seen }

  -- one surviving call, and those after it
  and_then : (v : System) (r : StepResult) (later : List Observation) (end : System)
      → step specified v r.observation.event ≡ r → Leave r.system later end
      → Leave v (r.observation ∷ later) end
  unfolding run
  and_then v r later end same rest =
      ap follow same
      ∙ ap (λ (q : RunResult). record { system = q.system; observations = r.observation ∷ q.observations }) rest
    where
      follow : StepResult → RunResult
      follow q =
          let z = run specified q.system (events_of later) in
          record { system = z.system; observations = q.observation ∷ z.observations }

  all-calls : (list : List Call) (w : Site) (b : Book) → For (undone_by (shown_by e w list)) w b
      → all_typed (events_of (seen_in e w list)) ≡ true
      → not_too_late b (seen_in e w list) ≡ true
      → reads_only_kept e w list ≡ true
      → WritesAllowed (book_from b (seen_in e w list))
      → Leave (standing (undone_by (shown_by e w list)) w) (seen_in e w list) (site_after e w list).system
  unfolding site_after shown_by site_step undone_by surviving run book_from all_typed typed not_too_late reads_kept
      reads_only_kept
      step by_card by_host
  all-calls [] w b f t i a k = refl
  all-calls (ordinary (calls x) ∷ xs) w b f t i a k =
      let s = step specified w.system (calls x) in
      let w' : Site = record { system = s.system; kept = w.kept; undone_acks = w.undone_acks } in
      let u = undone_by (shown_by e w' xs) in
      let later = seen_in e w' xs in
      let b' = book_step b s.observation in
      let timely = (and-eq-true_iff (in_time b (calls x)) (not_too_late b' later)).0 i in
      let fitting = (and-eq-true_iff (typed (calls x)) (all_typed (events_of later))).0 t in
      let left = (and-eq-true_iff (card_reads_kept w x) (reads_only_kept e w' xs)).0 a in
      and_then (standing u w) (card_moves keep u w x) later (site_after e w' xs).system
      (moves-card keep u w x f.grown left.0)
      (all-calls xs w' b'
      (site-calls keep card_id host_id card_fits host_fits back u w b f x left.0 fitting.0 timely.0
      (allowed-before b' later k))
      fitting.1 timely.1 left.1 k)
  all-calls (ordinary (receives n) ∷ xs) w b f t i a k =
      go (undone_by (shown_by e w' xs)) f t i k (λ b' g s j l. all-calls xs w' b' g s j a l)
    where
      w' : Site
      w' = (site_step e w (ordinary (receives n))).site

      s : StepResult
      s = step specified w.system (receives n)

      later : List Observation
      later = seen_in e w' xs

      end : System
      end = (site_after e w' xs).system

      seen : Bool → List Observation
      seen u = cond u later (s.observation ∷ later)

      go : (u : Bool) → For u w b → all_typed (events_of (seen u)) ≡ true → not_too_late b (seen u) ≡ true
          → WritesAllowed (book_from b (seen u))
          → ((b' : Book) → For u w' b' → all_typed (events_of later) ≡ true → not_too_late b' later ≡ true
          → WritesAllowed (book_from b' later) → Leave (standing u w') later end)
          → Leave (standing u w) (seen u) end
      go true f t i k rest = rest b (site-undone keep card_id host_id card_fits host_fits back w b n f) t i k
      go false f t i k rest =
          let b' = book_step b s.observation in
          let timely = (and-eq-true_iff (in_time b (receives n)) (not_too_late b' later)).0 i in
          and_then w.system s later end refl
          (rest b'
          (site-receives keep card_id host_id card_fits host_fits back w b n f timely.0 (allowed-before b' later k))
          t timely.1 k)
  all-calls (stores buffer ∷ xs) w b f t i a k =
      let w' = (site_step e w (stores buffer)).site in
      let u = undone_by (shown_by e w' xs) in
      subst (λ (v : System). Leave v (seen_in e w' xs) (site_after e w' xs).system)
      (stands-stores keep card_id host_id card_fits host_fits back u w b buffer f)
      (all-calls xs w' b (site-stores keep card_id host_id card_fits host_fits back u w b buffer f) t i a k)
  all-calls (crashes ∷ xs) w b f t i a k =
      let w' = (site_step e w crashes).site in
      let u = undone_by (shown_by e w' xs) in
      subst (λ (v : System). Leave v (seen_in e w' xs) (site_after e w' xs).system)
      (stands-crashes keep u w)
      (all-calls xs w' b (site-crashes keep card_id host_id card_fits host_fits back u w b f) t i a k)
  all-calls (reads_undone j ∷ xs) w b f t i a k =
      let z : ◌≡◌ {A = ℕ} 0 1 = ap (λ (x : Bool). cond x 1 0) a in
      absurd (omega arith)

  opening-stands : (u : Bool) (limit : ℕ) (slots memory : List ℕ)
      → standing u (initial_site e card_id host_id limit slots memory) ≡ initial specified card_id host_id limit slots memory
  unfolding initial_site
  opening-stands true limit slots memory = refl
  opening-stands false limit slots memory = refl

  begins : (u : Bool) (limit : ℕ) (slots memory : List ℕ)
      → BothOpen card_id host_id (specified.card_end.card_opening card_id host_id limit slots)
      (specified.host_end.host_opening host_id card_id)
      → For u (initial_site e card_id host_id limit slots memory) (empty_book memory)
  unfolding initial_site initial
  begins u limit slots memory o =
      let same = opening-stands u limit slots memory in
      let some = opened_some host_id card_id o.host_opens in
      record {
        agree = subst (λ (s : System). SystemFor card_id host_id s (empty_book memory)) (sym same)
            (starts card_id host_id card_fits host_fits limit slots memory o);
        reachable = subst (λ (s : System). Reachable s.host) (sym same)
            (opened-reachable host_id card_id host_fits card_fits);
        host_some = some.0;
        card_some = some.1;
        grown = ([], sym (append-nil _));
      }

-- With any store that keeps pairs.
pub as-if-lost-by : (keep : Store) → KeepsPairs keep → AsIfLostFor (with_store keep)
unfolding AsIfLostFor
as-if-lost-by keep back card_id host_id limit slots memory list o r =
    let p = o.card_fits in
    let q = o.host_fits in
    let w = initial_site (with_store keep) card_id host_id limit slots memory in
    let shown = shown_by (with_store keep) w list in
    let end = (site_after (with_store keep) w list).system in
    subst (λ (v : System). run specified v (events_of (surviving shown))
    ≡ record { system = end; observations = surviving shown })
    (opening-stands card_id host_id p q keep back (undone_by shown) limit slots memory)
    (all-calls card_id host_id p q keep back list w (empty_book memory)
    (begins card_id host_id p q keep back (undone_by shown) limit slots memory o)
    r.arguments_typed r.arrives_in_time r.only_kept_read r.writes_allowed)

-- Ends that meet demand 3 meet it over crashes, if the arrivals that a crash undoes are as if lost.
pub over-crashes-by : (e : RestartEnds) → AsIfLostFor e → Demand3For e.ends → OverCrashesFor e
unfolding AsIfLostFor Demand3For OverCrashesFor
over-crashes-by e lost demand card_id host_id limit slots memory list o r =
    let same = lost card_id host_id limit slots memory list o r in
    let seen = seen_in e (initial_site e card_id host_id limit slots memory) list in
    subst (λ (r : RunResult). Guarantees (outcome_of r.system) (book_of memory r.observations)) same
    (demand card_id host_id limit slots memory (events_of seen) o r.arguments_typed
    (subst (λ (q : RunResult). not_too_late (empty_book memory) q.observations ≡ true) (sym same) r.arrives_in_time)
    (subst (λ (q : RunResult). WritesAllowed (book_of memory q.observations)) (sym same) r.writes_allowed))

pub as-if-lost : AsIfLost
as-if-lost = as-if-lost-by specified_store read_back

pub demand3-over-crashes : OverCrashes
demand3-over-crashes = over-crashes-by specified_ends as-if-lost demand3
