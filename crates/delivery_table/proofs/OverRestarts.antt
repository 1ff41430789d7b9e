-- Demand 3 for each card of a table over restarts of the whole table: any turn keeps scene, book and what was kept in
-- agreement, and so a list's end does. The lists without a restart are those of specs/PerCard.antt. Assumes nothing.
use Prim.Native.Nat.{ℕ, ◌+◌, ◌≤◌, ◌<◌}
use mathlib.Core.Path.{◌≡◌, sym, ap}
use mathlib.Core.Bool.{Bool, true, false, ◌&&◌, ◌||◌, and-eq-true_iff, true≢false}
use mathlib.Core.List.{List, [], ◌∷◌}
use borrow.Author.Tests.{leb-true}
use lib.Dec.{leb}
use lib.ListN.{length, get_elem?}
use Rattle.seq.specs.Ring.{frame_space}
use Rattle.host.proofs.Reachable.{opened-reachable}
use Rattle.card.specs.Window.{unreleased}
use Rattle.delivery.specs.System.{calls, receives, specified, System, initial}
use Rattle.delivery.specs.Book.{Book, book_step, book_from, empty_book, book_of}
use Rattle.delivery.specs.Demand3.{typed, all_typed, in_time, not_too_late, WritesAllowed, outcome_of}
use Rattle.delivery.proofs.Book.Earlier.{allowed-before}
use Rattle.delivery.proofs.Agree.{SystemFor}
use Rattle.delivery.proofs.Demand.{starts, guaranteed}
use Rattle.delivery_restarts.specs.Restarts.{Store, specified_store}
use Rattle.delivery_restarts.specs.OverRestarts.{observations_in, nothing_since, nothing_accepted_since}
use Rattle.delivery_restarts.proofs.Restarting.{KeepsPairs, read_back}
use Rattle.delivery_restarts.proofs.Demand.{opened_some}
use Rattle.table.specs.Table.{open_table, register_refusal, register, region}
use Rattle.table.specs.Calls.{Call, registers, Site, open_site, lent_length, site_step, site_after}
use Rattle.table.proofs.Reachable.{open-reachable}
use Rattle.table.proofs.Calls.{calls-own, calls-reachable}
use Rattle.delivery_table.specs.PerCard.{
  of_card,
  arrives,
  rehoused,
  besides,
  own_events,
  on_card,
  on_table,
  Scene,
  act_for,
  leaves_alone,
  allowed,
  opened,
  begin,
  outcome_in,
}
use Rattle.delivery_table.specs.Restarts.{
  StoringEnd,
  with_store,
  Turn,
  ordinary,
  stores,
  leaves,
  reopens,
  returns,
  KeptScene,
  turn_for,
  after_turns,
  shown_by_turns,
  turn_events,
  needs_card,
  allowed_turns,
  FineReturns,
}
use Rattle.delivery_table.specs.OverRestarts.{PerCardOverRestartsFor, PerCardOverRestarts}
use Rattle.delivery_table.proofs.Tied.{Tied}
use Rattle.delivery_table.proofs.Outcome.{guarantees-same}
use Rattle.delivery_table.proofs.PerCard.{new-pair, new-tied}
use Rattle.delivery_table.proofs.Restarting.{
  Going,
  going-card,
  going-table,
  going-aside,
  going-rehoused,
  going-leaves,
  going-reopens,
  going-stores,
  going-returns,
}

-- ---- all turns

module _ (card_id host_id : ℕ) (card_fits : card_id < frame_space) (host_fits : host_id < frame_space) (a k : ℕ) (keep : Store)
    (back : KeepsPairs keep) where
  abbrev e : StoringEnd
  e = with_store keep

  abbrev Goes : KeptScene → Bool → Book → List ℕ → Type 0
  Goes = Going card_id host_id card_fits host_fits a k keep back

  -- The card is at the table, as a system of delivery that agrees with the card's book.
  record Ended (v : Scene) (b : Book) : Type 0 where
    last : System
    tied : Tied card_id a k v last
    agrees : SystemFor card_id host_id last b

  lent-enough : (lent : ℕ) (rest : Bool) → ((leb (a + k) lent && true) && rest) ≡ true
      → (a + k ≤ lent) × (rest ≡ true)
  lent-enough lent rest q =
      let here = (and-eq-true_iff (leb (a + k) lent && true) rest).0 q in
      (leb-true (a + k) lent ((and-eq-true_iff (leb (a + k) lent) true).0 here.0).0, here.1)

  all-turns : (xs : List Turn) (v : KeptScene) (there : Bool) (b : Book) (storings : List ℕ)
      → Goes v there b storings → allowed_turns card_id (a + k) there xs ≡ true → FineReturns e v xs
      → all_typed (turn_events xs) ≡ true
      → not_too_late b (observations_in (shown_by_turns e v xs)) ≡ true
      → nothing_accepted_since b storings (shown_by_turns e v xs) ≡ true
      → WritesAllowed (book_from b (observations_in (shown_by_turns e v xs)))
      → Ended (after_turns e v xs).scene (book_from b (observations_in (shown_by_turns e v xs)))
  unfolding after_turns shown_by_turns turn_for act_for turn_events own_events observations_in book_from all_typed not_too_late
      nothing_accepted_since allowed_turns allowed needs_card
  all-turns [] v true b l g al fine ty ti u wr = record { last = g.system; tied = g.stands; agrees = g.agree }
  all-turns [] v false b l g al fine ty ti u wr = absurd (true≢false (sym al))
  all-turns (ordinary (of_card x) ∷ xs) v there b l g al fine ty ti u wr =
      let told = (on_card v.scene x).observation in
      let b' = book_step b told in
      let v' : KeptScene = record { scene = (on_card v.scene x).scene; kept = v.kept } in
      let seen = observations_in (shown_by_turns e v' xs) in
      let fitting = (and-eq-true_iff (typed (calls x)) (all_typed (turn_events xs))).0 ty in
      let timely = (and-eq-true_iff (in_time b told.event) (not_too_late b' seen)).0 ti in
      let rest = (and-eq-true_iff (there || true) (allowed_turns card_id (a + k) there xs)).0 al in
      all-turns xs v' there b' l
      (going-card card_id host_id card_fits host_fits a k keep back v b l there g x fitting.0 timely.0
      (allowed-before b' seen wr)) rest.1 fine fitting.1 timely.1 u wr
  all-turns (ordinary (arrives j lent) ∷ xs) v true b l g al fine ty ti u wr =
      let told = (on_table v.scene j lent).observation in
      let b' = book_step b told in
      let v' : KeptScene = record { scene = (on_table v.scene j lent).scene; kept = v.kept } in
      let seen = observations_in (shown_by_turns e v' xs) in
      let timely = (and-eq-true_iff (in_time b told.event) (not_too_late b' seen)).0 ti in
      let rest = lent-enough lent (allowed_turns card_id (a + k) true xs) al in
      all-turns xs v' true b' l
      (going-table card_id host_id card_fits host_fits a k keep back v b l g j lent rest.0 timely.0
      (allowed-before b' seen wr)) rest.1 fine
      ((and-eq-true_iff (typed (receives j)) (all_typed (turn_events xs))).0 ty).1 timely.1 u wr
  all-turns (ordinary (arrives j lent) ∷ xs) v false b l g al fine ty ti u wr =
      absurd (true≢false (sym ((and-eq-true_iff (leb (a + k) lent && true) false).0 al).1))
  all-turns (ordinary (rehoused lent) ∷ xs) v true b l g al fine ty ti u wr =
      let rest = lent-enough lent (allowed_turns card_id (a + k) true xs) al in
      all-turns xs _ true b l (going-rehoused card_id host_id card_fits host_fits a k keep back v b l g lent rest.0)
      rest.1 fine ty ti u wr
  all-turns (ordinary (rehoused lent) ∷ xs) v false b l g al fine ty ti u wr =
      absurd (true≢false (sym ((and-eq-true_iff (leb (a + k) lent && true) false).0 al).1))
  all-turns (ordinary (besides c) ∷ xs) v there b l g al fine ty ti u wr =
      let here = (and-eq-true_iff (leaves_alone card_id c && true)
      ((there || true) && allowed_turns card_id (a + k) there xs)
      ).0 al in
      let alone = (and-eq-true_iff (leaves_alone card_id c) true).0 here.0 in
      let rest = (and-eq-true_iff (there || true) (allowed_turns card_id (a + k) there xs)).0 here.1 in
      all-turns xs _ there b l
      (going-aside card_id host_id card_fits host_fits a k keep back v b l there g c alone.0) rest.1 fine ty ti u wr
  all-turns (stores buffer ∷ xs) v true b l g al fine ty ti u wr =
      all-turns xs _ true b _ (going-stores card_id host_id card_fits host_fits a k keep back v b l g buffer) al fine ty
      ti u wr
  all-turns (stores buffer ∷ xs) v false b l g al fine ty ti u wr = absurd (true≢false (sym al))
  all-turns (leaves ∷ xs) v there b l g al fine ty ti u wr =
      all-turns xs _ false b l (going-leaves card_id host_id card_fits host_fits a k keep back v b l there g) al fine ty ti
      u wr
  all-turns (reopens memory ∷ xs) v there b l g al fine ty ti u wr =
      all-turns xs _ false b l (going-reopens card_id host_id card_fits host_fits a k keep back v b l there g memory) al
      fine ty ti u wr
  all-turns (returns j lent ∷ xs) v true b l g al fine ty ti u wr = absurd (true≢false (sym al))
  all-turns (returns j lent ∷ xs) v false b l g al fine ty ti u wr =
      let since = (and-eq-true_iff (nothing_since b (get_elem? l j)) _).0 u in
      all-turns xs _ true b l
      (going-returns card_id host_id card_fits host_fits a k keep back v b l g j lent since.0 fine.0) al fine.1 ty
      ti
      since.1 wr

-- ---- from the card's registering on

module _ (card_id host_id limit first size lent : ℕ) (slots memory : List ℕ) (earlier : List Call)
    (c : card_id < frame_space) (h : host_id < frame_space) (opens-card : (opened card_id host_id limit slots).refusal ≡ 0)
    (keep : Store) (back : KeepsPairs keep) where
  abbrev site : Site
  site = site_after (open_site host_id memory) earlier

  abbrev from : List ℕ
  from = region first size site.memory

  abbrev start : KeptScene
  start = record {
    scene = begin card_id host_id limit slots (site_step site (registers card_id first size lent));
    kept = [];
  }

  begins : register_refusal site.table card_id first size (lent_length site lent) ≡ 0
      → Going card_id host_id c h first size keep back start true (empty_book from) []
  unfolding open_table initial
  begins z =
      let r = calls-reachable (open_site host_id memory) earlier (open-reachable host_id (length memory)) in
      let own_is = calls-own (open_site host_id memory) earlier in
      let fine = (new-pair card_id host_id limit first size lent slots site r own_is z).1 in
      let some = opened_some host_id card_id fine in
      record {
        system = initial specified card_id host_id limit slots from;
        agree = starts card_id host_id c h limit slots from
            (record { card_fits = c; host_fits = h; card_opens = opens-card; host_opens = fine });
        reachable = opened-reachable host_id card_id h c;
        host_some = some.0;
        card_some = some.1;
        stands = new-tied card_id host_id limit first size lent slots site r own_is z;
        kept_for = tt;
      }

-- With any store that keeps pairs.
pub over-restarts-by : (keep : Store) → KeepsPairs keep → PerCardOverRestartsFor (with_store keep)
unfolding PerCardOverRestartsFor register
over-restarts-by keep back card_id host_id limit first size lent slots memory earlier turns c h opens-card z al fine ty
    ti u wr =
    let v = start card_id host_id limit first size lent slots memory earlier c h opens-card keep back in
    let x = with_store keep in
    let w = site_after (open_site host_id memory) earlier in
    let b = book_of (region first size w.memory) (observations_in (shown_by_turns x v turns)) in
    let r = all-turns card_id host_id c h first size keep back turns v true (empty_book (region first size w.memory)) []
    (begins card_id host_id limit first size lent slots memory earlier c h opens-card keep back z) al fine ty ti u wr in
    guarantees-same (outcome_in first size (after_turns x v turns).scene) (outcome_of r.last) b r.tied.answers-are
    r.tied.bytes-are (ap (λ (s : System). unreleased s.card.window) r.tied.columns)
    (guaranteed card_id host_id c h r.last b r.agrees)

pub per-card-over-restarts : PerCardOverRestarts
per-card-over-restarts = over-restarts-by specified_store read_back
