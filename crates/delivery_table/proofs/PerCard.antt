-- Demand 3 for each card of a table: leaving out what others do, a list of the scene is a list of delivery over the
-- card's region, and leaves the same. So what delivery shows of that list is what is to be shown.
-- Assumes nothing.
use Prim.Native.Nat.{ℕ, ◌+◌, ◌<◌}
use native.Mathlib.Omega.{arith}
use mathlib.Core.Path.{◌≡◌, refl, sym, ◌∙◌, ap}
use mathlib.Core.Logic.{◌≢◌}
use mathlib.Core.Bool.{true, and-eq-true_iff}
use mathlib.Core.List.{List, [], ◌∷◌, ◌++◌}
use borrow.Author.Tests.{ne_eqb, leb-true}
use lib.Dec.{leb}
use lib.ListN.{length, get_or}
use Rattle.seq.specs.Ring.{frame_space}
use Rattle.host.specs.declared.Sums.{Sums}
use Rattle.host.specs.declared.Answer.{Answer}
use Rattle.host.specs.Host.{fresh, opened_of}
use Rattle.card.specs.Window.{unreleased}
use Rattle.delivery.specs.System.{
  specified_card,
  specified_host,
  specified,
  calls,
  System,
  card_step,
  host_step,
  step,
  initial,
}
use Rattle.delivery.specs.Book.{Book, book_step, book_from, empty_book, book_of}
use Rattle.delivery.specs.Demand3.{typed, all_typed, in_time, not_too_late, WritesAllowed, outcome_of, sum_over, BothOpen}
use Rattle.delivery.proofs.Book.Earlier.{allowed-before}
use Rattle.delivery.proofs.Agree.{SystemFor}
use Rattle.delivery.proofs.Demand.{starts, guaranteed}
use Rattle.table.specs.Table.{Entry, open_table, register_refusal, region, register}
use Rattle.table.specs.Calls.{
  Call,
  registers,
  comes,
  Site,
  open_site,
  lent_length,
  receiving,
  site_step,
  site_after,
  is_from,
  site_step_for,
  site_after_for,
}
use Rattle.delivery_table.specs.PerCard.{
  Action,
  of_card,
  arrives,
  rehoused,
  besides,
  own_events,
  Scene,
  on_card,
  on_table,
  aside,
  rehouse,
  act,
  leaves_alone,
  allowed,
  opened,
  begin,
  outcome_in,
  Demand3PerCard,
  act_for,
  Demand3PerCardFor,
}
use Rattle.table.proofs.Reachable.{registerable, open-reachable}
use Rattle.table.proofs.Calls.{ReachableSite, calls-own, calls-reachable}
use Rattle.table.proofs.Holding.{registers-new}
use Rattle.delivery_table.specs.Bill.{answers_to, table_calls, CountedPerCard}
use Rattle.delivery_table.proofs.Bill.{empty}
use Rattle.delivery_table.proofs.HandOuts.{ours-or-short}
use Rattle.delivery_table.proofs.Tied.{Tied, tied-card, tied-aside, tied-rehoused}
use Rattle.delivery_table.proofs.Stepping.{agrees-card, agrees-table, stays-tied}
use Rattle.delivery_table.proofs.Counting.{by_one, on_card-keeps, on_table-does, skipped, moved, own_alone}
use Rattle.delivery_table.proofs.Outcome.{guarantees-same}

-- ---- all actions

module _ (card_id host_id : ℕ) (card_fits : card_id < frame_space) (host_fits : host_id < frame_space) (a k : ℕ) where
  abbrev Ties : Scene → System → Type 0
  Ties = Tied card_id a k

  abbrev For : System → Book → Type 0
  For = SystemFor card_id host_id

  -- Some list of delivery leaves what the scene shows of the card, and agrees with the card's book.
  record Ended (v : Scene) (xs : List Action) (b : Book) : Type 0 where
    last : System
    tied : Ties (act v xs).scene last
    agrees : For last b
    called : site_after v.site (table_calls v xs) ≡ (act v xs).scene.site
    counted : (g : Sums → ℕ)
        → sum_over g (act v xs).scene.answers
        ≡ sum_over g v.answers + sum_over g (answers_to (is_from card_id) v.site (table_calls v xs))

  project : (xs : List Action) (v : Scene) (w : System) (b : Book) → Ties v w → For w b
      → allowed card_id (a + k) xs ≡ true → all_typed (own_events xs) ≡ true
      → not_too_late b (act v xs).observations ≡ true → WritesAllowed (book_from b (act v xs).observations)
      → Ended v xs (book_from b (act v xs).observations)
  unfolding act_for own_events allowed all_typed not_too_late book_from typed step table_calls site_after_for answers_to
  project [] v w b t f al ty ti wr = record {
    last = w;
    tied = t;
    agrees = f;
    called = refl;
    counted = λ g. omega (arith, empty g);
  }
  project (besides c ∷ xs) v w b t f al ty ti wr =
      let q = (and-eq-true_iff (leaves_alone card_id c) (allowed card_id (a + k) xs)).0 al in
      let r = project xs (aside v c) w b (tied-aside card_id a k v w t c q.0) f q.1 ty ti wr in
      record {
        last = r.last;
        tied = r.tied;
        agrees = r.agrees;
        called = r.called;
        counted = λ g. rw (skipped card_id v.site c (table_calls (aside v c) xs) q.0) (r.counted g);
      }
  project (rehoused lent ∷ xs) v w b t f al ty ti wr =
      let q = (and-eq-true_iff (leb (a + k) lent) (allowed card_id (a + k) xs)).0 al in
      let own : v.card.own ≡ card_id = ap (λ (u : System). u.card.own) t.columns ∙ f.card_own in
      let r = project xs (rehouse v lent) w b
      (tied-rehoused card_id a k v w t lent own (leb-true (a + k) lent q.0)) f q.1 ty ti wr in
      let there = moved v.card.own v.site lent in
      record {
        last = r.last;
        tied = r.tied;
        agrees = r.agrees;
        called = ap (λ (y : Site). site_after y (table_calls (rehouse v lent) xs)) there ∙ r.called;
        counted = λ g.
            r.counted g
            ∙ ap (λ (y : Site). sum_over g v.answers
            + sum_over g (answers_to (is_from card_id) y (table_calls (rehouse v lent) xs))) (sym there);
      }
  project (of_card x ∷ xs) v w b t f al ty ti wr =
      let told = (on_card v x).observation in
      let later = (act (on_card v x).scene xs).observations in
      let b' = book_step b told in
      let fitting = (and-eq-true_iff (typed (calls x)) (all_typed (own_events xs))).0 ty in
      let timely = (and-eq-true_iff (in_time b told.event) (not_too_late b' later)).0 ti in
      let onward = agrees-card card_id host_id card_fits host_fits v w b f x t.columns fitting.0 timely.0
      (allowed-before b' later wr) in
      let r = project xs (on_card v x).scene (card_step specified_card w x).system b' (tied-card card_id a k v w t x)
      onward
      al fitting.1 timely.1 wr in
      let kept = on_card-keeps v x in
      let rest = table_calls (on_card v x).scene xs in
      record {
        last = r.last;
        tied = r.tied;
        agrees = r.agrees;
        called = ap (λ (y : Site). site_after y rest) (sym kept.0) ∙ r.called;
        counted = λ g.
            r.counted g
            ∙ ap (λ (l : List Answer). sum_over g l
            + sum_over g (answers_to (is_from card_id) (on_card v x).scene.site rest)) kept.1
            ∙ ap (λ (y : Site). sum_over g v.answers + sum_over g (answers_to (is_from card_id) y rest)) kept.0;
      }
  project (arrives j lent ∷ xs) v w b t f al ty ti wr =
      let told = (on_table v j lent).observation in
      let later = (act (on_table v j lent).scene xs).observations in
      let b' = book_step b told in
      let permitted = (and-eq-true_iff (leb (a + k) lent) (allowed card_id (a + k) xs)).0 al in
      let timely = (and-eq-true_iff (in_time b told.event) (not_too_late b' later)).0 ti in
      let tied = stays-tied card_id host_id card_fits host_fits v w b f a k t j lent
      (leb-true (a + k) lent permitted.0) in
      let onward = agrees-table card_id host_id card_fits host_fits v w b f j lent timely.0
      (allowed-before b' later wr) in
      let r = project xs (on_table v j lent).scene (host_step specified_host w j).system b' tied onward permitted.1 ty
      timely.1 wr in
      let part = get_or v.hand_outs j [] in
      let given = (receiving v.site part lent).answer in
      let rest = table_calls (on_table v j lent).scene xs in
      let does = on_table-does v j lent in
      let handed : get_or w.hand_outs j [] ≡ part =
      ap (λ (u : System). get_or u.hand_outs j []) (sym t.columns) in
      let alone = own_alone card_id a k v w t part lent (rw handed at
      (ours-or-short card_id host_id card_fits host_fits w b f j)) in
      record {
        last = r.last;
        tied = r.tied;
        agrees = r.agrees;
        called = ap (λ (y : Site). site_after y rest) (sym does.0) ∙ r.called;
        counted = λ g.
            by_one g v.answers given (is_from card_id part)
            (answers_to (is_from card_id) (site_step v.site (comes part lent)) rest) _ (alone g)
            (r.counted g
            ∙ ap (λ (l : List Answer). sum_over g l
            + sum_over g (answers_to (is_from card_id) (on_table v j lent).scene.site rest)) does.1
            ∙ ap (λ (y : Site). sum_over g (v.answers ++ (given ∷ []))
            + sum_over g (answers_to (is_from card_id) y rest)) does.0);
      }

-- ---- the start

opened-pair : (host_id card_id : ℕ) → host_id ≢ 0 → card_id ≢ 0
    → ((opened_of host_id card_id).pair ≡ fresh host_id card_id) × ((opened_of host_id card_id).refusal.number ≡ 0)
unfolding opened_of
opened-pair host_id card_id h c = rw (ne_eqb host_id 0 h, ne_eqb card_id 0 c) (refl, refl)

-- the card and its pair, freshly opened, are two fresh ends
module _ (card_id host_id limit first size lent : ℕ) (slots : List ℕ) (w : Site) (r : ReachableSite w)
    (own_is : w.table.own ≡ host_id) (z : register_refusal w.table card_id first size (lent_length w lent) ≡ 0) where
  pub new-pair : ((opened_of host_id card_id).pair ≡ fresh host_id card_id) × ((opened_of host_id card_id).refusal.number ≡ 0)
  new-pair =
      let g = registerable w.table card_id first size (lent_length w lent) z in
      opened-pair host_id card_id (λ q. g.own-some (own_is ∙ q)) g.source-some

  pub new-tied : Tied card_id first size
      (begin card_id host_id limit slots (site_step w (registers card_id first size lent)))
      (initial specified card_id host_id limit slots (region first size w.memory))
  unfolding initial site_step_for
  new-tied =
      let n = registers-new w card_id first size lent r z in
      record {
        columns = refl;
        holds = n.0;
        pair_is = ap (λ (e : Entry). e.pair) n.1 ∙ ap (λ (h : ℕ). fresh h card_id) own_is ∙ sym new-pair.0;
        bytes-are = refl;
        answers-are = refl;
      }

module _ (card_id host_id limit first size lent : ℕ) (slots memory : List ℕ) (earlier : List Call)
    (actions : List Action) (c : card_id < frame_space) (h : host_id < frame_space)
    (opens-card : (opened card_id host_id limit slots).refusal ≡ 0) where
  abbrev site : Site
  site = site_after (open_site host_id memory) earlier

  abbrev scene : Scene
  scene = begin card_id host_id limit slots (site_step site (registers card_id first size lent))

  abbrev from : List ℕ
  from = region first size site.memory

  ended : register_refusal site.table card_id first size (lent_length site lent) ≡ 0
      → allowed card_id (first + size) actions ≡ true → all_typed (own_events actions) ≡ true
      → not_too_late (empty_book from) (act scene actions).observations ≡ true
      → WritesAllowed (book_of from (act scene actions).observations)
      → Ended card_id host_id c h first size scene actions (book_of from (act scene actions).observations)
  unfolding open_table
  ended z al ty ti wr =
      let r = calls-reachable (open_site host_id memory) earlier (open-reachable host_id (length memory)) in
      let own_is = calls-own (open_site host_id memory) earlier in
      let ends : BothOpen card_id host_id (opened card_id host_id limit slots) (opened_of host_id card_id) = record {
        card_fits = c;
        host_fits = h;
        card_opens = opens-card;
        host_opens = (new-pair card_id host_id limit first size lent slots site r own_is z).1;
      } in
      project card_id host_id c h first size actions scene (initial specified card_id host_id limit slots from)
      (empty_book from) (new-tied card_id host_id limit first size lent slots site r own_is z)
      (starts card_id host_id c h limit slots from ends) al ty ti wr

pub per-card : Demand3PerCard
unfolding Demand3PerCardFor register
per-card card_id host_id limit first size lent slots memory earlier actions c h opens-card z al ty ti wr =
    let e = ended card_id host_id limit first size lent slots memory earlier actions c h opens-card z al ty ti wr in
    let w = site_after (open_site host_id memory) earlier in
    let v = begin card_id host_id limit slots (site_step w (registers card_id first size lent)) in
    let b = book_of (region first size w.memory) (act v actions).observations in
    guarantees-same (outcome_in first size (act v actions).scene) (outcome_of e.last) b e.tied.answers-are
    e.tied.bytes-are (ap (λ (u : System). unreleased u.card.window) e.tied.columns)
    (guaranteed card_id host_id c h e.last b e.agrees)

pub counted-per-card : CountedPerCard
unfolding CountedPerCard
counted-per-card card_id host_id limit first size lent slots memory earlier actions c h opens-card z al ty ti wr =
    let e = ended card_id host_id limit first size lent slots memory earlier actions c h opens-card z al ty ti wr in
    (e.called, λ g. whole g _ (e.counted g))
  where
    whole : (g : Sums → ℕ) (n : ℕ) {m : ℕ} → m ≡ sum_over g [] + n → m ≡ n
    whole g n {m} q = omega (arith, q, empty g)
