-- Restarts of the whole table: what was kept is the card's pair and its bytes still, so long as nothing more of the
-- card is accepted; so a return that the premises allow ties the card to the table again. Assumes nothing.
use Prim.Native.Nat.{ℕ, zero, suc, ◌+◌, ◌≤◌, ◌<◌}
use native.Mathlib.Omega.{arith}
use mathlib.Core.Path.{◌≡◌, refl, sym, ap, ◌∙◌, subst}
use mathlib.Core.Logic.{◌≢◌, ◌⊎◌, inl, inr}
use mathlib.Core.Bool.{Bool, true, false, cond}
use mathlib.Core.List.{List, [], ◌∷◌, ◌++◌, append-nil, map, Memᴰ}
use mathlib.Core.Option.{none, some}
use borrow.Author.Tests.{eqb-true}
use lib.Dec.{eqb}
use lib.ListN.{length, get_or, get_elem?}
use Rattle.seq.specs.Ring.{frame_space}
use Rattle.host.specs.declared.Pair.{Pair}
use Rattle.host.specs.declared.Answer.{Answer}
use Rattle.host.specs.Host.{receive_of}
use Rattle.host.specs.Reachable.{Reachable}
use Rattle.delivery.specs.System.{
  specified_card,
  specified_host,
  CardCall,
  calls,
  System,
  by_card,
  by_host,
  card_step,
  host_step,
}
use Rattle.delivery.specs.Book.{Book, book_step}
use Rattle.delivery.specs.Demand3.{typed, in_time, WritesAllowed, seen_as}
use Rattle.delivery.proofs.Book.Along.{Along, along-more, along-alike}
use Rattle.delivery.proofs.Agree.{SystemFor}
use Rattle.delivery_restarts.specs.Restarts.{Store, text_left}
use Rattle.delivery_restarts.specs.OverRestarts.{acceptances, nothing_since}
use Rattle.delivery_restarts.proofs.Accepting.{acceptance, unmoved, accepted-in, accepted-more}
use Rattle.delivery_restarts.proofs.Reaching.{receives-reachable}
use Rattle.delivery_restarts.proofs.Restarting.{KeepsPairs, HostEffect}
use Rattle.table.specs.Table.{Entry, entry_of, region}
use Rattle.table.specs.Adopting.{take_out, adopt_refusal, adopt}
use Rattle.table.specs.TableEnd.{specified_table}
use Rattle.table.specs.Calls.{Call, adopts, removes, Site, lent_length, site_step_for, site_step}
use Rattle.table.proofs.Adopting.{taken-pair}
use Rattle.table.proofs.Reachable.{open-reachable}
use Rattle.table.proofs.Calls.{ReachableSite, call-reachable}
use Rattle.table.proofs.Holding.{Holds, found-entry, held-registered, adopts-new}
use Rattle.delivery_table.specs.PerCard.{Scene, with_site, card_side, on_card, on_table, aside, rehouse, leaves_alone}
use Rattle.delivery_table.specs.Restarts.{
  StoringEnd,
  with_store,
  KeptCard,
  KeptScene,
  storing_refusal,
  kept_by,
  left_for,
  reopened_for,
  returned_for,
  return_refusal,
  FineReturn,
}
use Rattle.delivery_table.proofs.CardSide.{card_part, quiet, columns-card}
use Rattle.delivery_table.proofs.Tied.{Tied, tied-card, tied-aside, tied-rehoused}
use Rattle.delivery_table.proofs.Stepping.{agrees-card, agrees-table, stays-tied}

-- ---- what stands at index k of both of two lists, if anything does

module _ {A B : Type 0} (R : A → B → Type 0) where
  abbrev Matched : List A → List B → ℕ → Type 0
  Matched xs ys k =
      ((get_elem? xs k ≡ none) × (get_elem? ys k ≡ none))
      ⊎ ((x : A) × (y : B) × (get_elem? xs k ≡ some x) × (get_elem? ys k ≡ some y) × R x y)

  along-find : (xs : List A) (ys : List B) → Along R xs ys → (k : ℕ) → Matched xs ys k
  along-find [] [] a k = inl (refl, refl)
  along-find [] (y ∷ ys) a k = absurd a
  along-find (x ∷ xs) [] a k = absurd a
  along-find (x ∷ xs) (y ∷ ys) a zero = inr (x, y, refl, refl, a.0)
  along-find (x ∷ xs) (y ∷ ys) a (suc k) = along-find xs ys a.1 k

-- ---- an event moves the card's pair only where one arrival more is accepted

module _ (card_id host_id : ℕ) (card_fits : card_id < frame_space) (host_fits : host_id < frame_space) (w : System)
    (b b' : Book) (f : SystemFor card_id host_id w b) where
  counted : (u : System) (c : Book) → SystemFor card_id host_id u c
      → acceptances c.expected ≡ acceptances (map seen_as u.answers)
  counted u c g = accepted-in u.answers c.expected g.rest.traffic.matching

  effect-card : (x : CardCall) → SystemFor card_id host_id (card_step specified_card w x).system b'
      → HostEffect w (card_step specified_card w x).system b b'
  unfolding by_card
  effect-card x g =
      let same : acceptances b'.expected ≡ acceptances b.expected =
      counted (card_step specified_card w x).system b' g ∙ sym (counted w b f) in
      record { grows = omega (arith, same); untouched = λ z. (refl, refl); keeps_reachable = λ r. r }

  effect-table : (j : ℕ) → SystemFor card_id host_id (host_step specified_host w j).system b'
      → HostEffect w (host_step specified_host w j).system b b'
  unfolding by_host
  effect-table j g =
      let frame = get_or w.hand_outs j [] in
      let a : Answer = (receive_of w.host frame w.memory).answer in
      let more : acceptances b'.expected ≡ acceptances b.expected + acceptance a =
      counted (host_step specified_host w j).system b' g ∙ accepted-more w.answers a
      ∙ ap (λ (n : ℕ). n + acceptance a) (sym (counted w b f)) in
      record {
        grows = omega (arith, more);
        untouched = λ z. unmoved w.host frame w.memory (omega (arith, more, z));
        keeps_reachable = receives-reachable card_id host_id card_fits host_fits w b f j;
      }

-- ---- the card at the table, or not

-- While the card is not at the table, only its own side is tied.
pub record Away (v : Scene) (w : System) : Type 0 where
  pub columns : card_side v ≡ card_part w
  pub reachable : ReachableSite v.site
  pub answers-are : map seen_as v.answers ≡ map seen_as w.answers

module _ (card_id a k : ℕ) where
  abbrev pub Stands : Bool → Scene → System → Type 0
  Stands true v w = Tied card_id a k v w
  Stands false v w = Away v w

  stands-away : (there : Bool) (v : Scene) (w : System) → Stands there v w → Away v w
  stands-away true v w t =
      record { columns = t.columns; reachable = t.holds.reachable; answers-are = t.answers-are }
  stands-away false v w t = t

  stands-card : (there : Bool) (v : Scene) (w : System) (x : CardCall) → Stands there v w
      → Stands there (on_card v x).scene (card_step specified_card w x).system
  unfolding on_card
  stands-card true v w x t = tied-card card_id a k v w t x
  stands-card false v w x t = record {
    columns = (columns-card v w x t.columns).0;
    reachable = t.reachable;
    answers-are = t.answers-are ∙ ap (map seen_as) (sym (quiet x w).answers-same);
  }

  stands-aside : (there : Bool) (v : Scene) (w : System) (c : Call) → leaves_alone card_id c ≡ true
      → Stands there v w → Stands there (aside v c) w
  stands-aside true v w c o t = tied-aside card_id a k v w t c o
  stands-aside false v w c o t = record {
    columns = t.columns;
    reachable = call-reachable v.site c t.reachable;
    answers-are = t.answers-are;
  }

  -- its pair is adopted with its region, which has its bytes
  came-back : (v : Scene) (w : System) (p : Pair) (first size lent : ℕ) → Away v w → p ≡ w.host
      → w.host.peer ≡ card_id → first ≡ a → size ≡ k
      → adopt_refusal v.site.table p first size (lent_length v.site lent) ≡ 0
      → region first size v.site.memory ≡ w.memory
      → Tied card_id a k (with_site v (site_step v.site (adopts p first size lent))) w
  unfolding site_step_for
  came-back v w p first size lent t pair peer first-is size_is z bytes =
      let n = adopts-new v.site p first size lent t.reachable z in
      let from : p.peer ≡ card_id = ap (λ (q : Pair). q.peer) pair ∙ peer in
      record {
        columns = t.columns;
        holds = rw (← from, ← first-is, ← size_is) n.0;
        pair_is = rw (← from) (ap (λ (x : Entry). x.pair) n.1 ∙ pair);
        bytes-are = rw (← first-is, ← size_is) bytes;
        answers-are = t.answers-are;
      }

-- ---- scene, book and what was kept

module _ (card_id host_id : ℕ) (card_fits : card_id < frame_space) (host_fits : host_id < frame_space) (a k : ℕ) (keep : Store)
    (back : KeepsPairs keep) where
  abbrev e : StoringEnd
  e = with_store keep

  -- What was kept when n arrivals of the card were accepted.
  abbrev KeptAt : System → Book → KeptCard → ℕ → Type 0
  KeptAt w b x n =
      (n ≤ acceptances b.expected)
      × (x.first ≡ a)
      × (x.size ≡ k)
      × (acceptances b.expected ≡ n → ((keep.restoring x.text).pair ≡ w.host) × (x.bytes ≡ w.memory))

  pub record Going (v : KeptScene) (there : Bool) (b : Book) (storings : List ℕ) : Type 0 where
    pub system : System
    pub agree : SystemFor card_id host_id system b
    pub reachable : Reachable system.host
    pub host_some : host_id ≢ 0
    pub card_some : card_id ≢ 0
    pub stands : Stands card_id a k there v.scene system
    pub kept_for : Along (KeptAt system b) v.kept storings

  abbrev with-scene : KeptScene → Scene → KeptScene
  with-scene v x = record { scene = x; kept = v.kept }

  -- what was kept stays as it was kept
  later : (w w' : System) (b b' : Book) → HostEffect w w' b b' → (l : List KeptCard) (storings : List ℕ)
      → Along (KeptAt w b) l storings → Along (KeptAt w' b') l storings
  later w w' b b' h l storings = along-alike (KeptAt w b) (KeptAt w' b') l storings one
    where
      one : (n : ℕ) → Memᴰ n storings → (y : KeptCard) → KeptAt w b y n → KeptAt w' b' y n
      one n m y q = (
        omega (arith, q.0, h.grows),
        q.1,
        q.2,
        λ z.
            let u = h.untouched (omega (arith, q.0, h.grows, z)) in
            let r = q.3 (omega (arith, q.0, h.grows, z)) in
            (r.0 ∙ sym u.0, r.1 ∙ sym u.1),
      )

  module _ (v : KeptScene) (b : Book) (storings : List ℕ) where
    pub going-card : (there : Bool) → Going v there b storings → (x : CardCall) → typed (calls x) ≡ true
        → in_time b (on_card v.scene x).observation.event ≡ true
        → WritesAllowed (book_step b (on_card v.scene x).observation)
        → Going (with-scene v (on_card v.scene x).scene) there (book_step b (on_card v.scene x).observation)
        storings
    going-card there g x ty ti wr =
        let w = g.system in
        let b' = book_step b (on_card v.scene x).observation in
        let t = stands-away card_id a k there v.scene w g.stands in
        let after = agrees-card card_id host_id card_fits host_fits v.scene w b g.agree x t.columns ty ti wr in
        let h = effect-card card_id host_id card_fits host_fits w b b' g.agree x after in
        record {
          system = (card_step specified_card w x).system;
          agree = after;
          reachable = h.keeps_reachable g.reachable;
          host_some = g.host_some;
          card_some = g.card_some;
          stands = stands-card card_id a k there v.scene w x g.stands;
          kept_for = later w (card_step specified_card w x).system b b' h v.kept storings g.kept_for;
        }

    pub going-table : Going v true b storings → (j lent : ℕ) → a + k ≤ lent
        → in_time b (on_table v.scene j lent).observation.event ≡ true
        → WritesAllowed (book_step b (on_table v.scene j lent).observation)
        → Going (with-scene v (on_table v.scene j lent).scene) true
        (book_step b (on_table v.scene j lent).observation) storings
    going-table g j lent l ti wr =
        let w = g.system in
        let b' = book_step b (on_table v.scene j lent).observation in
        let after = agrees-table card_id host_id card_fits host_fits v.scene w b g.agree j lent ti wr in
        let h = effect-table card_id host_id card_fits host_fits w b b' g.agree j after in
        record {
          system = (host_step specified_host w j).system;
          agree = after;
          reachable = h.keeps_reachable g.reachable;
          host_some = g.host_some;
          card_some = g.card_some;
          stands = stays-tied card_id host_id card_fits host_fits v.scene w b g.agree a k g.stands j lent l;
          kept_for = later w (host_step specified_host w j).system b b' h v.kept storings g.kept_for;
        }

    -- the card's ID is the one that it was opened with
    own_is : (there : Bool) (g : Going v there b storings) → v.scene.card.own ≡ card_id
    own_is there g =
        ap (λ (u : System). u.card.own) (stands-away card_id a k there v.scene g.system g.stands).columns
        ∙ g.agree.card_own

    -- the table changes, and the system stays
    moved_to : (there now : Bool) (g : Going v there b storings) (x : Scene) → Stands card_id a k now x g.system
        → Going (with-scene v x) now b storings
    moved_to there now g x s = record {
      system = g.system;
      agree = g.agree;
      reachable = g.reachable;
      host_some = g.host_some;
      card_some = g.card_some;
      stands = s;
      kept_for = g.kept_for;
    }

    pub going-aside : (there : Bool) → Going v there b storings → (c : Call) → leaves_alone card_id c ≡ true
        → Going (with-scene v (aside v.scene c)) there b storings
    going-aside there g c o =
        moved_to there there g (aside v.scene c)
        (stands-aside card_id a k there v.scene g.system c o g.stands)

    pub going-rehoused : Going v true b storings → (lent : ℕ) → a + k ≤ lent
        → Going (with-scene v (rehouse v.scene lent)) true b storings
    going-rehoused g lent l =
        moved_to true true g (rehouse v.scene lent)
        (tied-rehoused card_id a k v.scene g.system g.stands lent (own_is true g) l)

    pub going-reopens : (there : Bool) → Going v there b storings → (memory : List ℕ)
        → Going (with-scene v (reopened_for specified_table v.scene memory)) false b storings
    going-reopens there g memory =
        let t = stands-away card_id a k there v.scene g.system g.stands in
        moved_to there false g (reopened_for specified_table v.scene memory) (record {
          columns = t.columns;
          reachable = open-reachable v.scene.site.table.own (length memory);
          answers-are = t.answers-are;
        })

    pub going-leaves : (there : Bool) → Going v there b storings
        → Going (with-scene v (left_for specified_table v.scene)) false b storings
    going-leaves there g =
        let t = stands-away card_id a k there v.scene g.system g.stands in
        moved_to there false g (left_for specified_table v.scene) (record {
          columns = t.columns;
          reachable = call-reachable v.scene.site (removes v.scene.card.own) t.reachable;
          answers-are = t.answers-are;
        })

    -- a storing
    pub going-stores : Going v true b storings → (buffer : List ℕ)
        → Going (record { scene = v.scene; kept = v.kept ++ kept_by e v.scene buffer }) true b
        (storings ++ cond (eqb (storing_refusal e v.scene buffer) 0) (acceptances b.expected ∷ []) [])
    unfolding kept_by
    going-stores g buffer = record {
      system = g.system;
      agree = g.agree;
      reachable = g.reachable;
      host_some = g.host_some;
      card_some = g.card_some;
      stands = g.stands;
      kept_for = go (eqb (storing_refusal e v.scene buffer) 0) refl;
    }
      where
        w : System
        w = g.system

        y : Site
        y = v.scene.site

        o : ℕ
        o = v.scene.card.own

        h : Holds card_id a k y
        h = g.stands.holds

        entry : entry_of y.table o ≡ entry_of y.table card_id
        entry = ap (entry_of y.table) (own_is true g)

        first-is : (entry_of y.table o).first ≡ a
        first-is = ap (λ (x : Entry). x.first) (entry ∙ found-entry card_id a k y h) ∙ h.first-is

        size_is : (entry_of y.table o).size ≡ k
        size_is = ap (λ (x : Entry). x.size) (entry ∙ found-entry card_id a k y h) ∙ h.size_is

        pair_is : (take_out y.table o).pair ≡ w.host
        pair_is =
            ap (λ (s : ℕ). (take_out y.table s).pair) (own_is true g)
            ∙ taken-pair (length y.memory) y.table h.reachable card_id (held-registered card_id a k y h)
            ∙ g.stands.pair_is

        now : KeptCard
        now = record {
          text = text_left keep (take_out y.table o).pair buffer;
          first = (entry_of y.table o).first;
          size = (entry_of y.table o).size;
          bytes = region (entry_of y.table o).first (entry_of y.table o).size y.memory;
        }

        reads : (p : Pair) → p ≡ w.host → (keep.storing p buffer).refusal ≡ 0
            → (keep.restoring (text_left keep p buffer)).pair ≡ w.host
        reads p q z =
            rw q (back w.host buffer g.reachable (λ i. g.host_some (sym g.agree.rest.host_own ∙ i))
            (λ i. g.card_some (sym g.agree.rest.host_peer ∙ i)) (rw q at z))

        go : (x : Bool) → eqb (storing_refusal e v.scene buffer) 0 ≡ x
            → Along (KeptAt w b) (v.kept ++ cond x (now ∷ []) [])
            (storings ++ cond x (acceptances b.expected ∷ []) [])
        go true q =
            along-more (KeptAt w b) v.kept storings now (acceptances b.expected) g.kept_for (
              omega arith,
              first-is,
              size_is,
              λ z. (
                reads (take_out y.table o).pair pair_is (eqb-true _ _ q),
                rw (first-is, size_is) g.stands.bytes-are,
              ),
            )
        go false q =
            subst (λ (l : List KeptCard). Along (KeptAt w b) l (storings ++ [])) (sym (append-nil v.kept))
            (subst (λ (l : List ℕ). Along (KeptAt w b) v.kept l) (sym (append-nil storings)) g.kept_for)

    -- a return
    pub going-returns : Going v false b storings → (j lent : ℕ) → nothing_since b (get_elem? storings j) ≡ true
        → FineReturn e v.scene (get_elem? v.kept j) lent
        → Going (with-scene v (returned_for e v.scene (get_elem? v.kept j) lent)) true b storings
    unfolding nothing_since returned_for return_refusal adopt
    going-returns g j lent since fine = go (along-find (KeptAt w b) v.kept storings g.kept_for j) since fine
      where
        w : System
        w = g.system

        at : (x : KeptCard) (n : ℕ) → KeptAt w b x n → nothing_since b (some n) ≡ true
            → FineReturn e v.scene (some x) lent
            → Going (with-scene v (returned_for e v.scene (some x) lent)) true b storings
        at x n q s f =
            let same : acceptances b.expected ≡ n = eqb-true (acceptances b.expected) n s in
            let r = q.3 same in
            moved_to false true g (returned_for e v.scene (some x) lent)
            (came-back card_id a k v.scene w (keep.restoring x.text).pair x.first x.size lent g.stands
            r.0 g.agree.rest.host_peer q.1 q.2 f.0 (f.1 ∙ r.1))

        go : Matched (KeptAt w b) v.kept storings j → nothing_since b (get_elem? storings j) ≡ true
            → FineReturn e v.scene (get_elem? v.kept j) lent
            → Going (with-scene v (returned_for e v.scene (get_elem? v.kept j) lent)) true b storings
        go (inl p) s f = absurd (rw p.0 at f)
        go (inr p) s f = rw p.2 (at p.0 p.1 p.4 (rw p.3 at s) (rw p.2 at f))
