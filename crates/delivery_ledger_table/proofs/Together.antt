-- Bytes counted at several cards of one table are the bytes charged: each card's own list leaves what it has before it
-- in the run of all cards, so demand 3 per card says what stands in its region at each taking. Assumes nothing.
use Prim.Native.Nat.{ℕ}
use mathlib.Core.Path.{◌≡◌, refl, sym, ap, ◌∙◌, subst}
use mathlib.Core.Bool.{Bool, true, false, cond}
use mathlib.Core.List.{List, [], ◌∷◌, ◌++◌, map, append_assoc}
use borrow.Author.Tests.{eqb-true, eqb-false, eq-eqb, ne_eqb}
use lib.Dec.{eqb}
use lib.ListN.{get_or}
use Rattle.delivery.specs.System.{CardCall}
use Rattle.table.specs.Table.{region}
use Rattle.table.specs.TableEnd.{TableEnd, specified_table}
use Rattle.table.specs.Calls.{Call, registers, comes, Site, site_step_for, site_after_for, open_site_for}
use Rattle.delivery_table.specs.PerCard.{
  Action,
  of_card,
  arrives,
  rehoused,
  besides,
  Scene,
  on_card,
  on_table_for,
  with_site,
  rehoused_site_for,
  rehouse_for,
  aside_for,
  act_for,
  begin,
  Demand3PerCardFor,
}
use Rattle.delivery_table.proofs.PerCard.{per-card}
use Rattle.delivery_ledger.proofs.Blocks.Taking.{Delivered, charged-as-told, Guaranteed, delivered-each}
use Rattle.delivery_ledger_table.specs.PerCard.{scene_at_start, TablePremises}
use Rattle.delivery_ledger_table.specs.Together.{
  CardsCall,
  card_does,
  frame_comes,
  card_rehoused,
  table_does,
  Cards,
  scene_of,
  with_card,
  cards_step,
  cards_after,
  rehousing_calls,
  list_of,
  Terms,
  site_at_start,
  cards_at_start,
  list_from,
  cards_course,
  Feeds,
  ChargedTogetherFor,
  ChargedTogether,
}
use Rattle.delivery_ledger_table.proofs.PerCard.{table-front, table-delivered}

module _ (e : TableEnd) where
  -- ---- one call

  -- the card itself is changed, another is not
  own-card : (h : Cards) (s : ℕ) (v : Scene) → scene_of (with_card h s v) s ≡ v
  own-card h s v = rw (eq-eqb s s refl) refl

  other-card : (h : Cards) (r s : ℕ) (v : Scene) → eqb r s ≡ false
      → scene_of (with_card h r v) s ≡ with_site (h.scenes s) v.site
  other-card h r s v n = rw (ne_eqb s r (λ q. eqb-false r s n (sym q))) refl

  card-site : (v : Scene) (x : CardCall) → (on_card v x).scene.site ≡ v.site
  unfolding on_card
  card-site v x = refl

  table-site : (v : Scene) (k lent : ℕ)
      → (on_table_for e v k lent).scene.site ≡ site_step_for e v.site (comes (get_or v.hand_outs k []) lent)
  unfolding on_table_for
  table-site v k lent = refl

  -- a rehousing is two calls on the table
  two-calls : (v : Scene) (w : Site) (s lent : ℕ) (xs : List Action)
      → (act_for e (with_site v w) (map besides (rehousing_calls e w.table s lent) ++ xs)).scene
      ≡ (act_for e (with_site v (rehoused_site_for e s w lent)) xs).scene
  unfolding act_for site_step_for rehoused_site_for
  two-calls v w s lent xs = refl

  -- ---- a card's list leaves what the card has before it

  abbrev Leaves : ℕ → Cards → List CardsCall → Type 0
  Leaves s h xs = (act_for e (scene_of h s) (list_of e s h xs)).scene ≡ scene_of (cards_after e h xs) s

  leaves : (s : ℕ) (xs : List CardsCall) (h : Cards) → Leaves s h xs
  unfolding list_of cards_after cards_step act_for
  leaves s [] h = refl
  leaves s (card_does r x ∷ xs) h = go (eqb r s) refl (leaves s xs h')
    where
      h' : Cards
      h' = cards_step e h (card_does r x)

      go : (b : Bool) → eqb r s ≡ b → Leaves s h' xs
          → (act_for e (scene_of h s) (cond b (of_card x ∷ []) [] ++ list_of e s h' xs)).scene
          ≡ scene_of (cards_after e h' xs) s
      go true q ih =
          let p = eqb-true r s q in
          let same : (on_card (scene_of h s) x).scene ≡ scene_of h' s =
          ap (λ (z : ℕ). (on_card (scene_of h z) x).scene) (sym p)
          ∙ sym (own-card h r (on_card (scene_of h r) x).scene)
          ∙ ap (scene_of h') p in
          ap (λ (v : Scene). (act_for e v (list_of e s h' xs)).scene) same ∙ ih
      go false q ih =
          let same : scene_of h s ≡ scene_of h' s =
          ap (with_site (h.scenes s)) (sym (card-site (scene_of h r) x))
          ∙ sym (other-card h r s (on_card (scene_of h r) x).scene q) in
          ap (λ (v : Scene). (act_for e v (list_of e s h' xs)).scene) same ∙ ih
  leaves s (frame_comes r k lent ∷ xs) h = go (eqb r s) refl (leaves s xs h')
    where
      h' : Cards
      h' = cards_step e h (frame_comes r k lent)

      go : (b : Bool) → eqb r s ≡ b → Leaves s h' xs
          → (act_for e (scene_of h s)
          (cond b (arrives k lent) (besides (comes (get_or (h.scenes r).hand_outs k []) lent)) ∷ list_of e s h' xs)).scene
          ≡ scene_of (cards_after e h' xs) s
      go true q ih =
          let p = eqb-true r s q in
          let same : (on_table_for e (scene_of h s) k lent).scene ≡ scene_of h' s =
          ap (λ (z : ℕ). (on_table_for e (scene_of h z) k lent).scene) (sym p)
          ∙ sym (own-card h r (on_table_for e (scene_of h r) k lent).scene)
          ∙ ap (scene_of h') p in
          ap (λ (v : Scene). (act_for e v (list_of e s h' xs)).scene) same ∙ ih
      go false q ih =
          let same : aside_for e (scene_of h s) (comes (get_or (h.scenes r).hand_outs k []) lent) ≡ scene_of h' s =
          ap (with_site (h.scenes s)) (sym (table-site (scene_of h r) k lent))
          ∙ sym (other-card h r s (on_table_for e (scene_of h r) k lent).scene q) in
          ap (λ (v : Scene). (act_for e v (list_of e s h' xs)).scene) same ∙ ih
  leaves s (card_rehoused r lent ∷ xs) h = go (eqb r s) refl (leaves s xs h')
    where
      h' : Cards
      h' = cards_step e h (card_rehoused r lent)

      own : ℕ
      own = (h.scenes r).card.own

      go : (b : Bool) → eqb r s ≡ b → Leaves s h' xs
          → (act_for e (scene_of h s)
          (cond b (rehoused lent ∷ []) (map besides (rehousing_calls e h.site.table own lent)) ++ list_of e s h' xs)
          ).scene
          ≡ scene_of (cards_after e h' xs) s
      go true q ih =
          let p = eqb-true r s q in
          let same : rehouse_for e (scene_of h s) lent ≡ scene_of h' s =
          ap (λ (z : ℕ). rehouse_for e (scene_of h z) lent) (sym p)
          ∙ sym (own-card h r (rehouse_for e (scene_of h r) lent))
          ∙ ap (scene_of h') p in
          ap (λ (v : Scene). (act_for e v (list_of e s h' xs)).scene) same ∙ ih
      go false q ih =
          two-calls (h.scenes s) h.site own lent (list_of e s h' xs)
          ∙ ap (λ (v : Scene). (act_for e v (list_of e s h' xs)).scene)
          (sym (other-card h r s (rehouse_for e (scene_of h r) lent) q))
          ∙ ih
  leaves s (table_does c ∷ xs) h = leaves s xs (cards_step e h (table_does c))

  list-append : (s : ℕ) (xs ys : List CardsCall) (h : Cards)
      → list_of e s h (xs ++ ys) ≡ list_of e s h xs ++ list_of e s (cards_after e h xs) ys
  unfolding list_of cards_after
  list-append s [] ys h = refl
  list-append s (card_does r x ∷ xs) ys h =
      ap (λ (l : List Action). cond (eqb r s) (of_card x ∷ []) [] ++ l)
      (list-append s xs ys (cards_step e h (card_does r x)))
      ∙ sym (append_assoc (cond (eqb r s) (of_card x ∷ []) []) _ _)
  list-append s (frame_comes r k lent ∷ xs) ys h =
      ap (λ (l : List Action).
      cond (eqb r s) (arrives k lent) (besides (comes (get_or (h.scenes r).hand_outs k []) lent)) ∷ l)
      (list-append s xs ys (cards_step e h (frame_comes r k lent)))
  list-append s (card_rehoused r lent ∷ xs) ys h =
      let now : List Action =
      cond (eqb r s) (rehoused lent ∷ [])
      (map besides (rehousing_calls e h.site.table (h.scenes r).card.own lent)) in
      ap (λ (l : List Action). now ++ l) (list-append s xs ys (cards_step e h (card_rehoused r lent)))
      ∙ sym (append_assoc now _ _)
  list-append s (table_does c ∷ xs) ys h =
      ap (λ (l : List Action). besides c ∷ l) (list-append s xs ys (cards_step e h (table_does c)))

  -- ---- the start

  site-append : (w : Site) (xs ys : List Call) → site_after_for e w (xs ++ ys) ≡ site_after_for e (site_after_for e w xs) ys
  unfolding site_after_for
  site-append w [] ys = refl
  site-append w (x ∷ xs) ys = site-append (site_step_for e w x) xs ys

  besides-first : (v : Scene) (cs : List Call) (xs : List Action)
      → (act_for e v (map besides cs ++ xs)).scene ≡ (act_for e (with_site v (site_after_for e v.site cs)) xs).scene
  unfolding act_for site_after_for
  besides-first v [] xs = refl
  besides-first v (c ∷ cs) xs = besides-first (aside_for e v c) cs xs

  module _ (d : Demand3PerCardFor e) (host_id : ℕ) (memory : List ℕ) (setup : List Call) (terms : ℕ → Terms) where
    abbrev opening : Cards
    opening = cards_at_start e host_id memory setup terms

    front : (s : ℕ) (xs ys : List CardsCall) → Feeds e host_id memory setup terms (xs ++ ys) s
        → Feeds e host_id memory setup terms xs s
    front s xs ys p =
        let c = terms s in
        record {
          in_setup = p.in_setup;
          keeps =
              table-front e s host_id c.limit c.first c.size c.lent c.slots memory c.earlier
              (list_from e host_id memory setup terms s xs) (list_of e s (cards_after e opening xs) ys)
              (subst
              (TablePremises e s host_id c.limit c.first c.size c.lent c.slots memory c.earlier)
              (ap (λ (l : List Action). map besides c.later ++ l) (list-append s xs ys opening)
              ∙ sym (append_assoc (map besides c.later) _ _)) p.keeps);
        }

    -- the card's own list ends where the run of all cards does
    ends : (s : ℕ) (xs : List CardsCall) → Feeds e host_id memory setup terms xs s
        → let c = terms s in
        (act_for e (scene_at_start e s host_id c.limit c.first c.size c.lent c.slots memory c.earlier)
        (list_from e host_id memory setup terms s xs)).scene
        ≡ scene_of (cards_after e opening xs) s
    unfolding site_after_for
    ends s xs p =
        let c = terms s in
        let before = site_after_for e (open_site_for e host_id memory) c.earlier in
        let x = registers s c.first c.size c.lent in
        let v = begin s host_id c.limit c.slots (site_step_for e before x) in
        let same : site_after_for e (site_step_for e before x) c.later ≡ site_at_start e host_id memory setup terms =
        sym (ap (site_after_for e (open_site_for e host_id memory)) p.in_setup
        ∙ site-append (open_site_for e host_id memory) c.earlier (x ∷ c.later)) in
        besides-first v c.later (list_of e s opening xs)
        ∙ ap (λ (w : Site). (act_for e (with_site v w) (list_of e s opening xs)).scene) same
        ∙ leaves s xs opening

    guaranteed : Guaranteed (cards_course e host_id memory setup terms) (λ s xs. Feeds e host_id memory setup terms xs s)
    guaranteed = record {
      front = front;
      holds = λ s xs p.
          let c = terms s in
          subst
          (λ (v : Scene).
          Delivered (region c.first c.size v.site.memory)
          ((cards_course e host_id memory setup terms).book_after s xs))
          (ends s xs p)
          (table-delivered e s host_id c.limit c.first c.size c.lent c.slots memory c.earlier d
          (list_from e host_id memory setup terms s xs) p.keeps);
    }

-- Bytes counted are bytes charged.
pub together-charged-by : (e : TableEnd) → Demand3PerCardFor e → ChargedTogetherFor e
unfolding ChargedTogetherFor
together-charged-by e d host_id memory setup terms acts told p =
    let v = cards_course e host_id memory setup terms in
    charged-as-told v acts told
    (delivered-each v (λ s xs. Feeds e host_id memory setup terms xs s) (guaranteed e d host_id memory setup terms) acts
    p)

pub charged-together : ChargedTogether
charged-together = together-charged-by specified_table per-card
