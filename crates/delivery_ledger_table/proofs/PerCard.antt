-- Bytes counted are the bytes charged for each card of a table: from demand 3 per card and the ledger's history only.
-- Assumes nothing.
use Prim.Native.Nat.{ℕ, ◌+◌}
use mathlib.Core.Path.{◌≡◌, refl, ap, subst}
use mathlib.Core.Bool.{true, and-eq-true_iff}
use mathlib.Core.List.{List, [], ◌∷◌, ◌++◌}
use lib.Dec.{leb}
use Rattle.delivery.specs.System.{calls, receives, Event, Observation}
use Rattle.delivery.specs.Book.{empty_book, book_of}
use Rattle.delivery.specs.Demand3.{all_typed, not_too_late, WritesAllowed}
use Rattle.table.specs.TableEnd.{TableEnd, specified_table}
use Rattle.table.specs.Calls.{Call}
use Rattle.delivery_table.specs.PerCard.{
  Action,
  of_card,
  arrives,
  rehoused,
  besides,
  own_events,
  Scene,
  on_card,
  on_table_for,
  rehouse_for,
  aside_for,
  act_for,
  leaves_alone,
  allowed,
  outcome_in,
  Demand3PerCardFor,
}
use Rattle.delivery_table.proofs.PerCard.{per-card}
use Rattle.delivery_ledger.specs.Blocks.{calls_of}
use Rattle.delivery_ledger.proofs.Blocks.Taking.{
  Delivered,
  delivered,
  charged-as-told,
  Guaranteed,
  delivered-each,
  of-every,
}
use Rattle.delivery_ledger.proofs.Fronts.{typed-front, in-time-front, allowed-front}
use Rattle.delivery_ledger_table.specs.PerCard.{
  region_at_start,
  scene_at_start,
  table_course,
  TablePremises,
  ChargedPerCardFor,
  ChargedPerCard,
}

-- ---- the front part of a list keeps the premises

own-append : (xs ys : List Action) → own_events (xs ++ ys) ≡ own_events xs ++ own_events ys
unfolding own_events
own-append [] ys = refl
own-append (of_card x ∷ xs) ys = ap (λ (l : List Event). calls x ∷ l) (own-append xs ys)
own-append (arrives k lent ∷ xs) ys = ap (λ (l : List Event). receives k ∷ l) (own-append xs ys)
own-append (rehoused lent ∷ xs) ys = own-append xs ys
own-append (besides c ∷ xs) ys = own-append xs ys

permitted-front : (s end : ℕ) (xs ys : List Action) → allowed s end (xs ++ ys) ≡ true → allowed s end xs ≡ true
unfolding allowed
permitted-front s end [] ys t = refl
permitted-front s end (of_card x ∷ xs) ys t = permitted-front s end xs ys t
permitted-front s end (arrives k lent ∷ xs) ys t =
    let p = (and-eq-true_iff (leb end lent) (allowed s end (xs ++ ys))).0 t in
    (and-eq-true_iff (leb end lent) (allowed s end xs)).1 (p.0, permitted-front s end xs ys p.1)
permitted-front s end (rehoused lent ∷ xs) ys t =
    let p = (and-eq-true_iff (leb end lent) (allowed s end (xs ++ ys))).0 t in
    (and-eq-true_iff (leb end lent) (allowed s end xs)).1 (p.0, permitted-front s end xs ys p.1)
permitted-front s end (besides c ∷ xs) ys t =
    let p = (and-eq-true_iff (leaves_alone s c) (allowed s end (xs ++ ys))).0 t in
    (and-eq-true_iff (leaves_alone s c) (allowed s end xs)).1 (p.0, permitted-front s end xs ys p.1)

module _ (e : TableEnd) where
  pub acted-observations : (v : Scene) (xs ys : List Action)
      → (act_for e v (xs ++ ys)).observations
      ≡ (act_for e v xs).observations ++ (act_for e (act_for e v xs).scene ys).observations
  unfolding act_for
  acted-observations v [] ys = refl
  acted-observations v (of_card x ∷ xs) ys =
      ap (λ (l : List Observation). (on_card v x).observation ∷ l) (acted-observations (on_card v x).scene xs ys)
  acted-observations v (arrives k lent ∷ xs) ys =
      ap (λ (l : List Observation). (on_table_for e v k lent).observation ∷ l)
      (acted-observations (on_table_for e v k lent).scene xs ys)
  acted-observations v (rehoused lent ∷ xs) ys = acted-observations (rehouse_for e v lent) xs ys
  acted-observations v (besides c ∷ xs) ys = acted-observations (aside_for e v c) xs ys

module _ (e : TableEnd) (card_id host_id limit first size lent : ℕ) (slots memory : List ℕ) (earlier : List Call) where
  abbrev v : Scene
  v = scene_at_start e card_id host_id limit first size lent slots memory earlier

  abbrev start : List ℕ
  start = region_at_start e card_id host_id limit first size lent slots memory earlier

  abbrev Keeps : List Action → Type 0
  Keeps = TablePremises e card_id host_id limit first size lent slots memory earlier

  pub table-front : (xs ys : List Action) → Keeps (xs ++ ys) → Keeps xs
  table-front xs ys p =
      let seen = (act_for e v xs).observations in
      let later = (act_for e (act_for e v xs).scene ys).observations in
      let s = acted-observations e v xs ys in
      record {
        card_fits = p.card_fits;
        host_fits = p.host_fits;
        card_opens = p.card_opens;
        registered = p.registered;
        all_allowed = permitted-front card_id (first + size) xs ys p.all_allowed;
        all_of_type =
            typed-front (own_events xs) (own_events ys)
            (subst (λ (l : List Event). all_typed l ≡ true) (own-append xs ys) p.all_of_type);
        none_too_late =
            in-time-front (empty_book start) seen later
            (subst (λ (l : List Observation). not_too_late (empty_book start) l ≡ true) s p.none_too_late);
        writes_allowed =
            allowed-front (empty_book start) seen later
            (subst (λ (l : List Observation). WritesAllowed (book_of start l)) s p.writes_allowed);
      }

  module _ (d : Demand3PerCardFor e) where
    pub table-delivered : (xs : List Action) → Keeps xs
        → let c = table_course e card_id host_id limit first size lent slots memory earlier in
        Delivered (c.memory_after card_id xs) (c.book_after card_id xs)
    unfolding Demand3PerCardFor
    table-delivered xs p =
        delivered (outcome_in first size (act_for e v xs).scene) (book_of start (act_for e v xs).observations)
        (d card_id host_id limit first size lent slots memory earlier xs p.card_fits p.host_fits p.card_opens
        p.registered p.all_allowed p.all_of_type p.none_too_late p.writes_allowed)
        p.writes_allowed

    guaranteed : Guaranteed (table_course e card_id host_id limit first size lent slots memory earlier) (λ s. Keeps)
    guaranteed = record { front = λ s. table-front; holds = λ s. table-delivered }

-- Bytes counted are bytes charged.
pub per-card-charged-by : (e : TableEnd) → Demand3PerCardFor e → ChargedPerCardFor e
unfolding ChargedPerCardFor
per-card-charged-by e d card_id host_id limit first size lent slots memory earlier acts told p =
    let v = table_course e card_id host_id limit first size lent slots memory earlier in
    let P = TablePremises e card_id host_id limit first size lent slots memory earlier in
    charged-as-told v acts told
    (delivered-each v (λ s. P) (guaranteed e card_id host_id limit first size lent slots memory earlier d) acts
    (of-every (λ s. P (calls_of acts)) acts (λ s. p)))

pub charged-per-card : ChargedPerCard
charged-per-card = per-card-charged-by specified_table per-card
