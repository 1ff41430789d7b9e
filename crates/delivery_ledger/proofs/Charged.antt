-- Bytes counted at a card are the bytes charged, whatever the network loses, repeats and reorders: from demand 3 and
-- the ledger's history only, for any two ends that meet the demand. Assumes nothing.
use Prim.Native.Nat.{ℕ}
use mathlib.Core.Path.{◌≡◌, refl, ap, subst}
use mathlib.Core.Bool.{true}
use mathlib.Core.List.{List, [], ◌∷◌, ◌++◌}
use Rattle.delivery.specs.System.{Implementation, specified, Event, System, Observation, step, initial, run}
use Rattle.delivery.specs.Book.{empty_book, book_of}
use Rattle.delivery.specs.Demand3.{not_too_late, WritesAllowed, outcome_of, Demand3For}
use Rattle.delivery.proofs.Demand.{demand3}
use Rattle.ledger.specs.Ledger.{empty, total_of}
use Rattle.ledger.specs.History.{after, accepted, bytes_passed, TrueCounts}
use Rattle.ledger.proofs.Accounts.{total-is-true}
use Rattle.delivery_ledger.specs.Blocks.{Act, calls_of, blocks_sent, blocks_read, ReadyEach}
use Rattle.delivery_ledger.specs.Charged.{
  course,
  Premises,
  ReadAsSentFor,
  ReadAsSent,
  CountedIsChargedFor,
  CountedIsCharged,
}
use Rattle.delivery_ledger.proofs.Blocks.Taking.{
  delivered,
  DeliveredAfter,
  read-as-sent,
  charged-as-told,
  Guaranteed,
  delivered-each,
  of-every,
}
use Rattle.delivery_ledger.proofs.Fronts.{typed-front, in-time-front, allowed-front}

run-observations : (e : Implementation) (w : System) (xs ys : List Event)
    → (run e w (xs ++ ys)).observations ≡ (run e w xs).observations ++ (run e (run e w xs).system ys).observations
unfolding run
run-observations e w [] ys = refl
run-observations e w (x ∷ xs) ys =
    ap (λ (l : List Observation). (step e w x).observation ∷ l) (run-observations e (step e w x).system xs ys)

-- ---- demand 3

module _ (e : Implementation) (d : Demand3For e) (card_id host_id limit : ℕ) (slots memory : List ℕ) where
  abbrev w : System
  w = initial e card_id host_id limit slots memory

  abbrev Keeps : List Event → Type 0
  Keeps = Premises e card_id host_id limit slots memory

  front : (xs ys : List Event) → Keeps (xs ++ ys) → Keeps xs
  front xs ys p =
      let later = (run e (run e w xs).system ys).observations in
      let s = run-observations e w xs ys in
      record {
        both_open = p.both_open;
        all_of_type = typed-front xs ys p.all_of_type;
        none_too_late =
            in-time-front (empty_book memory) (run e w xs).observations later
            (subst (λ (l : List Observation). not_too_late (empty_book memory) l ≡ true) s p.none_too_late);
        writes_allowed =
            allowed-front (empty_book memory) (run e w xs).observations later
            (subst (λ (l : List Observation). WritesAllowed (book_of memory l)) s p.writes_allowed);
      }

  guaranteed : Guaranteed (course e card_id host_id limit slots memory) (λ s. Keeps)
  unfolding Demand3For
  guaranteed = record {
    front = λ s. front;
    holds = λ s xs p.
        delivered (outcome_of (run e w xs).system) (book_of memory (run e w xs).observations)
        (d card_id host_id limit slots memory xs p.both_open p.all_of_type p.none_too_late p.writes_allowed)
        p.writes_allowed;
  }

  at_each : (acts : List (Act Event)) → Keeps (calls_of acts)
      → DeliveredAfter (course e card_id host_id limit slots memory) [] acts
  at_each acts p =
      let v = course e card_id host_id limit slots memory in
      delivered-each v (λ s. Keeps) guaranteed acts (of-every (λ s. Keeps (calls_of acts)) acts (λ s. p))

-- What is read is what was sent.
pub read_by : (e : Implementation) → Demand3For e → ReadAsSentFor e
unfolding ReadAsSentFor
read_by e d card_id host_id limit slots memory acts p =
    read-as-sent (course e card_id host_id limit slots memory) acts
    (at_each e d card_id host_id limit slots memory acts p)

pub sent-is-read : ReadAsSent
sent-is-read = read_by specified demand3

-- Bytes counted are bytes charged.
pub charged-by : (e : Implementation) → Demand3For e → CountedIsChargedFor e
unfolding CountedIsChargedFor
charged-by e d card_id host_id limit slots memory acts told p =
    charged-as-told (course e card_id host_id limit slots memory) acts told
    (at_each e d card_id host_id limit slots memory acts p)

pub counted-is-charged : CountedIsCharged
counted-is-charged = charged-by specified demand3

-- Request 7's own sentence, of any blocks, some of which the ledger may refuse: the accepted readings are those of the
-- blocks as they were sent.
pub total-delivered : (e : Implementation) → Demand3For e → (card_id host_id limit : ℕ) (slots memory : List ℕ)
    (acts : List (Act Event)) → Premises e card_id host_id limit slots memory (calls_of acts)
    → ReadyEach (course e card_id host_id limit slots memory) acts → (s : ℕ) (counts : List ℕ)
    → TrueCounts s (accepted empty (blocks_sent acts)) counts
    → total_of (after empty (blocks_read (course e card_id host_id limit slots memory) acts)) s ≡ bytes_passed counts
unfolding ReadAsSentFor
total-delivered e d card_id host_id limit slots memory acts p r s counts t =
    rw (read_by e d card_id host_id limit slots memory acts p r) (total-is-true (blocks_sent acts) s counts t)
