-- A host that takes every frame as the rules say and makes up the numbers that it reports, from whatever it knows:
-- where it meets demand 3, it answers as the rules' host does in every list of calls that meets the premises. So it
-- makes up no number in any of them. Assumes nothing.
use Prim.Native.Nat.{ℕ}
use mathlib.Core.Path.{◌≡◌, refl, sym, ap, ◌∙◌}
use mathlib.Core.Bool.{true}
use mathlib.Core.List.{List, [], ◌∷◌, ◌++◌, map}
use lib.ListN.{get_or}
use Rattle.host.specs.declared.Pair.{Pair}
use Rattle.host.specs.declared.Answer.{Answer}
use Rattle.host.specs.declared.Answer.TheVariants.{Accepted, Again, NoMessages, Refused}
use Rattle.host.specs.declared.Sums.{Sums}
use Rattle.host.specs.Host.{receive_of, acknowledgement_from}
use Rattle.delivery.specs.Book.{empty_book, book_of}
use Rattle.delivery.specs.System.{
  Implementation,
  specified,
  specified_host,
  CardCall,
  open_call,
  add_call,
  seal_call,
  read_call,
  show_call,
  choose_call,
  Event,
  calls,
  receives,
  System,
  with_answers,
  Observation,
  acks_for,
  by_card,
  by_host,
  step,
  run,
  initial,
}
use Rattle.delivery.specs.Demand3.{BothOpen, all_typed, not_too_late, WritesAllowed, seen_as, Demand3For}
use Rattle.delivery.specs.WrongEnds.{with_host, reporting, invents}
use Rattle.delivery.proofs.Demand.{demand3}

module _ (f : Pair → List ℕ → List ℕ → Sums → Sums) where
  abbrev inventor : Implementation
  inventor = with_host (invents f)

  -- the same acknowledgement is called for
  acks-same : (g : Sums → Sums) (p : Pair) (a : Answer)
      → acks_for inventor.host_end p (reporting g a) ≡ acks_for specified_host p a
  unfolding acks_for reporting acknowledgement_from
  acks-same g p (Accepted n s run) = refl
  acks-same g p (Again n run) = refl
  acks-same g p NoMessages = refl
  acks-same g p (Refused r) = refl

  -- the system with other answers so far
  abbrev having : List Answer → System → System
  having answers w = with_answers w w.acks answers

  -- a call on the card looks at no answer
  by-card : (x : CardCall) (w : System) (answers : List Answer)
      → step inventor (having answers w) (calls x)
      ≡ record {
        system = having answers (step specified w (calls x)).system;
        observation = (step specified w (calls x)).observation;
      }
  unfolding step by_card
  by-card (open_call count address value) w answers = refl
  by-card (add_call t at bytes) w answers = refl
  by-card seal_call w answers = refl
  by-card (read_call k) w answers = refl
  by-card (show_call n) w answers = refl
  by-card (choose_call ack) w answers = refl

  abbrev told_to : System → ℕ → Answer
  told_to w k =
      let s = get_or w.hand_outs k [] in
      reporting (f w.host s w.memory) (receive_of w.host s w.memory).answer

  -- nor does a receiving
  by-host : (k : ℕ) (w : System) (answers : List Answer)
      → step inventor (having answers w) (receives k)
      ≡ record {
        system = having (answers ++ (told_to w k ∷ [])) (step specified w (receives k)).system;
        observation = (step specified w (receives k)).observation;
      }
  unfolding step by_host invents
  by-host k w answers =
      let s = get_or w.hand_outs k [] in
      rw (acks-same (f w.host s w.memory) (receive_of w.host s w.memory).pair
      (receive_of w.host s w.memory).answer)

  -- what the book is shown is the same
  shown-same : (events : List Event) (w : System) (answers : List Answer)
      → (run inventor (having answers w) events).observations ≡ (run specified w events).observations
  unfolding run
  shown-same [] w answers = refl
  shown-same (calls x ∷ events) w answers =
      rw (by-card x w answers)
      (ap (λ (os : List Observation). (step specified w (calls x)).observation ∷ os)
      (shown-same events (step specified w (calls x)).system answers))
  shown-same (receives k ∷ events) w answers =
      rw (by-host k w answers)
      (ap (λ (os : List Observation). (step specified w (receives k)).observation ∷ os)
      (shown-same events (step specified w (receives k)).system (answers ++ (told_to w k ∷ []))))

  -- It answers as the rules' host does. What an accepted answer is seen as holds the numbers that it reports.
  pub invents-nothing : Demand3For inventor
      → (card_id host_id limit : ℕ) (slots memory : List ℕ) (events : List Event)
      → BothOpen card_id host_id (specified.card_end.card_opening card_id host_id limit slots)
      (specified.host_end.host_opening host_id card_id)
      → let r = run specified (initial specified card_id host_id limit slots memory) events in
      all_typed events ≡ true → not_too_late (empty_book memory) r.observations ≡ true
      → WritesAllowed (book_of memory r.observations)
      → map seen_as (run inventor (initial inventor card_id host_id limit slots memory) events).system.answers
      ≡ map seen_as r.system.answers
  unfolding Demand3For initial
  invents-nothing d card_id host_id limit slots memory events opened typed late writes =
      let w = initial specified card_id host_id limit slots memory in
      let same = shown-same events w [] in
      let theirs = d card_id host_id limit slots memory events opened typed
      (rw same late) (rw same writes) in
      let ours = demand3 card_id host_id limit slots memory events opened typed late writes in
      theirs.answers_match ∙ rw same (sym ours.answers_match)
