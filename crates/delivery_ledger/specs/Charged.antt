-- Bytes counted at a card, delivered over a network that loses, repeats and reorders, are the bytes charged: stated for
-- any two ends. The network is a list of calls of demand 3, and the premises on it are those of the demand.
use Rattle.std.specs.Prelude.{ℕ, ◌≡◌, true, List}
use Rattle.delivery.specs.System.{Implementation, specified, Event, initial, run}
use Rattle.delivery.specs.Book.{empty_book, book_of}
use Rattle.delivery.specs.Demand3.{BothOpen, all_typed, not_too_late, WritesAllowed}
use Rattle.ledger.specs.Counted.{Counted, ChargedAsTold}
use Rattle.delivery_ledger.specs.Blocks.{
  Act,
  calls_of,
  Course,
  blocks_sent,
  blocks_read,
  ReadyEach,
  TakenInOrder,
}

module _ (e : Implementation) (card_id host_id limit : ℕ) (slots memory : List ℕ) where
  -- What calls on two fresh ends lead to.
  abbrev pub course : Course Event
  course = record {
    memory_after = λ card events. (run e (initial e card_id host_id limit slots memory) events).system.memory;
    book_after = λ card events.
        book_of memory (run e (initial e card_id host_id limit slots memory) events).observations;
  }

  -- The premises of demand 3.
  pub record Premises (events : List Event) : Type 0 where
    pub both_open :
        BothOpen card_id host_id (e.card_end.card_opening card_id host_id limit slots)
        (e.host_end.host_opening host_id card_id)
    pub all_of_type : all_typed events ≡ true
    pub none_too_late :
        not_too_late (empty_book memory) (run e (initial e card_id host_id limit slots memory) events).observations ≡ true
    pub writes_allowed :
        WritesAllowed (book_of memory (run e (initial e card_id host_id limit slots memory) events).observations)

-- What is read is what was sent, if each block is taken when it may be.
unfoldable pub ReadAsSentFor : Implementation → Type 0
ReadAsSentFor e =
    (card_id host_id limit : ℕ) (slots memory : List ℕ) (acts : List (Act Event))
    → Premises e card_id host_id limit slots memory (calls_of acts)
    → let v = course e card_id host_id limit slots memory in
    ReadyEach v acts → blocks_read v acts ≡ blocks_sent acts

-- If the blocks also tell true counts, in the order of counting, none is refused, and what is charged is what was
-- counted.
unfoldable pub CountedIsChargedFor : Implementation → Type 0
CountedIsChargedFor e =
    (card_id host_id limit : ℕ) (slots memory : List ℕ) (acts : List (Act Event)) (told : List (List Counted))
    → Premises e card_id host_id limit slots memory (calls_of acts)
    → let v = course e card_id host_id limit slots memory in
    TakenInOrder v acts told → ChargedAsTold (blocks_read v acts) told

-- For the ends that the rules describe. proofs/Charged.antt has a term of either type.
abbrev pub ReadAsSent : Type 0
ReadAsSent = ReadAsSentFor specified

abbrev pub CountedIsCharged : Type 0
CountedIsCharged = CountedIsChargedFor specified
