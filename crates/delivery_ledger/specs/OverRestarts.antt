-- Bytes counted are the bytes charged also over restarts of the host: specs/Charged.antt with storings and returns in
-- the list of calls, under the premises of demand 3 over restarts. The ledger does not belong to the host: a restart
-- leaves its words as they are.
use Rattle.std.specs.Prelude.{ℕ, ◌≡◌, true, List, []}
use Rattle.delivery.specs.Book.{empty_book, book_of}
use Rattle.delivery.specs.Demand3.{BothOpen, all_typed, not_too_late, WritesAllowed}
use Rattle.delivery_restarts.specs.Restarts.{RestartEnds, specified_ends, Call, site_after, shown_by, initial_site}
use Rattle.delivery_restarts.specs.OverRestarts.{events_in, observations_in, nothing_accepted_since}
use Rattle.ledger.specs.Counted.{Counted, ChargedAsTold}
use Rattle.delivery_ledger.specs.Blocks.{Act, calls_of, Course, blocks_read, TakenInOrder}

module _ (e : RestartEnds) (card_id host_id limit : ℕ) (slots memory : List ℕ) where
  -- What calls on two fresh ends, storings and returns lead to.
  abbrev pub restart_course : Course Call
  restart_course = record {
    memory_after = λ card list. (site_after e (initial_site e card_id host_id limit slots memory) list).system.memory;
    book_after = λ card list.
        book_of memory (observations_in (shown_by e (initial_site e card_id host_id limit slots memory) list));
  }

  -- The premises of demand 3 over restarts.
  pub record RestartPremises (list : List Call) : Type 0 where
    pub both_open :
        BothOpen card_id host_id (e.ends.card_end.card_opening card_id host_id limit slots)
        (e.ends.host_end.host_opening host_id card_id)
    pub all_of_type : all_typed (events_in list) ≡ true
    pub none_too_late :
        not_too_late (empty_book memory)
        (observations_in (shown_by e (initial_site e card_id host_id limit slots memory) list)) ≡ true
    pub nothing_accepted :
        nothing_accepted_since (empty_book memory) [] (shown_by e (initial_site e card_id host_id limit slots memory) list)
        ≡ true
    pub writes_allowed :
        WritesAllowed
        (book_of memory (observations_in (shown_by e (initial_site e card_id host_id limit slots memory) list)))

unfoldable pub ChargedOverRestartsFor : RestartEnds → Type 0
ChargedOverRestartsFor e =
    (card_id host_id limit : ℕ) (slots memory : List ℕ) (acts : List (Act Call)) (told : List (List Counted))
    → RestartPremises e card_id host_id limit slots memory (calls_of acts)
    → let v = restart_course e card_id host_id limit slots memory in
    TakenInOrder v acts told → ChargedAsTold (blocks_read v acts) told

-- For the ends and the store that the rules describe. proofs/OverRestarts.antt has a term of this type.
abbrev pub ChargedOverRestarts : Type 0
ChargedOverRestarts = ChargedOverRestartsFor specified_ends
