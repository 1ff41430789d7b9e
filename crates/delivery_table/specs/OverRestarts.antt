-- Demand 3 for each card of a table over restarts of the whole table. Premises are those of specs/PerCard.antt, and
-- those of request 4 for each return: nothing of this card was accepted since the storing, and its bytes are as they
-- were.
use Rattle.std.specs.Prelude.{ℕ, ◌+◌, ◌<◌, ◌≡◌, true, List, []}
use Rattle.seq.specs.Ring.{frame_space}
use Rattle.delivery.specs.Book.{empty_book, book_of}
use Rattle.delivery.specs.Demand3.{all_typed, not_too_late, WritesAllowed, Guarantees}
use Rattle.delivery_restarts.specs.OverRestarts.{observations_in, nothing_accepted_since}
use Rattle.table.specs.Table.{region}
use Rattle.table.specs.Calls.{Call, registers, open_site_for, lent_length, site_step_for, site_after_for}
use Rattle.delivery_table.specs.PerCard.{opened, begin, outcome_in}
use Rattle.delivery_table.specs.Restarts.{
  StoringEnd,
  specified_storing,
  Turn,
  KeptScene,
  after_turns,
  shown_by_turns,
  turn_events,
  allowed_turns,
  FineReturns,
}

-- For any table and any store.
unfoldable pub PerCardOverRestartsFor : StoringEnd → Type 0
PerCardOverRestartsFor e =
    (card_id host_id limit first size lent : ℕ) (slots memory : List ℕ) (earlier : List Call) (turns : List Turn)
    → card_id < frame_space → host_id < frame_space → (opened card_id host_id limit slots).refusal ≡ 0
    → let w = site_after_for e.table_end (open_site_for e.table_end host_id memory) earlier in
    (e.table_end.registering w.table card_id first size (lent_length w lent)).refusal ≡ 0
    → let start = region first size w.memory in
    let v : KeptScene = record {
      scene = begin card_id host_id limit slots (site_step_for e.table_end w (registers card_id first size lent));
      kept = [];
    } in
    let shown = shown_by_turns e v turns in
    let seen = observations_in shown in
    let b = book_of start seen in
    allowed_turns card_id (first + size) true turns ≡ true → FineReturns e v turns
    → all_typed (turn_events turns) ≡ true → not_too_late (empty_book start) seen ≡ true
    → nothing_accepted_since (empty_book start) [] shown ≡ true → WritesAllowed b
    → Guarantees (outcome_in first size (after_turns e v turns).scene) b

-- For the rules' table and store. proofs/OverRestarts.antt has a term of this type.
abbrev pub PerCardOverRestarts : Type 0
PerCardOverRestarts = PerCardOverRestartsFor specified_storing
