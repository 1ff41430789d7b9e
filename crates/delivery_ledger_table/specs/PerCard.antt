-- Bytes counted are the bytes charged for each card of a table: one watched card, from its registering on, and whatever
-- else is called on the table. The network is a list of actions of demand 3 per card, the card's region is the memory,
-- and the address of a block counts from the region's start.
use Rattle.std.specs.Prelude.{ℕ, ◌+◌, ◌<◌, ◌≡◌, true, List}
use Rattle.seq.specs.Ring.{frame_space}
use Rattle.delivery.specs.Book.{empty_book, book_of}
use Rattle.delivery.specs.Demand3.{all_typed, not_too_late, WritesAllowed}
use Rattle.table.specs.Table.{region}
use Rattle.table.specs.TableEnd.{TableEnd, specified_table}
use Rattle.table.specs.Calls.{Call, registers, Site, lent_length, site_step_for, site_after_for, open_site_for}
use Rattle.delivery_table.specs.PerCard.{Action, own_events, Scene, act_for, allowed, opened, begin}
use Rattle.ledger.specs.Counted.{Counted, ChargedAsTold}
use Rattle.delivery_ledger.specs.Blocks.{Act, calls_of, Course, blocks_read, TakenInOrder}

module _ (e : TableEnd) (card_id host_id limit first size lent : ℕ) (slots memory : List ℕ) (earlier : List Call) where
  -- The table that earlier calls left; the bytes of the region then; and the card, freshly opened and registered.
  abbrev pub table_before : Site
  table_before = site_after_for e (open_site_for e host_id memory) earlier

  abbrev pub region_at_start : List ℕ
  region_at_start = region first size table_before.memory

  abbrev pub scene_at_start : Scene
  scene_at_start = begin card_id host_id limit slots (site_step_for e table_before (registers card_id first size lent))

  -- What actions lead to.
  abbrev pub table_course : Course Action
  table_course = record {
    memory_after = λ card actions. region first size (act_for e scene_at_start actions).scene.site.memory;
    book_after = λ card actions. book_of region_at_start (act_for e scene_at_start actions).observations;
  }

  -- The premises of demand 3 per card.
  pub record TablePremises (actions : List Action) : Type 0 where
    pub card_fits : card_id < frame_space
    pub host_fits : host_id < frame_space
    pub card_opens : (opened card_id host_id limit slots).refusal ≡ 0
    pub registered : (e.registering table_before.table card_id first size (lent_length table_before lent)).refusal ≡ 0
    pub all_allowed : allowed card_id (first + size) actions ≡ true
    pub all_of_type : all_typed (own_events actions) ≡ true
    pub none_too_late : not_too_late (empty_book region_at_start) (act_for e scene_at_start actions).observations ≡ true
    pub writes_allowed : WritesAllowed (book_of region_at_start (act_for e scene_at_start actions).observations)

unfoldable pub ChargedPerCardFor : TableEnd → Type 0
ChargedPerCardFor e =
    (card_id host_id limit first size lent : ℕ) (slots memory : List ℕ) (earlier : List Call) (acts : List (Act Action))
    (told : List (List Counted))
    → TablePremises e card_id host_id limit first size lent slots memory earlier (calls_of acts)
    → let v = table_course e card_id host_id limit first size lent slots memory earlier in
    TakenInOrder v acts told → ChargedAsTold (blocks_read v acts) told

-- For the rules' table. proofs/PerCard.antt has a term of this type.
abbrev pub ChargedPerCard : Type 0
ChargedPerCard = ChargedPerCardFor specified_table
