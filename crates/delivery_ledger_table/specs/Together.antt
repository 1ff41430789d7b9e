-- One ledger that several cards of one table feed: bytes counted at the cards are the bytes charged. All cards and the
-- table run in one list, a taking names its card, and each card that feeds the ledger keeps to the premises of demand 3
-- per card. What is charged is what all of them counted together.
use Rattle.std.specs.Prelude.{ℕ, ◌≡◌, cond, List, [], ◌∷◌, ◌++◌, map, eqb, get_or}
use Rattle.delivery.specs.System.{CardCall}
use Rattle.table.specs.Table.{Table, entry_of, region}
use Rattle.table.specs.TableEnd.{TableEnd, specified_table}
use Rattle.table.specs.Calls.{Call, registers, adopts, removes, comes, Site, site_step_for, site_after_for, open_site_for}
use Rattle.delivery_table.specs.PerCard.{
  Action,
  of_card,
  arrives,
  rehoused,
  besides,
  Scene,
  on_card,
  on_table_for,
  with_site,
  rehouse_for,
  begin,
}
use Rattle.ledger.specs.Counted.{Counted, ChargedAsTold}
use Rattle.delivery_ledger.specs.Blocks.{Act, calls_of, Course, blocks_read, OfEachTaken, TakenInOrder}
use Rattle.delivery_ledger_table.specs.PerCard.{table_course, TablePremises}

-- ---- all cards and the table

-- A call on the card with an ID; the table receives, lent so many bytes of the memory, what that card handed out k-th;
-- that card's pair is taken out, the card removed, and the pair adopted with the region that it had, lent so many
-- bytes; or any other call on the table.
pub data CardsCall : Type 0 where
  card_does : ℕ → CardCall → CardsCall
  frame_comes : ℕ → ℕ → ℕ → CardsCall
  card_rehoused : ℕ → ℕ → CardsCall
  table_does : Call → CardsCall

-- The cards by their IDs, each with what it handed out, its acknowledgements and answers; and the table with the whole
-- memory. (A scene's own site is not asked: the table stands here once for all.)
pub record Cards : Type 0 where
  pub scenes : ℕ → Scene
  pub site : Site

-- What one card has before it.
abbrev pub scene_of : Cards → ℕ → Scene
scene_of h s = with_site (h.scenes s) h.site

abbrev pub with_card : Cards → ℕ → Scene → Cards
with_card h s v = record { scenes = λ r. cond (eqb r s) v (h.scenes r); site = v.site }

unfoldable pub cards_step : TableEnd → Cards → CardsCall → Cards
cards_step e h (card_does s x) = with_card h s (on_card (scene_of h s) x).scene
cards_step e h (frame_comes s k lent) = with_card h s (on_table_for e (scene_of h s) k lent).scene
cards_step e h (card_rehoused s lent) = with_card h s (rehouse_for e (scene_of h s) lent)
cards_step e h (table_does c) = record { scenes = h.scenes; site = site_step_for e h.site c }

unfoldable pub cards_after : TableEnd → Cards → List CardsCall → Cards
cards_after e h [] = h
cards_after e h (x ∷ xs) = cards_after e (cards_step e h x) xs

-- What another card's rehousing is to the table: two calls.
abbrev pub rehousing_calls : TableEnd → Table → ℕ → ℕ → List Call
rehousing_calls e t s lent =
    removes s ∷ adopts (e.taking t s).pair (entry_of t s).first (entry_of t s).size lent ∷ []

-- One card's own list, of demand 3 per card: its calls and arrivals, and beside them what reaches the table from the
-- other cards and all other calls on the table.
unfoldable pub list_of : TableEnd → ℕ → Cards → List CardsCall → List Action
list_of e s h [] = []
list_of e s h (card_does r x ∷ xs) =
    cond (eqb r s) (of_card x ∷ []) [] ++ list_of e s (cards_step e h (card_does r x)) xs
list_of e s h (frame_comes r k lent ∷ xs) =
    cond (eqb r s) (arrives k lent) (besides (comes (get_or (h.scenes r).hand_outs k []) lent))
    ∷ list_of e s (cards_step e h (frame_comes r k lent)) xs
list_of e s h (card_rehoused r lent ∷ xs) =
    cond (eqb r s) (rehoused lent ∷ []) (map besides (rehousing_calls e h.site.table (h.scenes r).card.own lent))
    ++ list_of e s (cards_step e h (card_rehoused r lent)) xs
list_of e s h (table_does c ∷ xs) = besides c ∷ list_of e s (cards_step e h (table_does c)) xs

-- ---- the start

-- A card's terms: its frame limit and slot buffer; its region, and how many bytes its registering is lent; and what was
-- called on the table before its registering and after it, until the cards begin.
pub record Terms : Type 0 where
  pub limit : ℕ
  pub slots : List ℕ
  pub first : ℕ
  pub size : ℕ
  pub lent : ℕ
  pub earlier : List Call
  pub later : List Call

module _ (e : TableEnd) (host_id : ℕ) (memory : List ℕ) (setup : List Call) (terms : ℕ → Terms) where
  -- The table after its setup, in which the cards are registered; and all cards, freshly opened.
  abbrev pub site_at_start : Site
  site_at_start = site_after_for e (open_site_for e host_id memory) setup

  abbrev pub cards_at_start : Cards
  cards_at_start = record {
    scenes = λ s. begin s host_id (terms s).limit (terms s).slots site_at_start;
    site = site_at_start;
  }

  -- A card's list from its registering on.
  abbrev pub list_from : ℕ → List CardsCall → List Action
  list_from s list = map besides (terms s).later ++ list_of e s cards_at_start list

  -- What a list leads to: for each card its region of the one memory, and its book.
  abbrev pub cards_course : Course CardsCall
  cards_course = record {
    memory_after = λ s list. region (terms s).first (terms s).size (cards_after e cards_at_start list).site.memory;
    book_after = λ s list.
        let c = terms s in
        (table_course e s host_id c.limit c.first c.size c.lent c.slots memory c.earlier).book_after s
        (list_from s list);
  }

  -- A card feeds the ledger: it is registered in the setup, and its own list keeps to the premises of demand 3 per
  -- card.
  pub record Feeds (list : List CardsCall) (s : ℕ) : Type 0 where
    pub in_setup :
        setup
        ≡ (terms s).earlier
        ++ (registers s (terms s).first (terms s).size (terms s).lent ∷ (terms s).later)
    pub keeps :
        let c = terms s in
        TablePremises e s host_id c.limit c.first c.size c.lent c.slots memory c.earlier
        (list_from s list)

-- ---- the statement

unfoldable pub ChargedTogetherFor : TableEnd → Type 0
ChargedTogetherFor e =
    (host_id : ℕ) (memory : List ℕ) (setup : List Call) (terms : ℕ → Terms) (acts : List (Act CardsCall))
    (told : List (List Counted))
    → OfEachTaken (Feeds e host_id memory setup terms (calls_of acts)) acts
    → let v = cards_course e host_id memory setup terms in
    TakenInOrder v acts told → ChargedAsTold (blocks_read v acts) told

-- For the rules' table. proofs/Together.antt has a term of this type.
abbrev pub ChargedTogether : Type 0
ChargedTogether = ChargedTogetherFor specified_table
