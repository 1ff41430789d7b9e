-- Lists with restarts of the whole table in them: storings of the watched card's pair, removals of the card, openings
-- of the table anew, and returns of the card from what was stored. The table's calls, and how a pair is stored, are
-- parameters.
use Rattle.std.specs.Prelude.{ℕ, ◌≡◌, Bool, true, false, cond, not, ◌&&◌, ◌||◌, List, [], ◌∷◌, ◌++◌, map, eqb}
use Rattle.std.proofs.Math.Option.{Option, none, some}
use Rattle.std.proofs.Math.ListN.{get_elem?}
use Rattle.delivery.specs.System.{Event}
use Rattle.delivery_restarts.specs.Restarts.{
  Store,
  text_left,
  specified_store,
  Shown,
  shows_call,
  shows_storing,
  shows_return,
}
use Rattle.table.specs.Table.{entry_of, region}
use Rattle.table.specs.TableEnd.{TableEnd, specified_table}
use Rattle.table.specs.Calls.{adopts, removes, open_site_for, lent_length, site_step_for}
use Rattle.delivery_table.specs.PerCard.{
  Action,
  of_card,
  arrives,
  rehoused,
  besides,
  own_events,
  Scene,
  with_site,
  act_for,
  allowed,
}

-- A table, and how a pair is stored as text and read back.
pub record StoringEnd : Type 0 where
  pub table_end : TableEnd
  pub store : Store

-- The rules' table with some store, and with the rules' store.
abbrev pub with_store : Store → StoringEnd
with_store s = record { table_end = specified_table; store = s }

abbrev pub specified_storing : StoringEnd
specified_storing = with_store specified_store

-- ---- lists

-- What happens: an action; the watched card's pair is taken out and stored in a lent buffer of any length; the card is
-- removed; the table is opened anew with our ID, over a memory of any length and content; the text that was kept k-th
-- is read, and its pair adopted with the region that the card had at the storing, lent so many bytes of the memory.
pub data Turn : Type 0 where
  ordinary : Action → Turn
  stores : List ℕ → Turn
  leaves : Turn
  reopens : List ℕ → Turn
  returns : ℕ → ℕ → Turn

-- What a storing keeps: the text, the card's region, and a copy of the bytes in it.
pub record KeptCard : Type 0 where
  pub text : List ℕ
  pub first : ℕ
  pub size : ℕ
  pub bytes : List ℕ

-- The scene, and what was kept, oldest first.
pub record KeptScene : Type 0 where
  pub scene : Scene
  pub kept : List KeptCard

-- A storing changes nothing; a refused one keeps nothing.
abbrev pub storing_refusal : StoringEnd → Scene → List ℕ → ℕ
storing_refusal e v buffer =
    (e.store.storing (e.table_end.taking v.site.table v.card.own).pair buffer).refusal

unfoldable pub kept_by : StoringEnd → Scene → List ℕ → List KeptCard
kept_by e v buffer =
    let p = (e.table_end.taking v.site.table v.card.own).pair in
    let x = entry_of v.site.table v.card.own in
    cond (eqb (storing_refusal e v buffer) 0)
    (record {
      text = text_left e.store p buffer;
      first = x.first;
      size = x.size;
      bytes = region x.first x.size v.site.memory;
    } ∷ []) []

-- The card is removed.
abbrev pub left_for : TableEnd → Scene → Scene
left_for e v = with_site v (site_step_for e v.site (removes v.card.own))

-- The table is opened anew, with no card in it.
abbrev pub reopened_for : TableEnd → Scene → List ℕ → Scene
reopened_for e v memory = with_site v (open_site_for e v.site.table.own memory)

-- A return adopts the pair that reading the text hands back. Where nothing was kept there is nothing to read, and
-- nothing happens.
unfoldable pub returned_for : StoringEnd → Scene → Option KeptCard → ℕ → Scene
returned_for e v none lent = v
returned_for e v (some x) lent =
    with_site v (site_step_for e.table_end v.site
    (adopts (e.store.restoring x.text).pair x.first x.size lent))

-- What the adopting is refused for, 0 for nothing; 15 where there is no text.
unfoldable pub return_refusal : StoringEnd → Scene → Option KeptCard → ℕ → ℕ
return_refusal e v none lent = 15
return_refusal e v (some x) lent =
    (e.table_end.adopting v.site.table (e.store.restoring x.text).pair x.first x.size
    (lent_length v.site lent)).refusal

-- What a list shows is as in delivery_restarts. A removal and an opening anew show nothing.
pub record Turned : Type 0 where
  pub now : KeptScene
  pub shown : List Shown

unfoldable pub turn_for : StoringEnd → KeptScene → Turn → Turned
turn_for e v (ordinary x) =
    let r = act_for e.table_end v.scene (x ∷ []) in
    record { now = record { scene = r.scene; kept = v.kept }; shown = map shows_call r.observations }
turn_for e v (stores buffer) = record {
  now = record { scene = v.scene; kept = v.kept ++ kept_by e v.scene buffer };
  shown = shows_storing (storing_refusal e v.scene buffer) ∷ [];
}
turn_for e v leaves = record {
  now = record { scene = left_for e.table_end v.scene; kept = v.kept };
  shown = [];
}
turn_for e v (reopens memory) = record {
  now = record { scene = reopened_for e.table_end v.scene memory; kept = v.kept };
  shown = [];
}
turn_for e v (returns k lent) =
    let x = get_elem? v.kept k in
    record {
      now = record { scene = returned_for e v.scene x lent; kept = v.kept };
      shown = shows_return k (return_refusal e v.scene x lent) ∷ [];
    }

unfoldable pub after_turns : StoringEnd → KeptScene → List Turn → KeptScene
after_turns e v [] = v
after_turns e v (x ∷ xs) = after_turns e (turn_for e v x).now xs

unfoldable pub shown_by_turns : StoringEnd → KeptScene → List Turn → List Shown
shown_by_turns e v [] = []
shown_by_turns e v (x ∷ xs) = (turn_for e v x).shown ++ shown_by_turns e (turn_for e v x).now xs

-- The card's own list: one of delivery's.
unfoldable pub turn_events : List Turn → List Event
turn_events [] = []
turn_events (ordinary x ∷ xs) = own_events (x ∷ []) ++ turn_events xs
turn_events (stores buffer ∷ xs) = turn_events xs
turn_events (leaves ∷ xs) = turn_events xs
turn_events (reopens memory ∷ xs) = turn_events xs
turn_events (returns k lent ∷ xs) = turn_events xs

-- ---- premises

-- Whether an action needs the card at the table.
unfoldable pub needs_card : Action → Bool
needs_card (of_card x) = false
needs_card (arrives k lent) = true
needs_card (rehoused lent) = true
needs_card (besides c) = false

-- `there` says whether the card is at the table: from its registering to its removal or an opening anew, and from a
-- return on. Its frames arrive, and its pair is stored, only while it is there. It returns only while it is not there,
-- and it is there at the end. Other calls on the table, and calls on the card, come at any time.
unfoldable pub allowed_turns : ℕ → ℕ → Bool → List Turn → Bool
allowed_turns s end there [] = there
allowed_turns s end there (ordinary x ∷ xs) =
    allowed s end (x ∷ []) && ((there || not (needs_card x)) && allowed_turns s end there xs)
allowed_turns s end there (stores buffer ∷ xs) = there && allowed_turns s end there xs
allowed_turns s end there (leaves ∷ xs) = allowed_turns s end false xs
allowed_turns s end there (reopens memory ∷ xs) = allowed_turns s end false xs
allowed_turns s end there (returns k lent ∷ xs) = not there && allowed_turns s end true xs

-- At each return a storing kept something, the adopting is not refused, and the region's bytes are what they were at
-- the storing. (Other bytes of memory may be any.)
abbrev pub FineReturn : StoringEnd → Scene → Option KeptCard → ℕ → Type 0
FineReturn e v none lent = ⊥
FineReturn e v (some x) lent =
    (return_refusal e v (some x) lent ≡ 0) × (region x.first x.size v.site.memory ≡ x.bytes)

abbrev pub FineReturns : StoringEnd → KeptScene → List Turn → Type 0
FineReturns e v [] = Unit {0}
FineReturns e v (ordinary x ∷ xs) = FineReturns e (turn_for e v (ordinary x)).now xs
FineReturns e v (stores buffer ∷ xs) = FineReturns e (turn_for e v (stores buffer)).now xs
FineReturns e v (leaves ∷ xs) = FineReturns e (turn_for e v leaves).now xs
FineReturns e v (reopens memory ∷ xs) = FineReturns e (turn_for e v (reopens memory)).now xs
FineReturns e v (returns k lent ∷ xs) =
    FineReturn e v.scene (get_elem? v.kept k) lent × FineReturns e (turn_for e v (returns k lent)).now xs
