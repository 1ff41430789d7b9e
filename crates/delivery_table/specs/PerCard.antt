-- Demand 3 for each card of a table: one watched card, the table with its memory, and whatever else is called on the
-- table. Premises and guarantees are those of delivery/specs/Demand3.antt, over the card's region. The table's calls
-- are a parameter.
use Rattle.std.specs.Prelude.{ℕ, ◌+◌, ◌<◌, ◌≡◌, Bool, true, false, not, ◌&&◌, List, [], ◌∷◌, ◌++◌, eqb, leb, get_or, option_to_list}
use Rattle.seq.specs.Ring.{frame_space}
use Rattle.host.specs.declared.Answer.{Answer}
use Rattle.host.specs.Host.{fresh}
use Rattle.card.specs.Window.{unreleased}
use Rattle.card.specs.declared.Card.{Card}
use Rattle.delivery.specs.System.{
  CardResult,
  specified_card,
  CardCall,
  Event,
  calls,
  receives,
  System,
  Observation,
  card_step,
}
use Rattle.delivery.specs.Book.{empty_book, book_of}
use Rattle.delivery.specs.Demand3.{all_typed, not_too_late, WritesAllowed, Outcome, Guarantees}
use Rattle.table.specs.Table.{Table, entry_of, region}
use Rattle.table.specs.TableEnd.{TableEnd, specified_table}
use Rattle.table.specs.Calls.{
  Call,
  registers,
  adopts,
  removes,
  comes,
  Site,
  lent_length,
  is_from,
  site_step_for,
  site_after_for,
  open_site_for,
  receiving_for,
}

-- What happens: a call on the watched card; the table receives, lent so many bytes of the memory, what the card handed
-- out k-th; the card's pair is taken out, the card removed, and the pair adopted with the region that it had, lent so
-- many bytes; or any other call on the table.
pub data Action : Type 0 where
  of_card : CardCall → Action
  arrives : ℕ → ℕ → Action
  rehoused : ℕ → Action
  besides : Call → Action

-- The watched card's own list: one of delivery's.
unfoldable pub own_events : List Action → List Event
own_events [] = []
own_events (of_card x ∷ xs) = calls x ∷ own_events xs
own_events (arrives k lent ∷ xs) = receives k ∷ own_events xs
own_events (rehoused lent ∷ xs) = own_events xs
own_events (besides c ∷ xs) = own_events xs

-- The card, what it handed out, the acknowledgements that answers to that called for, and those answers, each oldest
-- first; the table with the whole memory.
pub record Scene : Type 0 where
  pub card : Card
  pub slots : List ℕ
  pub hand_outs : List (List ℕ)
  pub acks : List (List ℕ)
  pub answers : List Answer
  pub site : Site

pub record SceneStep : Type 0 where
  pub scene : Scene
  pub observation : Observation

-- A call on the card is delivery's: it neither asks nor changes anything of a host.
abbrev pub card_side : Scene → System
card_side v = record {
  card = v.card;
  slots = v.slots;
  host = fresh 0 0;
  memory = [];
  hand_outs = v.hand_outs;
  acks = v.acks;
  answers = [];
}

unfoldable pub on_card : Scene → CardCall → SceneStep
on_card v x =
    let r = card_step specified_card (card_side v) x in
    record {
      scene = record {
        card = r.system.card;
        slots = r.system.slots;
        hand_outs = r.system.hand_outs;
        acks = r.system.acks;
        answers = v.answers;
        site = v.site;
      };
      observation = r.observation;
    }

-- The acknowledgement that an answer calls for, if it does, to the frame's source. The host sends no messages, so that
-- its number is 0.
unfoldable pub acks_to_for : TableEnd → Table → List ℕ → Answer → List (List ℕ)
acks_to_for e t f a = option_to_list (e.acknowledging t f a 0)

-- The table receives a copy of what the card handed out k-th.
unfoldable pub on_table_for : TableEnd → Scene → ℕ → ℕ → SceneStep
on_table_for e v k lent =
    let f = get_or v.hand_outs k [] in
    let a = (receiving_for e v.site f lent).answer in
    record {
      scene = record {
        card = v.card;
        slots = v.slots;
        hand_outs = v.hand_outs;
        acks = v.acks ++ acks_to_for e v.site.table f a;
        answers = v.answers ++ (a ∷ []);
        site = site_step_for e v.site (comes f lent);
      };
      observation = record { event = receives k; was_refused = false; handed_out = [] };
    }

abbrev pub with_site : Scene → Site → Scene
with_site v w = record {
  card = v.card;
  slots = v.slots;
  hand_outs = v.hand_outs;
  acks = v.acks;
  answers = v.answers;
  site = w;
}

abbrev pub aside_for : TableEnd → Scene → Call → Scene
aside_for e v c = with_site v (site_step_for e v.site c)

-- A source's pair is taken out, the source removed, and the pair adopted with the region that it had.
unfoldable pub rehoused_site_for : TableEnd → ℕ → Site → ℕ → Site
rehoused_site_for e s w lent =
    let x = entry_of w.table s in
    record {
      table =
          (e.adopting (e.removing w.table s).table (e.taking w.table s).pair x.first x.size
          (lent_length w lent)).table;
      memory = w.memory;
    }

-- The card's ID is the one that it was opened with.
abbrev pub rehouse_for : TableEnd → Scene → ℕ → Scene
rehouse_for e v lent = with_site v (rehoused_site_for e v.card.own v.site lent)

-- The scene after a list, and what the card's own list shows to the book.
pub record SceneRun : Type 0 where
  pub scene : Scene
  pub observations : List Observation

abbrev pub shown_first : SceneStep → SceneRun → SceneRun
shown_first s r = record { scene = r.scene; observations = s.observation ∷ r.observations }

unfoldable pub act_for : TableEnd → Scene → List Action → SceneRun
act_for e v [] = record { scene = v; observations = [] }
act_for e v (of_card x ∷ xs) = shown_first (on_card v x) (act_for e (on_card v x).scene xs)
act_for e v (arrives k lent ∷ xs) = shown_first (on_table_for e v k lent) (act_for e (on_table_for e v k lent).scene xs)
act_for e v (rehoused lent ∷ xs) = act_for e (rehouse_for e v lent) xs
act_for e v (besides c ∷ xs) = act_for e (aside_for e v c) xs

-- ---- premises

-- Nothing besides removes the card, and no frame besides has its source: that would be invented, as is one left over
-- from an earlier registering. (The card's list names which frames and acknowledgements arrive, and it can name only
-- what this card handed out, and what was called for, since this registering.)
unfoldable pub leaves_alone : ℕ → Call → Bool
leaves_alone s (registers r first size lent) = true
leaves_alone s (adopts p first size lent) = true
leaves_alone s (removes r) = not (eqb r s)
leaves_alone s (comes f lent) = not (is_from s f)

-- And a receiving of the card's frames is lent all of its region, as is an adopting of its pair: the caller lends the
-- same memory each time.
unfoldable pub allowed : ℕ → ℕ → List Action → Bool
allowed s end [] = true
allowed s end (of_card x ∷ xs) = allowed s end xs
allowed s end (arrives k lent ∷ xs) = leb end lent && allowed s end xs
allowed s end (rehoused lent ∷ xs) = leb end lent && allowed s end xs
allowed s end (besides c ∷ xs) = leaves_alone s c && allowed s end xs

-- ---- the demand

-- A freshly opened card, and a site.
abbrev pub opened : ℕ → ℕ → ℕ → List ℕ → CardResult
opened card_id host_id limit slots = specified_card.card_opening card_id host_id limit slots

abbrev pub begin : ℕ → ℕ → ℕ → List ℕ → Site → Scene
begin card_id host_id limit slots w = record {
  card = (opened card_id host_id limit slots).card;
  slots = (opened card_id host_id limit slots).slots;
  hand_outs = [];
  acks = [];
  answers = [];
  site = w;
}

-- What the demand speaks of, with the card's region as the memory.
abbrev pub outcome_in : ℕ → ℕ → Scene → Outcome
outcome_in first size v = record {
  answers = v.answers;
  memory = region first size v.site.memory;
  unreleased_frames = unreleased v.card.window;
}

-- From the card's registering, at a table that any earlier calls left, to any moment before its removal. (That the IDs
-- are not 0 follows from the registering.) For any table:
unfoldable pub Demand3PerCardFor : TableEnd → Type 0
Demand3PerCardFor e =
    (card_id host_id limit first size lent : ℕ) (slots memory : List ℕ) (earlier : List Call) (actions : List Action)
    → card_id < frame_space → host_id < frame_space → (opened card_id host_id limit slots).refusal ≡ 0
    → let w = site_after_for e (open_site_for e host_id memory) earlier in
    (e.registering w.table card_id first size (lent_length w lent)).refusal ≡ 0
    → let start = region first size w.memory in
    let r =
    act_for e (begin card_id host_id limit slots (site_step_for e w (registers card_id first size lent))) actions in
    let b = book_of start r.observations in
    allowed card_id (first + size) actions ≡ true → all_typed (own_events actions) ≡ true
    → not_too_late (empty_book start) r.observations ≡ true → WritesAllowed b
    → Guarantees (outcome_in first size r.scene) b

-- For the rules' table. proofs/PerCard.antt has a term of this type.
abbrev pub Demand3PerCard : Type 0
Demand3PerCard = Demand3PerCardFor specified_table

abbrev pub acks_to : Table → List ℕ → Answer → List (List ℕ)
acks_to = acks_to_for specified_table

abbrev pub on_table : Scene → ℕ → ℕ → SceneStep
on_table = on_table_for specified_table

abbrev pub aside : Scene → Call → Scene
aside = aside_for specified_table

abbrev pub rehoused_site : ℕ → Site → ℕ → Site
rehoused_site = rehoused_site_for specified_table

abbrev pub rehouse : Scene → ℕ → Scene
rehouse = rehouse_for specified_table

abbrev pub act : Scene → List Action → SceneRun
act = act_for specified_table
