-- One card and one host, and lists of calls on the two: what a list leaves, and what of it a plain book is shown.
-- The two ends' steps are a parameter, so that a statement about lists can be made of right and of wrong ends.
use Rattle.std.specs.Prelude.{ℕ, Bool, false, not, List, [], ◌∷◌, ◌++◌, eqb, get_or, Option, option_to_list}
use Rattle.card.specs.declared.Card.{Card}
use Rattle.card.specs.declared.Stepped.{Stepped}
use Rattle.card.specs.declared.TransOpened.{TransOpened}
use Rattle.card.specs.declared.Sealed.{Sealed}
use Rattle.card.specs.Card.{
  open_card,
  open_transaction,
  Added,
  add_message,
  seal_frame,
  read_acks,
  show_refusal,
  show_frame,
  choose_refusal,
  choose_next,
}
use Rattle.host.specs.declared.Pair.{Pair}
use Rattle.host.specs.declared.Opened.{Opened}
use Rattle.host.specs.declared.Answer.{Answer}
use Rattle.host.specs.Host.{opened_of, Received, receive_of, acknowledgement_of}

-- ---- the two ends

-- What a step of the card leaves: its refusal (0 for none), the card, the slot buffer, and the part handed out, if any.
pub record CardResult : Type 0 where
  pub refusal : ℕ
  pub card : Card
  pub slots : List ℕ
  pub part : List ℕ

-- A card: its opening and its six steps. The steps take the card and its slot buffer first.
pub record CardEnd : Type 0 where
  pub card_opening : ℕ → ℕ → ℕ → List ℕ → CardResult
  pub opening : Card → List ℕ → ℕ → ℕ → ℕ → CardResult
  pub adding : Card → List ℕ → ℕ → ℕ → List ℕ → CardResult
  pub sealing : Card → List ℕ → CardResult
  pub reading : Card → List ℕ → List ℕ → CardResult
  pub showing : Card → List ℕ → ℕ → CardResult
  pub choosing : Card → List ℕ → List ℕ → CardResult

-- A host: its opening, its receiving, which takes the pair, the frame and the memory, and the acknowledgement that an
-- answer calls for, which takes the pair, the answer and the number of its own next frame.
pub record HostEnd : Type 0 where
  pub host_opening : ℕ → ℕ → Opened
  pub receiving : Pair → List ℕ → List ℕ → Received
  pub acknowledging : Pair → Answer → ℕ → Option (List ℕ)

pub record Implementation : Type 0 where
  pub card_end : CardEnd
  pub host_end : HostEnd

-- A step's own answer as a result. Showing and choosing leave the card as it is, and only adding writes into the slots.
abbrev pub stepped_result : Stepped → List ℕ → CardResult
stepped_result s slots = record { refusal = s.refusal; card = s.card; slots = slots; part = [] }

abbrev pub opened_result : TransOpened → List ℕ → CardResult
opened_result s slots = record { refusal = s.refusal; card = s.card; slots = slots; part = [] }

abbrev pub sealed_result : Sealed → List ℕ → CardResult
sealed_result s slots = record { refusal = s.refusal; card = s.card; slots = slots; part = [] }

abbrev pub added_result : Added → CardResult
added_result a = stepped_result a.step a.slots

abbrev pub handed_over : ℕ → Card → List ℕ → List ℕ → CardResult
handed_over refusal c slots part = record { refusal = refusal; card = c; slots = slots; part = part }

-- The ends that the rules describe: those that the code promises to be.
abbrev pub specified_card : CardEnd
specified_card = record {
  card_opening = λ own peer limit slots. stepped_result (open_card own peer limit slots) slots;
  opening = λ c slots count address value. opened_result (open_transaction c count address value) slots;
  adding = λ c slots t at bytes. added_result (add_message c slots t at bytes);
  sealing = λ c slots. sealed_result (seal_frame c slots) slots;
  reading = λ c slots f. stepped_result (read_acks c f) slots;
  showing = λ c slots n. handed_over (show_refusal c slots n) c slots (show_frame c slots n);
  choosing = λ c slots ack. handed_over (choose_refusal c slots ack) c slots (choose_next c slots ack);
}

abbrev pub specified_host : HostEnd
specified_host = record {
  host_opening = opened_of;
  receiving = receive_of;
  acknowledging = acknowledgement_of;
}

abbrev pub specified : Implementation
specified = record { card_end = specified_card; host_end = specified_host }

-- ---- lists of calls

-- A call on the card.
pub data CardCall : Type 0 where
  -- open a transaction: count, completion address and value
  open_call : ℕ → ℕ → ℕ → CardCall
  -- add a message: transaction number, address, data
  add_call : ℕ → ℕ → List ℕ → CardCall
  seal_call : CardCall
  -- read the acknowledgement that was called for k-th
  read_call : ℕ → CardCall
  show_call : ℕ → CardCall
  -- choose what goes out next, with a buffer that may hold an acknowledgement to lend
  choose_call : List ℕ → CardCall

-- A call on either end. A delivery names the hand-out, or the acknowledgement called for, of which a copy arrives,
-- counted from 0. So the network loses, repeats and reorders as the list says, and alters and invents nothing. One that
-- is not there brings no bytes.
pub data Event : Type 0 where
  calls : CardCall → Event
  -- the host receives what was handed out k-th
  receives : ℕ → Event

abbrev pub opens : ℕ → ℕ → ℕ → Event
opens count address value = calls (open_call count address value)

abbrev pub adds : ℕ → ℕ → List ℕ → Event
adds t at bytes = calls (add_call t at bytes)

abbrev pub seals : Event
seals = calls seal_call

abbrev pub reads : ℕ → Event
reads k = calls (read_call k)

abbrev pub shows : ℕ → Event
shows n = calls (show_call n)

abbrev pub chooses : List ℕ → Event
chooses ack = calls (choose_call ack)

-- The two ends, what showings and choices handed out, the acknowledgements that answers called for, and the answers:
-- each oldest first.
pub record System : Type 0 where
  pub card : Card
  pub slots : List ℕ
  pub host : Pair
  pub memory : List ℕ
  pub hand_outs : List (List ℕ)
  pub acks : List (List ℕ)
  pub answers : List Answer

-- The system with some of it replaced: the card's side, the host's, the answers with what they called for.
abbrev pub with_card_side : System → Card → List ℕ → List (List ℕ) → System
with_card_side w card slots hand_outs = record {
  card = card;
  slots = slots;
  host = w.host;
  memory = w.memory;
  hand_outs = hand_outs;
  acks = w.acks;
  answers = w.answers;
}

abbrev pub with_host_side : System → Pair → List ℕ → System
with_host_side w host memory = record {
  card = w.card;
  slots = w.slots;
  host = host;
  memory = memory;
  hand_outs = w.hand_outs;
  acks = w.acks;
  answers = w.answers;
}

abbrev pub with_answers : System → List (List ℕ) → List Answer → System
with_answers w acks answers = record {
  card = w.card;
  slots = w.slots;
  host = w.host;
  memory = w.memory;
  hand_outs = w.hand_outs;
  acks = acks;
  answers = answers;
}

-- What one call shows to the book: the call, whether the card refused it, and what was handed out.
pub record Observation : Type 0 where
  pub event : Event
  pub was_refused : Bool
  pub handed_out : List ℕ

pub record StepResult : Type 0 where
  pub system : System
  pub observation : Observation

-- What a call on the card leaves; what a showing or a choice handed out is kept.
abbrev pub card_result : CardEnd → System → CardCall → CardResult
card_result e w (open_call count address value) = e.opening w.card w.slots count address value
card_result e w (add_call t at bytes) = e.adding w.card w.slots t at bytes
card_result e w seal_call = e.sealing w.card w.slots
card_result e w (read_call k) = e.reading w.card w.slots (get_or w.acks k [])
card_result e w (show_call n) = e.showing w.card w.slots n
card_result e w (choose_call ack) = e.choosing w.card w.slots ack

abbrev pub hands_out : CardCall → CardResult → List (List ℕ)
hands_out (open_call count address value) r = []
hands_out (add_call t at bytes) r = []
hands_out seal_call r = []
hands_out (read_call k) r = []
hands_out (show_call n) r = r.part ∷ []
hands_out (choose_call ack) r = r.part ∷ []

unfoldable pub by_card : System → CardCall → CardResult → StepResult
by_card w x r = record {
  system = with_card_side w r.card r.slots (w.hand_outs ++ hands_out x r);
  observation = record { event = calls x; was_refused = not (eqb r.refusal 0); handed_out = r.part };
}

-- The acknowledgement that an answer calls for, if it does. The host sends no messages, so that its number is 0.
unfoldable pub acks_for : HostEnd → Pair → Answer → List (List ℕ)
acks_for e p a = option_to_list (e.acknowledging p a 0)

unfoldable pub by_host : HostEnd → System → Event → Received → StepResult
by_host e w x r = record {
  system =
      with_answers (with_host_side w r.pair r.memory) (w.acks ++ acks_for e r.pair r.answer)
      (w.answers ++ (r.answer ∷ []));
  observation = record { event = x; was_refused = false; handed_out = [] };
}

-- A call on the card, and a receiving.
abbrev pub card_step : CardEnd → System → CardCall → StepResult
card_step e w x = by_card w x (card_result e w x)

abbrev pub host_step : HostEnd → System → ℕ → StepResult
host_step e w k = by_host e w (receives k) (e.receiving w.host (get_or w.hand_outs k []) w.memory)

unfoldable pub step : Implementation → System → Event → StepResult
step e w (calls x) = card_step e.card_end w x
step e w (receives k) = host_step e.host_end w k

-- The system after a list, and what the list shows.
pub record RunResult : Type 0 where
  pub system : System
  pub observations : List Observation

unfoldable pub run : Implementation → System → List Event → RunResult
run e w [] = record { system = w; observations = [] }
run e w (x ∷ xs) =
    let s = step e w x in
    let r = run e s.system xs in
    record { system = r.system; observations = s.observation ∷ r.observations }

-- A card and a host, freshly opened, each with the other's ID as its peer.
unfoldable pub initial : Implementation → ℕ → ℕ → ℕ → List ℕ → List ℕ → System
initial e card_id host_id limit slots memory = record {
  card = (e.card_end.card_opening card_id host_id limit slots).card;
  slots = (e.card_end.card_opening card_id host_id limit slots).slots;
  host = (e.host_end.host_opening host_id card_id).pair;
  memory = memory;
  hand_outs = [];
  acks = [];
  answers = [];
}
