-- Calls on a card one after another, entered into a history whose counts never wrap. Of the history the rules' sentence
-- is said as it stands: a transaction is finished when all its messages are added and lie in released frames.
-- proofs/History.antt shows that after any calls the card takes exactly these for finished (`finished-exactly`).
use Rattle.std.specs.Prelude.{ℕ, suc, ◌-◌, ◌^◌, ◌<◌, Bool, true, cond, ◌&&◌, ◌||◌, List, [], ◌∷◌, ◌++◌, eqb, ltb, length, get_or, set}
use Rattle.seq.specs.Ring.{trans_space, latest}
use Rattle.bitmap.specs.Marks.{mark}
use Rattle.wire.specs.Format.{needed}
use Rattle.card.specs.Window.{unreleased}
use Rattle.card.specs.Sendings.{opened}
use Rattle.card.specs.declared.Card.{Card}
use Rattle.card.specs.Card.{open_card, open_transaction, add_message, seal_frame, read_acks}

-- ---- calls

-- Opening a transaction takes count, completion address and value; adding takes the slot buffer, the transaction, the
-- data address and the data; sealing takes the slot buffer, and reading the frame that arrives. Showing and choosing
-- change nothing. Slot buffers and frames may be any bytes, of any length.
pub data Call : Type 0 where
  opens : ℕ → ℕ → ℕ → Call
  adds : List ℕ → ℕ → ℕ → List ℕ → Call
  seals : List ℕ → Call
  reads : List ℕ → Call

-- The numbers are of the calls' types.
abbrev pub Typed : Call → Type 0
Typed (opens count address value) = (count < 2 ^ 16) × (address < 2 ^ 32) × (value < 2 ^ 32)
Typed (adds slots t at bytes) = t < 2 ^ 32
Typed (seals slots) = Unit {0}
Typed (reads f) = Unit {0}

abbrev pub AllTyped : List Call → Type 0
AllTyped [] = Unit {0}
AllTyped (x ∷ xs) = Typed x × AllTyped xs

unfoldable pub card_after : Card → Call → Card
card_after c (opens count address value) = (open_transaction c count address value).card
card_after c (adds slots t at bytes) = (add_message c slots t at bytes).step.card
card_after c (seals slots) = (seal_frame c slots).card
card_after c (reads f) = (read_acks c f).card

unfoldable pub refusal_given : Card → Call → ℕ
refusal_given c (opens count address value) = (open_transaction c count address value).refusal
refusal_given c (adds slots t at bytes) = (add_message c slots t at bytes).step.refusal
refusal_given c (seals slots) = (seal_frame c slots).refusal
refusal_given c (reads f) = (read_acks c f).refusal

-- ---- the history

-- A transaction: its count, and for each message added, latest first, which frame it went into.
pub record Sent : Type 0 where
  pub count : ℕ
  pub frames : List ℕ

-- The transactions in order of opening, and how many frames were sealed. Frames count from 0.
pub record History : Type 0 where
  pub sent : List Sent
  pub sealed : ℕ

abbrev pub no_history : History
no_history = record { sent = []; sealed = 0 }

abbrev pub sent_at : History → ℕ → Sent
sent_at h k = get_or h.sent k (record { count = 0; frames = [] })

-- The k-th transaction with one more message, in the frame being built, whose count is how many are sealed.
abbrev pub with_frame : History → ℕ → Sent
with_frame h k = record { count = (sent_at h k).count; frames = h.sealed ∷ (sent_at h k).frames }

abbrev pub added_to : History → ℕ → History
added_to h k = record { sent = set h.sent k (with_frame h k); sealed = h.sealed }

-- A call that is not refused. A transaction number means the latest transaction with it.
unfoldable pub enter : History → Call → History
enter h (opens count address value) =
    record { sent = h.sent ++ (record { count = count; frames = [] } ∷ []); sealed = h.sealed }
enter h (adds slots t at bytes) = added_to h (latest trans_space (length h.sent) t)
enter h (seals slots) = record { sent = h.sent; sealed = suc h.sealed }
enter h (reads f) = h

-- A card and its history.
pub record Run : Type 0 where
  pub card : Card
  pub history : History

unfoldable pub after : Run → Call → Run
after r x =
    record {
      card = card_after r.card x;
      history = cond (eqb (refusal_given r.card x) 0) (enter r.history x) r.history;
    }

unfoldable pub run_from : Run → List Call → Run
run_from r [] = r
run_from r (x ∷ xs) = run_from (after r x) xs

-- The calls of a list, on a card just opened.
unfoldable pub run_of : ℕ → ℕ → ℕ → List ℕ → List Call → Run
run_of own peer limit slots xs =
    run_from (record { card = (open_card own peer limit slots).card; history = no_history }) xs

-- ---- finished

-- The card has released all sealed frames but the last few, as many as it has unreleased.
abbrev pub released_count : Run → ℕ
released_count r = r.history.sealed - unreleased r.card.window

unfoldable pub all_below : ℕ → List ℕ → Bool
all_below n [] = true
all_below n (x ∷ xs) = ltb x n && all_below n xs

-- All messages of the transaction are added and lie in released frames.
unfoldable pub finished_in : ℕ → Sent → Bool
finished_in released d = eqb (length d.frames) (needed d.count) && all_below released d.frames

-- The count of the card's lowest unfinished transaction: the last few are opened from there on.
abbrev pub lowest_count : Run → ℕ
lowest_count r = length r.history.sent - opened r.card.sendings

-- The card takes the k-th transaction for finished: it lies below the lowest unfinished one, or it has a mark.
unfoldable pub taken_for_finished : Run → ℕ → Bool
taken_for_finished r k = ltb k (lowest_count r) || mark r.card.sendings.finished (k - lowest_count r)
