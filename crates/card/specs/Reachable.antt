-- What holds of every card that opening and the six steps hand back. Nothing of this needs to be believed:
-- proofs/Reachable.antt shows it, for any calls, any bytes and any slot buffer lent to a step.
use Rattle.std.specs.Prelude.{ℕ, ◌+◌, ◌%◌, ◌^◌, ◌≤◌, ◌<◌, ◌≡◌, ◌≢◌, ◌⊎◌, true, false, length, get_or}
use Rattle.seq.specs.Ring.{frame_space, trans_space, distance}
use Rattle.bitmap.specs.Marks.{mark}
use Rattle.wire.specs.Format.{needed, frame_most}
use Rattle.card.specs.declared.SendWindow.{SendWindow}
use Rattle.card.specs.Window.{unreleased}
use Rattle.card.specs.declared.Sending.{Sending}
use Rattle.card.specs.declared.Sendings.{Sendings}
use Rattle.card.specs.Sendings.{no_sending, opened, sending_at, all_added}
use Rattle.card.specs.declared.Card.{Card}

-- The window of sealed frames, of which none is longer than `limit`.
pub record InOrder (w : SendWindow) (limit : ℕ) : Type 0 where
  -- the numbers fit their words, and there is a length for each of 64 slots
  pub next_fits : w.next.0 < frame_space
  pub base-fits : w.base.0 < frame_space
  pub acked-fits : w.acked < 2 ^ 64
  pub slots : length w.sizes ≡ 64
  -- each unreleased frame has a slot of its own
  pub few : unreleased w ≤ 64
  -- only a sealed frame is acknowledged, and the lowest one not released is not
  pub unsealed-clear : (i : ℕ) → unreleased w ≤ i → mark w.acked i ≡ false
  pub lowest-clear : mark w.acked 0 ≡ false
  -- the length kept for an unreleased frame is that of a frame with a message, and none passes the limit
  pub sizes-least : (i : ℕ) → i < unreleased w → 34 ≤ get_or w.sizes ((w.base.0 + i) % 64) 0
  pub sizes-most : (k : ℕ) → get_or w.sizes k 0 ≤ limit

-- A transaction: no more messages are added than it takes, and the numbers fit their words.
pub record Counted (e : Sending) : Type 0 where
  pub added-most : e.added ≤ needed e.count
  pub count_fits : e.count < 2 ^ 16
  pub address-fits : e.address < 2 ^ 32
  pub value-fits : e.value < 2 ^ 32
  pub latest-fits : e.frame.0 < frame_space

-- The transactions.
pub record Orderly (s : Sendings) : Type 0 where
  -- the numbers fit their words, and the table has its 32 entries
  pub next_fits : s.next.0 < trans_space
  pub lowest-fits : s.lowest.0 < trans_space
  pub finished-fits : s.finished < 2 ^ 32
  pub entries : length s.table ≡ 32
  pub each : (k : ℕ) → Counted (get_or s.table k no_sending)
  -- each one from the lowest unfinished one on has an entry of its own
  pub few : opened s ≤ 32
  -- only an opened one is finished, and the lowest unfinished one is not
  pub unopened-clear : (i : ℕ) → opened s ≤ i → mark s.finished i ≡ false
  pub lowest-clear : mark s.finished 0 ≡ false

-- The number of a frame that is sealed and not released, or of the one being built: at most 64 past `base`.
abbrev pub NotReleased : SendWindow → ℕ → Type 0
NotReleased w n = distance frame_space w.base.0 n ≤ unreleased w

-- The transactions against the frames.
pub record Settled (s : Sendings) (w : SendWindow) : Type 0 where
  -- a finished one has all its messages added
  pub finished-full : (i : ℕ) → mark s.finished i ≡ true → all_added (sending_at s (s.lowest.0 + i)) ≡ true
  -- an unfinished one with all its messages added has the latest of them in a frame that is not released
  pub full-waits : (i : ℕ) → i < opened s → mark s.finished i ≡ false
      → all_added (sending_at s (s.lowest.0 + i)) ≡ true → NotReleased w (sending_at s (s.lowest.0 + i)).frame.0

-- The frame being built, where there is one: it has a message, lies in its slot, and the slot is free for it.
pub record Building (c : Card) : Type 0 where
  pub least : 34 ≤ c.used
  pub most : c.used ≤ c.limit
  pub last-least : 10 ≤ c.last
  pub last-inside : c.last + 24 ≤ c.used
  pub slot-free : unreleased c.window < 64

pub record Reachable (c : Card) : Type 0 where
  pub own-fits : c.own < 2 ^ 16
  pub peer-fits : c.peer < 2 ^ 16
  -- a card whose opening was refused has IDs and limit 0; any other has neither ID 0, and a limit of 34 to 9,000
  pub opening : ((c.own ≡ 0) × (c.peer ≡ 0) × (c.limit ≡ 0))
      ⊎ ((c.own ≢ 0) × (c.peer ≢ 0) × (34 ≤ c.limit) × (c.limit ≤ frame_most))
  pub building : ((c.used ≡ 0) × (c.last ≡ 0)) ⊎ Building c
  pub window : InOrder c.window c.limit
  pub sendings : Orderly c.sendings
  pub settled : Settled c.sendings c.window
