-- Finished transactions, found by computation: in a run of steps, and on a card that no run reaches.
-- Assumes nothing.
use Prim.Native.Nat.{ℕ}
use mathlib.Core.Path.{◌≡◌, refl}
use mathlib.Core.Bool.{Bool, true, false}
use mathlib.Core.List.{List, []}
use lib.ListN.{replicate, set}
use Rattle.seq.specs.Ring.{distance, advance}
use Rattle.bitmap.specs.Marks.{mark, leading, trailing_ones, marks_of}
use Rattle.wire.specs.Format.{needed, next_header}
use Rattle.card.specs.Window.{empty_window, sealing, acknowledged_by, releasing, acknowledging}
use Rattle.card.specs.Sendings.{
  no_sending,
  no_sendings,
  opening_refusal,
  opening,
  takes,
  adding,
  all_released,
  finished_by,
  passing,
  finishing,
}
use Rattle.card.specs.Finished.{is_released, lies_released, is_finished, finishing_by}
use Rattle.card.specs.declared.Card.{Card}
use Rattle.card.specs.Card.{
  fresh_card,
  fits,
  card_refusal,
  open_card,
  open_transaction,
  add_refusal,
  with_message,
  add_message,
  seal_refusal,
  seal_frame,
  acknowledged,
}

-- ---- a run of steps

-- One name that unfolds what the steps run through.
unfoldable pub running : Unit {0}
unfolding mark leading trailing_ones marks_of distance advance needed next_header empty_window sealing acknowledged_by
    releasing acknowledging no_sendings opening_refusal opening takes adding all_released finished_by passing finishing
    is_released lies_released is_finished finishing_by fresh_card fits card_refusal open_card open_transaction add_refusal
    with_message add_message seal_refusal seal_frame acknowledged
running = tt

unfoldable pub slots : List ℕ
slots = replicate 2176 0

-- Transactions 0 and 1 of one message each are opened. The message of transaction 1 is added, its frame is sealed and
-- acknowledged; then the same of transaction 0.
abbrev openings : Card
openings = (open_transaction (open_transaction (open_card 2 1 34 slots).card 1 0 0).card 1 0 0).card

abbrev added-1 : Card
added-1 = (add_message openings slots 1 0 []).step.card

abbrev sealed-1 : Card
sealed-1 = (seal_frame added-1 slots).card

abbrev read-1 : Card
read-1 = acknowledged sealed-1 0 1

abbrev read-0 : Card
read-0 = acknowledged (seal_frame (add_message read-1 slots 0 0 []).step.card slots).card 1 1

-- what the rules' sentence says of the first two from the lowest unfinished one on
abbrev says : Card → Bool × Bool
says c = (is_finished c.window c.sendings 0, is_finished c.window c.sendings 1)

pub worked : (says openings ≡ (false, false)) × (says added-1 ≡ (false, false)) × (says sealed-1 ≡ (false, false))
    × (says read-1 ≡ (false, true)) × (read-1.sendings.finished ≡ 2) × (read-1.sendings.lowest.0 ≡ 0)
    × (says read-0 ≡ (false, false)) × (read-0.sendings.finished ≡ 0) × (read-0.sendings.lowest.0 ≡ 2)
unfolding running slots
worked = (refl, refl, refl, refl, refl, refl, refl, refl, refl)

-- ---- a card that no run reaches

-- The only message of a transaction is added, and its frame, of number 65,535, is neither sealed and unreleased nor
-- being built. The transaction has no mark.
abbrev pub stale : Card
stale = record {
  own = 2;
  peer = 1;
  limit = 34;
  used = 0;
  last = 0;
  window = empty_window;
  sendings = record {
    next = record { 0 = 1 };
    lowest = record { 0 = 0 };
    finished = 0;
    table = set (replicate 32 no_sending) 0
        (record { address = 0; value = 0; count = 1; added = 1; frame = record { 0 = 65535 } });
  };
}

-- The rules' sentence holds of it. A step that reads acknowledgements and releases no frame does not finish it.
pub stale-differs : (is_finished stale.window stale.sendings 0 ≡ true)
    × (mark stale.sendings.finished 0 ≡ false)
    × ((acknowledged stale 0 1).sendings.lowest.0 ≡ 0)
    × ((finishing_by (acknowledging stale.window 0 1) stale.sendings).lowest.0 ≡ 1)
unfolding running
stale-differs = (refl, refl, refl, refl)
