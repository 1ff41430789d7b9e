-- The card's transactions: opening one, adding a message to one, and which of them are finished.
-- They have a window of 32 from the lowest unfinished one on; each has the table's entry that its number modulo 32
-- gives.
use Rattle.std.specs.Prelude.{ℕ, suc, ◌+◌, ◌%◌, Bool, cond, ◌&&◌, ◌||◌, eqb, ltb, get_or, set, replicate}
use Rattle.seq.specs.Ring.{frame_space, trans_space, distance, advance, in_range}
use Rattle.bitmap.specs.Marks.{mark, marks_of}
use Rattle.bitmap.specs.Window.{moved}
use Rattle.wire.specs.Format.{needed}
use Rattle.card.specs.declared.Sending.{Sending}
use Rattle.card.specs.declared.Sendings.{Sendings}

abbrev pub no_sending : Sending
no_sending = record { address = 0; value = 0; count = 0; added = 0; frame = record { 0 = 0 } }

-- Transactions start at 0, and none is opened.
unfoldable pub no_sendings : Sendings
no_sendings =
    record { next = record { 0 = 0 }; lowest = record { 0 = 0 }; finished = 0; table = replicate 32 no_sending }

-- How many are opened from the lowest unfinished one on, finished ones among them.
abbrev pub opened : Sendings → ℕ
opened s = distance trans_space s.lowest.0 s.next.0

abbrev pub sending_at : Sendings → ℕ → Sending
sending_at s t = get_or s.table (t % 32) no_sending

-- ---- opening

-- Refusal 20, 0 for none.
unfoldable pub opening_refusal : Sendings → ℕ
opening_refusal s = cond (ltb (opened s) 32) 0 20

-- The next number is given to a transaction of these terms. No message of it is added yet.
unfoldable pub opening : Sendings → ℕ → ℕ → ℕ → Sendings
opening s count address value = record {
  next = record { 0 = advance trans_space s.next.0 1 };
  lowest = s.lowest;
  finished = s.finished;
  table = set s.table (s.next.0 % 32)
      (record { address = address; value = value; count = count; added = 0; frame = record { 0 = 0 } });
}

-- ---- adding

-- Whether a message of transaction t may be added (23 where not): it is opened and takes more messages. One below the
-- window is finished, so that its messages are all added; one above it was never opened.
unfoldable pub takes : Sendings → ℕ → Bool
takes s t =
    in_range trans_space s.lowest.0 (opened s) t
    && ltb (sending_at s t).added (needed (sending_at s t).count)

-- One message of transaction t more, in the frame of this number; nothing where t takes none.
abbrev pub one_added : Sending → ℕ → Sending
one_added e frame = record {
  address = e.address;
  value = e.value;
  count = e.count;
  added = suc e.added;
  frame = record { 0 = frame };
}

unfoldable pub adding : Sendings → ℕ → ℕ → Sendings
adding s t frame =
    cond (takes s t)
    (record {
      next = s.next;
      lowest = s.lowest;
      finished = s.finished;
      table = set s.table (t % 32) (one_added (sending_at s t) frame);
    })
    s

-- ---- finishing

-- All messages of a transaction are added: one bare one for count 0.
abbrev pub all_added : Sending → Bool
all_added e = eqb e.added (needed e.count)

-- A step releases the frames from `from` up to but not including `base`. All messages of the transaction are added, and
-- the frame with the latest of them is one of these; its other messages lie in frames sealed no later. (Had that frame
-- been released earlier, the transaction would have been finished then: proofs/Finished.antt, `by_state`, shows that
-- what a step finishes is what Finished.antt says without a step.)
unfoldable pub all_released : Sending → ℕ → ℕ → Bool
all_released e from base = all_added e && in_range frame_space from (distance frame_space from base) e.frame.0

-- The i-th transaction from the lowest unfinished one on is finished (a term of the rules): it is opened, and it was
-- finished before or all its messages lie in released frames now. What was finished stays so: a frame number that comes
-- round decides nothing anew, since `all_released` is asked in the step that releases the frame.
unfoldable pub finished_by : Sendings → ℕ → ℕ → ℕ → Bool
finished_by s from base i =
    ltb i (opened s) && (mark s.finished i || all_released (sending_at s (s.lowest.0 + i)) from base)

-- The window moves past consecutive finished ones.
unfoldable pub passing : Sendings → ℕ → Sendings
passing s finished =
    let m = moved trans_space 32 s.lowest.0 finished in
    record { next = s.next; lowest = record { 0 = m.first }; finished = m.marks; table = s.table }

-- The frames from `from` up to but not including `base` are released.
unfoldable pub finishing : Sendings → ℕ → ℕ → Sendings
finishing s from base = passing s (marks_of 32 (finished_by s from base))
