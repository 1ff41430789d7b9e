-- What holds of the sealed frames and of the transactions of every card that a run reaches, kept by what the steps do
-- to them: sealing and releasing frames, opening a transaction, adding a message, finishing transactions.
-- Assumes nothing.
use Prim.Native.Nat.{ℕ, zero, suc, ◌+◌, ◌-◌, ◌%◌, ◌^◌, ◌≤◌, ◌<◌}
use native.Mathlib.Decide.{dec_lt, ℕ_discrete}
use native.Mathlib.Omega.{arith}
use mathlib.Core.Path.{◌≡◌, refl, sym, ap, ◌∙◌}
use mathlib.Core.Bool.{Bool, true, false, true≢false, ◌&&◌, ◌||◌, and-eq-true_iff}
use mathlib.Core.List.{List, [], ◌∷◌, map}
use borrow.Author.Tests.{eqb-true, ne_eqb, ltb-false, lt-ltb, le-ltb}
use lib.Dec.{ltb, lit<}
use lib.ListN.{length, get_or, set, replicate, length-set}
use lib.Seq.{get_or-set_same, get_or-set_other}
use Rattle.seq.specs.Ring.{frame_space, trans_space, distance, advance}
use Rattle.seq.proofs.Ring.{distance-advance, distance-nearer, distance-passed}
use Rattle.bitmap.specs.Marks.{mark, trailing_ones, marks_of}
use Rattle.bitmap.proofs.Marks.{
  mark-of-zero,
  mark-shift,
  mark-marks_of,
  mark-marks_of-beyond,
  marks_of-lt,
  moved-lt,
  moved-clear,
  run-most,
  moved-past,
}
use Rattle.wire.specs.Format.{needed}
use Rattle.wire.proofs.Format.{needed-pos}
use Rattle.card.specs.declared.SendWindow.{SendWindow}
use Rattle.card.specs.Window.{empty_window, unreleased, sealing, acknowledged_by, releasing, acknowledging}
use Rattle.card.specs.declared.Sending.{Sending}
use Rattle.card.specs.declared.Sendings.{Sendings}
use Rattle.card.specs.Sendings.{
  no_sending,
  no_sendings,
  opened,
  sending_at,
  opening,
  takes,
  one_added,
  adding,
  all_added,
  all_released,
  finished_by,
  passing,
  finishing,
}
use Rattle.card.specs.Finished.{is_released, lies_released, is_finished}
use Rattle.card.specs.Reachable.{InOrder, Counted, Orderly, NotReleased, Settled}
use Rattle.card.proofs.Adding.{takes-lacks}

-- ---- the window

-- what a test does not hold of is not marked, inside the word or past it
not-marked : (n : ℕ) (p : ℕ → Bool) (i : ℕ) → p i ≡ false → mark (marks_of n p) i ≡ false
not-marked n p i e = go (dec_lt i n)
  where
    go : Dec (i < n) → mark (marks_of n p) i ≡ false
    go (yes l) = mark-marks_of n p i l ∙ e
    go (no l) = mark-marks_of-beyond n p i (omega arith)

nothing-at : {A : Type 0} (n k : ℕ) (a : A) → get_or (replicate n a) k a ≡ a
nothing-at zero k a = refl
nothing-at (suc n) zero a = refl
nothing-at (suc n) (suc k) a = nothing-at n k a

-- nothing is sealed
pub empty-in-order : (limit : ℕ) → InOrder empty_window limit
unfolding empty_window distance
empty-in-order limit =
    record {
      next_fits = omega arith;
      base-fits = omega arith;
      acked-fits = omega arith;
      slots = refl;
      few = omega arith;
      unsealed-clear = λ i h. mark-of-zero i;
      lowest-clear = mark-of-zero 0;
      sizes-least = λ i h. absurd (omega arith);
      sizes-most = λ k. rw (nothing-at {A = ℕ} 64 k 0) (omega arith);
    }

-- a frame more is sealed
module _ (w : SendWindow) (limit size : ℕ) (k : InOrder w limit) (free : unreleased w < 64) (least : 34 ≤ size)
    (most : size ≤ limit) where
  one_more : unreleased (sealing w size) ≡ suc (unreleased w)
  unfolding sealing distance advance
  one_more = omega (arith, k.next_fits, k.base-fits, free)

  -- the length kept for the i-th frame from the lowest not released on
  abbrev was : ℕ → ℕ
  was i = get_or w.sizes ((w.base.0 + i) % 64) 0

  abbrev is : ℕ → ℕ
  is i = get_or (sealing w size).sizes ((w.base.0 + i) % 64) 0

  size-old : (i : ℕ) → i < unreleased w → is i ≡ was i
  unfolding sealing distance
  size-old i h =
      get_or-set_other w.sizes (w.next.0 % 64) ((w.base.0 + i) % 64) size 0
      (λ e. omega (arith, k.next_fits, k.base-fits, free))

  size-new : (i : ℕ) → i ≡ unreleased w → is i ≡ size
  unfolding sealing distance
  size-new i h =
      let e : (w.base.0 + i) % 64 ≡ w.next.0 % 64 = omega (arith, k.next_fits, k.base-fits) in
      rw e (get_or-set_same w.sizes (w.next.0 % 64) size 0 (omega (arith, k.slots)))

  pub sealing-keeps : InOrder (sealing w size) limit
  unfolding sealing advance
  sealing-keeps =
      record {
        next_fits = omega arith;
        base-fits = k.base-fits;
        acked-fits = k.acked-fits;
        slots = length-set w.sizes (w.next.0 % 64) size ∙ k.slots;
        few = omega (arith, one_more);
        unsealed-clear = λ i h. k.unsealed-clear i (omega (arith, one_more));
        lowest-clear = k.lowest-clear;
        sizes-least = λ i h. at_least i (omega (arith, one_more)) (dec_lt i (unreleased w));
        sizes-most = λ j. at_most j (ℕ_discrete j (w.next.0 % 64));
      }
    where
      at_least : (i : ℕ) → i ≤ unreleased w → Dec (i < unreleased w) → 34 ≤ is i
      at_least i h (yes l) = rw (size-old i l) (k.sizes-least i l)
      at_least i h (no l) = rw (size-new i (omega arith)) least

      at_most : (j : ℕ) → Dec (j ≡ w.next.0 % 64) → get_or (set w.sizes (w.next.0 % 64) size) j 0 ≤ limit
      at_most j (yes e) = rw (e, get_or-set_same w.sizes (w.next.0 % 64) size 0 (omega (arith, k.slots))) most
      at_most j (no e) = rw (get_or-set_other w.sizes (w.next.0 % 64) j size 0 e) (k.sizes-most j)

-- numbers are acknowledged, whichever they are
module _ (w : SendWindow) (limit start count : ℕ) (k : InOrder w limit) where
  marked : ℕ
  marked = marks_of 64 (acknowledged_by w start count)

  marked-past : (i : ℕ) → unreleased w ≤ i → mark marked i ≡ false
  unfolding marked acknowledged_by
  marked-past i h = not-marked 64 (acknowledged_by w start count) i (rw (le-ltb i (unreleased w) h))

  marked-fits : marked < 2 ^ 64
  unfolding marked
  marked-fits = marks_of-lt 64 (acknowledged_by w start count)

  abbrev released : ℕ
  released = trailing_ones 64 marked

  released-most : released ≤ unreleased w
  released-most = run-most 64 (unreleased w) marked marked-past

  fewer : unreleased (acknowledging w start count) ≡ unreleased w - released
  unfolding acknowledging releasing distance advance marked
  fewer = omega (arith, k.next_fits, k.base-fits, released-most)

  -- how far the frames released now reach
  reaches : distance frame_space w.base.0 (acknowledging w start count).base.0 ≡ released
  unfolding acknowledging releasing marked
  reaches =
      distance-advance frame_space (lit< tt) w.base.0 released k.base-fits
      (omega (arith, k.few, released-most))

  -- they and those that are left are all there were
  pub released-and-left : distance frame_space w.base.0 (acknowledging w start count).base.0
      + unreleased (acknowledging w start count)
      ≡ unreleased w
  released-and-left = omega (arith, reaches, fewer, released-most)

  pub acknowledging-keeps : InOrder (acknowledging w start count) limit
  unfolding acknowledging releasing advance marked
  acknowledging-keeps =
      record {
        next_fits = k.next_fits;
        base-fits = omega arith;
        acked-fits = moved-lt 64 marked marked-fits;
        slots = k.slots;
        few = omega (arith, fewer, k.few);
        unsealed-clear = λ i h. moved-past 64 (unreleased w) marked marked-past i (omega (arith, fewer));
        lowest-clear = moved-clear 64 marked marked-fits;
        sizes-least = λ i h. rw (slot i) (k.sizes-least (released + i) (omega (arith, fewer, released-most)));
        sizes-most = k.sizes-most;
      }
    where
      -- slots go on with the numbers where those wrap
      slot : (i : ℕ) → ((w.base.0 + released) % frame_space + i) % 64 ≡ (w.base.0 + (released + i)) % 64
      slot i = omega arith

-- ---- the transactions

nothing-counted : Counted no_sending
nothing-counted =
    record {
      added-most = omega (arith, needed-pos 0);
      count_fits = omega arith;
      address-fits = omega arith;
      value-fits = omega arith;
      latest-fits = omega arith;
    }

each_set : (table : List Sending) (i : ℕ) (e : Sending) → i < length table → Counted e
    → ((k : ℕ) → Counted (get_or table k no_sending)) → (k : ℕ) → Counted (get_or (set table i e) k no_sending)
each_set table i e l ok all k = go (ℕ_discrete k i)
  where
    go : Dec (k ≡ i) → Counted (get_or (set table i e) k no_sending)
    go (yes q) = rw (q, get_or-set_same table i e no_sending l) ok
    go (no q) = rw (get_or-set_other table i k e no_sending q) (all k)

pub none-orderly : Orderly no_sendings
unfolding no_sendings distance
none-orderly =
    record {
      next_fits = omega arith;
      lowest-fits = omega arith;
      finished-fits = omega arith;
      entries = refl;
      each = λ k. rw (nothing-at 32 k no_sending) nothing-counted;
      few = omega arith;
      unopened-clear = λ i h. mark-of-zero i;
      lowest-clear = mark-of-zero 0;
    }

one-opened : (s : Sendings) (count address value : ℕ) → Orderly s → opened s < 32
    → opened (opening s count address value) ≡ suc (opened s)
unfolding opening advance distance
one-opened s count address value o room = omega (arith, o.next_fits, o.lowest-fits, room)

pub opening-keeps : (s : Sendings) (count address value : ℕ) → Orderly s → opened s < 32 → count < 2 ^ 16
    → address < 2 ^ 32 → value < 2 ^ 32 → Orderly (opening s count address value)
unfolding opening advance
opening-keeps s count address value o room c t v =
    record {
      next_fits = omega arith;
      lowest-fits = o.lowest-fits;
      finished-fits = o.finished-fits;
      entries = length-set s.table (s.next.0 % 32) _ ∙ o.entries;
      each = each_set s.table (s.next.0 % 32) _ (omega (arith, o.entries)) new o.each;
      few = omega (arith, one-opened s count address value o room);
      unopened-clear = λ i h. o.unopened-clear i (omega (arith, one-opened s count address value o room));
      lowest-clear = o.lowest-clear;
    }
  where
    new : Counted (record { address = address; value = value; count = count; added = 0; frame = record { 0 = 0 } })
    new =
        record {
          added-most = omega (arith, needed-pos count);
          count_fits = c;
          address-fits = t;
          value-fits = v;
          latest-fits = omega arith;
        }

pub adding-keeps : (s : Sendings) (t frame : ℕ) → Orderly s → frame < frame_space → Orderly (adding s t frame)
unfolding adding
adding-keeps s t frame o f = go (takes s t) refl
  where
    e : Sending
    e = sending_at s t

    more : takes s t ≡ true → Counted (one_added e frame)
    more z =
        let l : e.added < needed e.count = takes-lacks s t z in
        let k : Counted e = o.each (t % 32) in
        record {
          added-most = omega arith;
          count_fits = k.count_fits;
          address-fits = k.address-fits;
          value-fits = k.value-fits;
          latest-fits = f;
        }

    go : (b : Bool) → takes s t ≡ b → Orderly (adding s t frame)
    go false z = rw z o
    go true z =
        rw z (record {
          next_fits = o.next_fits;
          lowest-fits = o.lowest-fits;
          finished-fits = o.finished-fits;
          entries = length-set s.table (t % 32) (one_added e frame) ∙ o.entries;
          each = each_set s.table (t % 32) (one_added e frame) (omega (arith, o.entries)) (more z) o.each;
          few = o.few;
          unopened-clear = o.unopened-clear;
          lowest-clear = o.lowest-clear;
        })

-- frames are released, whichever they are
module _ (s : Sendings) (from base : ℕ) (o : Orderly s) where
  ended : ℕ
  ended = marks_of 32 (finished_by s from base)

  ended-past : (i : ℕ) → opened s ≤ i → mark ended i ≡ false
  unfolding ended finished_by
  ended-past i h = not-marked 32 (finished_by s from base) i (rw (le-ltb i (opened s) h))

  ended-fits : ended < 2 ^ 32
  unfolding ended
  ended-fits = marks_of-lt 32 (finished_by s from base)

  abbrev gone : ℕ
  gone = trailing_ones 32 ended

  less-open : opened (finishing s from base) ≡ opened s - gone
  unfolding finishing passing distance advance ended
  less-open = omega (arith, o.next_fits, o.lowest-fits, run-most 32 (opened s) ended ended-past)

  pub finishing-keeps : Orderly (finishing s from base)
  unfolding finishing passing advance ended
  finishing-keeps =
      record {
        next_fits = o.next_fits;
        lowest-fits = omega arith;
        finished-fits = moved-lt 32 ended ended-fits;
        entries = o.entries;
        each = o.each;
        few = omega (arith, less-open, o.few);
        unopened-clear = λ i h. moved-past 32 (opened s) ended ended-past i (omega (arith, less-open));
        lowest-clear = moved-clear 32 ended ended-fits;
      }

-- ---- which frames are released, and which transactions are finished

-- Frames 65,530 to 1 are unreleased, and frame 2 is being built.
abbrev wrapped : SendWindow
wrapped = record { acked = 0; next = record { 0 = 2 }; base = record { 0 = 65530 }; sizes = replicate 64 34 }

pub released-edges : (is_released wrapped 65529 ≡ true) × (is_released wrapped 65530 ≡ false)
    × (is_released wrapped 1 ≡ false) × (is_released wrapped 2 ≡ false) × (is_released wrapped 3 ≡ true)
unfolding is_released distance
released-edges = (refl, refl, refl, refl, refl)

abbrev sending : ℕ → ℕ → ℕ → Sending
sending count added frame =
    record { address = 0; value = 0; count = count; added = added; frame = record { 0 = frame } }

-- In turn: one that lacks a message, one that is finished, one whose last frame is the lowest unreleased one, one whose
-- last frame is being built, one that is marked and whose last frame's number is given again, and one that is not
-- opened.
abbrev six : Sendings
six = record {
  next = record { 0 = 5 };
  lowest = record { 0 = 0 };
  finished = 16;
  table = sending 2 1 65529 ∷ sending 1 1 65529 ∷ sending 1 1 65530 ∷ sending 1 1 2 ∷ sending 1 1 2 ∷ sending 1 1 65529
      ∷ [];
}

pub finished-edges : map (is_finished wrapped six) (0 ∷ 1 ∷ 2 ∷ 3 ∷ 4 ∷ 5 ∷ [])
    ≡ false ∷ true ∷ false ∷ false ∷ true ∷ false ∷ []
unfolding is_finished lies_released is_released distance mark needed
finished-edges = refl

-- not those up to the one being built
pub near-unreleased : (w : SendWindow) (n : ℕ) → NotReleased w n → is_released w n ≡ false
unfolding is_released
near-unreleased w n h = le-ltb (unreleased w) (distance frame_space w.base.0 n) (omega (arith, h))

-- and all others
released-far : (w : SendWindow) (n : ℕ) → unreleased w < distance frame_space w.base.0 n → is_released w n ≡ true
unfolding is_released
released-far w n = lt-ltb (unreleased w) (distance frame_space w.base.0 n)

-- ---- the transactions against the frames

-- the i-th from the lowest unfinished one on
abbrev entry : Sendings → ℕ → Sending
entry s i = sending_at s (s.lowest.0 + i)

pub none-settled : (w : SendWindow) → Settled no_sendings w
unfolding no_sendings distance
none-settled w =
    record {
      finished-full = λ i h. absurd (true≢false (sym h ∙ mark-of-zero i));
      full-waits = λ i h m a. absurd (omega arith);
    }

-- a mark stands for one that is opened
marked-opened : (s : Sendings) → Orderly s → (i : ℕ) → mark s.finished i ≡ true → i < opened s
marked-opened s o i h = go (dec_lt i (opened s))
  where
    go : Dec (i < opened s) → i < opened s
    go (yes l) = l
    go (no l) = absurd (true≢false (sym h ∙ o.unopened-clear i (omega arith)))

-- a transaction more is opened: no message of it is added
module _ (s : Sendings) (count address value : ℕ) (w : SendWindow) (o : Orderly s) (room : opened s < 32)
    (k : Settled s w) where
  abbrev new : Sending
  new = record { address = address; value = value; count = count; added = 0; frame = record { 0 = 0 } }

  abbrev more : Sendings
  more = opening s count address value

  entry_old : (i : ℕ) → i < opened s → entry more i ≡ entry s i
  unfolding opening distance
  entry_old i h =
      get_or-set_other s.table (s.next.0 % 32) ((s.lowest.0 + i) % 32) new no_sending
      (λ e. omega (arith, o.next_fits, o.lowest-fits, room))

  entry_new : (i : ℕ) → i ≡ opened s → entry more i ≡ new
  unfolding opening distance
  entry_new i h =
      let e : (s.lowest.0 + i) % 32 ≡ s.next.0 % 32 = omega (arith, o.next_fits, o.lowest-fits) in
      rw e (get_or-set_same s.table (s.next.0 % 32) new no_sending (omega (arith, o.entries)))

  pub opening-settles : Settled more w
  unfolding opening
  opening-settles =
      record {
        finished-full = λ i h. rw (entry_old i (marked-opened s o i h)) (k.finished-full i h);
        full-waits = λ i h m a. near i h m a (dec_lt i (opened s));
      }
    where
      near : (i : ℕ) → i < opened more → mark s.finished i ≡ false → all_added (entry more i) ≡ true
          → Dec (i < opened s) → NotReleased w (entry more i).frame.0
      near i h m a (yes l) = rw (entry_old i l) (k.full-waits i l m (ap all_added (sym (entry_old i l)) ∙ a))
      near i h m a (no l) =
          let last : i ≡ opened s = omega (arith, one-opened s count address value o room) in
          let none : all_added new ≡ false = ne_eqb 0 (needed count) (omega (arith, needed-pos count)) in
          absurd (true≢false (sym a ∙ ap all_added (entry_new i last) ∙ none))

-- a message more is added, to the frame being built
module _ (s : Sendings) (t : ℕ) (w : SendWindow) (o : Orderly s) (k : Settled s w) where
  abbrev added : Sending
  added = one_added (sending_at s t) w.next.0

  abbrev with-added : Sendings
  with-added =
      record { next = s.next; lowest = s.lowest; finished = s.finished; table = set s.table (t % 32) added }

  -- whether its transaction is the i-th from the lowest unfinished one on
  abbrev Its : ℕ → Type 0
  Its i = (s.lowest.0 + i) % 32 ≡ t % 32

  entry-added : (i : ℕ) → Its i → entry with-added i ≡ added
  entry-added i q = rw q (get_or-set_same s.table (t % 32) added no_sending (omega (arith, o.entries)))

  entry_other : (i : ℕ) → (Its i → ⊥) → entry with-added i ≡ entry s i
  entry_other i q = get_or-set_other s.table (t % 32) ((s.lowest.0 + i) % 32) added no_sending q

  -- one that takes a message is not finished
  still_full : takes s t ≡ true → (i : ℕ) → mark s.finished i ≡ true → Dec (Its i)
      → all_added (entry with-added i) ≡ true
  still_full z i m (yes q) =
      let all : all_added (sending_at s t) ≡ true =
      ap (λ (n : ℕ). all_added (get_or s.table n no_sending)) (sym q) ∙ k.finished-full i m in
      absurd (omega (arith, eqb-true (sending_at s t).added (needed (sending_at s t).count) all, takes-lacks s t z))
  still_full z i m (no q) = ap all_added (entry_other i q) ∙ k.finished-full i m

  still-near : (i : ℕ) → i < opened s → mark s.finished i ≡ false → all_added (entry with-added i) ≡ true
      → Dec (Its i) → NotReleased w (entry with-added i).frame.0
  still-near i h m a (yes q) = rw (entry-added i q) (omega arith)
  still-near i h m a (no q) =
      rw (entry_other i q) (k.full-waits i h m (ap all_added (sym (entry_other i q)) ∙ a))

  pub adding-settles : Settled (adding s t w.next.0) w
  unfolding adding
  adding-settles = go (takes s t) refl
    where
      go : (b : Bool) → takes s t ≡ b → Settled (adding s t w.next.0) w
      go false z = rw z k
      go true z =
          rw z (record {
            finished-full = λ i m. still_full z i m (ℕ_discrete ((s.lowest.0 + i) % 32) (t % 32));
            full-waits = λ i h m a. still-near i h m a (ℕ_discrete ((s.lowest.0 + i) % 32) (t % 32));
          })

-- a frame more is sealed
pub sealing-settles : (s : Sendings) (w : SendWindow) (limit size : ℕ) → InOrder w limit → unreleased w < 64
    → 34 ≤ size → size ≤ limit → Settled s w → Settled s (sealing w size)
unfolding sealing
sealing-settles s w limit size j free least most k =
    record {
      finished-full = k.finished-full;
      full-waits = λ i h m a.
          omega (arith, one_more w limit size j free least most, k.full-waits i h m a);
    }

-- of a finished one all messages are added, with its mark or without it
full-if-finished : (s : Sendings) (w w' : SendWindow) → Settled s w → (i : ℕ) → is_finished w' s i ≡ true
    → all_added (entry s i) ≡ true
unfolding is_finished lies_released
full-if-finished s w w' k i e = go (mark s.finished i) refl ((and-eq-true_iff (ltb i (opened s)) _).0 e).1
  where
    go : (b : Bool) → mark s.finished i ≡ b
        → (b || (all_added (entry s i) && is_released w' (entry s i).frame.0)) ≡ true → all_added (entry s i) ≡ true
    go true m q = k.finished-full i m
    go false m q = ((and-eq-true_iff (all_added (entry s i)) _).0 q).0

-- of an unfinished one with all messages added the latest lies in a frame that is not released
near-if-unfinished : (s : Sendings) (w : SendWindow) (i : ℕ) → i < opened s → is_finished w s i ≡ false
    → all_added (entry s i) ≡ true → NotReleased w (entry s i).frame.0
unfolding is_finished lies_released is_released
near-if-unfinished s w i h e a =
    go (mark s.finished i)
    (rw (lt-ltb i (opened s) h, a) at e)
  where
    away : ℕ
    away = distance frame_space w.base.0 (entry s i).frame.0

    go : (b : Bool) → (b || ltb (unreleased w) away) ≡ false → NotReleased w (entry s i).frame.0
    go true q = absurd (true≢false q)
    go false q = omega (arith, ltb-false (unreleased w) away q)

-- frames are released, and transactions finish
module _ (s : Sendings) (w : SendWindow) (limit start count : ℕ) (o : Orderly s) (j : InOrder w limit)
    (k : Settled s w) where
  abbrev from : ℕ
  from = w.base.0

  abbrev left : SendWindow
  left = acknowledging w start count

  abbrev after : Sendings
  after = finishing s from left.base.0

  abbrev past : ℕ
  past = gone s from left.base.0 o

  -- a frame that was not released is one of those released now, or is not released after the step
  released-now : (n : ℕ) → NotReleased w n
      → ltb (distance frame_space from n) (distance frame_space from left.base.0) ≡ is_released left n
  unfolding acknowledging releasing marked
  released-now n h = rw (reaches w limit start count j) (go (dec_lt away many))
    where
      away : ℕ
      away = distance frame_space from n

      many : ℕ
      many = released w limit start count j

      most : many ≤ 64
      most = omega (arith, j.few, released-most w limit start count j)

      away-now : ℕ
      away-now = distance frame_space left.base.0 n

      go : Dec (away < many) → ltb away many ≡ is_released left n
      go (yes l) =
          let d : away-now ≡ frame_space - (many - away) =
          distance-passed frame_space (lit< tt) from n many j.base-fits l (omega (arith, most)) in
          let far : unreleased left < away-now = omega (arith, most, j.few, fewer w limit start count j) in
          rw (lt-ltb away many l, released-far left n far)
      go (no l) =
          let d : away-now ≡ away - many =
          distance-nearer frame_space (lit< tt) from n many j.base-fits (omega arith) in
          let near : NotReleased left n = omega (arith, h, fewer w limit start count j) in
          rw (le-ltb away many (omega arith), near-unreleased left n near)

  -- the step's test is that of the state it leaves
  pub finished-now : (i : ℕ) → finished_by s from left.base.0 i ≡ is_finished left s i
  unfolding finished_by all_released is_finished lies_released
  finished-now i = go (dec_lt i (opened s)) (mark s.finished i) refl (all_added (entry s i)) refl
    where
      reached : Bool
      reached = ltb (distance frame_space from (entry s i).frame.0) (distance frame_space from left.base.0)

      go : Dec (i < opened s) → (m : Bool) → mark s.finished i ≡ m → (a : Bool) → all_added (entry s i) ≡ a
          → (ltb i (opened s) && (m || (a && reached)))
          ≡ (ltb i (opened s) && (m || (a && is_released left (entry s i).frame.0)))
      go (no l) m x a y = rw (le-ltb i (opened s) (omega arith))
      go (yes l) true x a y = refl
      go (yes l) false x false y = refl
      go (yes l) false x true y =
          rw (released-now (entry s i).frame.0 (k.full-waits i l x y))

  entry-after : (i : ℕ) → entry after i ≡ entry s (past + i)
  unfolding finishing passing advance ended
  entry-after i =
      let e : ((s.lowest.0 + past) % trans_space + i) % 32 ≡ (s.lowest.0 + (past + i)) % 32 = omega arith in
      ap (λ (n : ℕ). get_or s.table n no_sending) e

  mark-after : (i : ℕ) → past + i < opened s → mark after.finished i ≡ is_finished left s (past + i)
  unfolding finishing passing ended
  mark-after i h =
      mark-shift _ past i
      ∙ mark-marks_of 32 (finished_by s from left.base.0) (past + i) (omega (arith, o.few))
      ∙ finished-now (past + i)

  past-most : past ≤ opened s
  past-most = run-most 32 (opened s) (ended s from left.base.0 o) (ended-past s from left.base.0 o)

  pub finishing-settles : Settled after left
  finishing-settles =
      record {
        finished-full = λ i m.
            let l : past + i < opened s = omega (
              arith,
              past-most,
              marked-opened after (finishing-keeps s from left.base.0 o) i m,
              less-open s from left.base.0 o,
            ) in
            ap all_added (entry-after i)
            ∙ full-if-finished s w left k (past + i) (sym (mark-after i l) ∙ m);
        full-waits = λ i h m a.
            let l : past + i < opened s = omega (arith, past-most, less-open s from left.base.0 o) in
            rw (entry-after i)
            (near-if-unfinished s left (past + i) l (sym (mark-after i l) ∙ m) (ap all_added (sym (entry-after i)) ∙ a));
      }
