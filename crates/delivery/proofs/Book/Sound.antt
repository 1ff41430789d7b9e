-- What holds of the book at all times, given that the card refused what the rules say; and what follows for an arriving
-- frame. Assumes nothing.
use Prim.Native.Nat.{ℕ, ◌+◌, ◌-◌, ◌≤◌, ◌<◌}
use native.Mathlib.Omega.{arith}
use mathlib.Core.Path.{◌≡◌, refl, sym, ap, ◌∙◌}
use mathlib.Core.Bool.{Bool, true, false, and-eq-true_iff}
use borrow.Author.Tests.{le-leb, leb-true, lt-ltb, ltb-true}
use lib.Dec.{leb, ltb}
use mathlib.Core.List.{List, [], Memᴰ}
use lib.ListN.{length, get_or}
use Rattle.bitmap.specs.Marks.{leading}
use Rattle.bitmap.proofs.Marks.{leading_le, leading-ge, leading-holds, leading-mono, leading-fails}
use Rattle.wire.specs.Format.{needed}
use Rattle.delivery.specs.Book.{
  Book,
  MessageRecord,
  FrameRecord,
  no_frame,
  AckRange,
  covers,
  accepted_run,
  ack_of,
  frame_copy,
  frame_at,
  transaction_at,
  released_count,
  lowest_not_accepted,
  accepted_messages,
  released_messages,
  added_messages,
  complete,
  finished,
}
use Rattle.delivery.proofs.Book.Counts.{count, count-leading, full-mono}

-- The lowest transaction that is not finished, and the lowest that is not complete.
abbrev pub low_unfinished : Book → ℕ
low_unfinished b = leading (finished b) (length b.transactions)

abbrev pub low_incomplete : Book → ℕ
low_incomplete b = leading (complete b) (length b.transactions)

-- An acknowledgement called for covers some frames, as many as a byte counts, and all of them are accepted.
pub record DueFor (frames : List FrameRecord) (r : AckRange) : Type 0 where
  pub some : 0 < r.many
  pub few : r.many < 256
  pub all_accepted : (n : ℕ) → covers r n ≡ true → (get_or frames n no_frame).accepted ≡ true

pub due-later : (frames frames' : List FrameRecord)
    → ((n : ℕ) → (get_or frames n no_frame).accepted ≡ true → (get_or frames' n no_frame).accepted ≡ true) → (r : AckRange)
    → DueFor frames r → DueFor frames' r
due-later frames frames' stays r d =
    record { some = d.some; few = d.few; all_accepted = λ n c. stays n (d.all_accepted n c) }

-- the first is covered
pub covers-first : (r : AckRange) → 0 < r.many → covers r r.first ≡ true
covers-first r h = rw (le-leb r.first r.first (omega arith), lt-ltb r.first (r.first + r.many) (omega arith))
    refl

-- the acknowledgement of the run from an accepted frame on
pub due-run : (frames : List FrameRecord) (c : ℕ) → (get_or frames c no_frame).accepted ≡ true
    → DueFor frames (ack_of frames c)
unfolding accepted_run
due-run frames c here = record {
  some = leading-ge run 255 1 (omega arith)
      (λ i h. let z : c + i ≡ c = omega arith in ap (λ (k : ℕ). (get_or frames k no_frame).accepted) z ∙ here);
  few = omega (arith, leading_le run 255);
  all_accepted = λ n e. inside n ((and-eq-true_iff (leb c n) (ltb n (c + leading run 255))).0 e);
}
  where
    run : ℕ → Bool
    run i = (get_or frames (c + i) no_frame).accepted

    inside : (n : ℕ) → (leb c n ≡ true) × (ltb n (c + leading run 255) ≡ true) → (get_or frames n no_frame).accepted ≡ true
    inside n k =
        let l : c ≤ n = leb-true c n k.0 in
        let h : n < c + leading run 255 = ltb-true n (c + leading run 255) k.1 in
        let z : c + (n - c) ≡ n = omega arith in
        sym (ap (λ (k : ℕ). (get_or frames k no_frame).accepted) z) ∙ leading-holds run 255 (n - c) (omega arith)

pub record Sound (b : Book) : Type 0 where
  pub frames_fit : length b.frames ≤ released_count b + 64
  pub building_fits : 0 < length b.building → length b.frames < released_count b + 64
  pub trans_fit : length b.transactions ≤ low_unfinished b + 32
  pub known : (e : MessageRecord) → Memᴰ e (added_messages b) → e.trans < length b.transactions
  pub at_most : (i : ℕ) → i < length b.transactions → count i (added_messages b) ≤ needed (transaction_at b i).count
  pub bare : (e : MessageRecord) → Memᴰ e (added_messages b) → (transaction_at b e.trans).count ≡ 0 → e.bytes ≡ []
  pub filled : (c : ℕ) → c < length b.frames → 0 < length (frame_at b c).messages
  pub acknowledged_accepted : (c : ℕ) → (frame_at b c).acknowledged ≡ true → (frame_at b c).accepted ≡ true
  pub due_accepted : (r : AckRange) → Memᴰ r b.acks_due → DueFor b.frames r
  pub hand_outs_sealed : (c : ℕ) → Memᴰ (frame_copy c) b.hand_outs → c < length b.frames
  pub unfinished_listed : (i j : ℕ) → i < j → j < length b.transactions → finished b i ≡ false
      → Memᴰ i (transaction_at b j).unfinished_at_opening

module _ (b : Book) (s : Sound b) where
  -- the card releases nothing that the host has not accepted
  pub released-accepted : (c : ℕ) → c < released_count b → (frame_at b c).accepted ≡ true
  released-accepted c h = s.acknowledged_accepted c (leading-holds (λ c. (frame_at b c).acknowledged)
      (length b.frames) c h)

  pub released-le-lowest : released_count b ≤ lowest_not_accepted b
  released-le-lowest = leading-mono (λ c. (frame_at b c).acknowledged) (λ c. (frame_at b c).accepted) (length b.frames)
      (length b.frames) (omega arith) (λ c l. s.acknowledged_accepted c)

  -- a sealed frame that has not arrived lies in the host's window
  pub frame-window : (c : ℕ) → c < length b.frames → (frame_at b c).accepted ≡ false
      → (lowest_not_accepted b ≤ c) × (c < lowest_not_accepted b + 64)
  frame-window c h n =
      let l : lowest_not_accepted b ≤ c = leading-fails (λ c. (frame_at b c).accepted) (length b.frames) c n in
      let r : released_count b ≤ lowest_not_accepted b = released-le-lowest in
      let f : length b.frames ≤ released_count b + 64 = s.frames_fit in
      (l, omega arith)

  -- an accepted frame's acknowledgement lies below the card's window's end
  pub ack-near : (c : ℕ) → c < length b.frames → c < released_count b + 64
  ack-near c h = let f : length b.frames ≤ released_count b + 64 = s.frames_fit in omega arith

  -- a finished transaction is complete at the host
  pub finished-complete : (i : ℕ) → finished b i ≡ true → complete b i ≡ true
  unfolding finished complete
  finished-complete i f =
      full-mono (transaction_at b i) i (released_messages b) (accepted_messages b)
      (count-leading i b.frames (released_count b) (leading_le (λ c. (frame_at b c).acknowledged) (length b.frames))
      released-accepted) f

  pub low-le-low : low_unfinished b ≤ low_incomplete b
  low-le-low = leading-mono (finished b) (complete b) (length b.transactions) (length b.transactions)
      (omega arith)
      (λ i l. finished-complete i)

  -- a transaction that is not complete lies in the host's window
  pub trans-window : (i : ℕ) → i < length b.transactions → complete b i ≡ false
      → (low_incomplete b ≤ i) × (i < low_incomplete b + 32)
  trans-window i h n =
      let l : low_incomplete b ≤ i = leading-fails (complete b) (length b.transactions) i n in
      let r : low_unfinished b ≤ low_incomplete b = low-le-low in
      let f : length b.transactions ≤ low_unfinished b + 32 = s.trans_fit in
      (l, omega arith)
