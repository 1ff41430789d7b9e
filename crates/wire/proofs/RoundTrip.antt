-- What is written reads back: every list of messages that fits a frame, and every acknowledgement frame.
-- Assumes nothing.
use mathlib.Core.Path.{◌≡◌, refl, sym, ap, ◌∙◌}
use mathlib.Core.Bool.{Bool, true, false, cond}
use mathlib.Core.List.{List, [], ◌∷◌, ◌++◌, append-nil}
use mathlib.Core.Option.{some}
use Prim.Native.Nat.{ℕ, zero, suc, ◌+◌, ◌≤◌, ◌<◌}
use native.Mathlib.Nat.{add-zero}
use native.Mathlib.Omega.{arith}
use borrow.Author.Tests.{le-leb, le-ltb, eq-eqb, ne_eqb}
use lib.Dec.{leb, eqb}
use lib.ListN.{length, take, drop, length-append, length-take}
use lib.Seq.{take-append_seam, drop-append-add}
use Rattle.octets.specs.Octets.{Bytes, little, value, field}
use Rattle.octets.proofs.Octets.{value-little, field-behind, field_lt}
use Rattle.seq.specs.Ring.{frame_space, trans_space, distance, in_range}
use Rattle.wire.specs.Format.{Message, next_header}
use Rattle.wire.specs.Reading.{
  destination,
  source,
  number,
  ack_start,
  ack_count,
  flags,
  addressed,
  follows,
  data_end,
  message_at,
  messages_from,
  good,
  or_passes_end,
  heading_of,
  read_frame,
  acknowledges,
}
use Rattle.wire.specs.Writing.{frame_head, message_head, end_of, gap_at, laid, flags_for, frame_of, ack_frame}
use Rattle.wire.proofs.Reading.{Headed, unread, headed, read-messages}
use Rattle.wire.proofs.Format.{
  length-frame_head,
  length_front,
  passed,
  length-passed,
  laid-passed,
  length-frame,
  count-laid,
}

-- a message whose numbers fit the fields of its header
pub record Fits (m : Message) : Type 0 where
  pub trans-fits : m.trans < trans_space
  pub address-fits : m.completion_address < trans_space
  pub value-fits : m.completion_value < trans_space
  pub count_fits : m.count < frame_space
  pub at-fits : m.data_address < trans_space
  pub bytes_fit : length m.bytes < frame_space

abbrev pub AllFit : List Message → Type 0
AllFit [] = Unit {0}
AllFit (m ∷ ms) = Fits m × AllFit ms

-- ---- messages read from a frame of bytes fit

message-fits : (f : List ℕ) (at : ℕ) → Bytes f → Fits (message_at f at)
unfolding message_at
message-fits f at b =
    record {
      trans-fits = field_lt f at 4 b;
      address-fits = field_lt f (at + 4) 4 b;
      value-fits = field_lt f (at + 8) 4 b;
      count_fits = field_lt f (at + 12) 2 b;
      at-fits = field_lt f (at + 16) 4 b;
      bytes_fit =
          omega (arith, length-take (field f (at + 20) 2) (drop (at + 24) f), field_lt f (at + 20) 2 b);
    }

pub messages-fit : (n : ℕ) (f : List ℕ) (at : ℕ) (ms : List Message) → Bytes f
    → messages_from n f at ≡ some ms → AllFit ms
messages-fit zero f at ms b e = absurd (unread f at ms e)
messages-fit (suc n) f at ms b e =
    all (headed f n at ms e) (λ rest q. messages-fit n f (next_header (data_end f at)) rest b q)
  where
    all : Headed f at n ms
        → ((rest : List Message) → messages_from n f (next_header (data_end f at)) ≡ some rest → AllFit rest) → AllFit ms
    all h ih = rw h.is (message-fits f at b, go (follows (field f (at + 23) 1)) refl)
      where
        go : (x : Bool) → follows (field f (at + 23) 1) ≡ x → AllFit h.rest
        go false z = rw (h.last z) tt
        go true z = ih h.rest (h.more z)

-- ---- what is written

-- a message's header and data, behind some bytes and with some bytes after it
module _ (before : List ℕ) (m : Message) (f : Fits m) (trailing : ℕ) (rest : List ℕ) where
  front : List ℕ
  front = message_head m trailing ++ (m.bytes ++ rest)

  frame : List ℕ
  frame = before ++ front

  at-start : (n : ℕ) → field frame (length before) n ≡ field front 0 n
  unfolding frame
  at-start n = ap (λ (k : ℕ). field frame k n) (sym (add-zero (length before))) ∙ field-behind before front 0 n

  size : field frame (length before + 20) 2 ≡ length m.bytes
  unfolding frame front field message_head little
  size = field-behind before front 20 2 ∙ value-little 2 (length m.bytes) f.bytes_fit

  trailer : trailing < 256 → field frame (length before + 23) 1 ≡ trailing
  unfolding frame front field message_head little
  trailer h = field-behind before front 23 1 ∙ value-little 1 trailing h

  data-part : take (field frame (length before + 20) 2) (drop (length before + 24) frame) ≡ m.bytes
  unfolding frame front message_head little
  data-part =
      ap (λ (n : ℕ). take n (drop (length before + 24) frame)) size
      ∙ ap (take (length m.bytes)) (drop-append-add before front 24)
      ∙ take-append_seam m.bytes rest

  message-back : message_at frame (length before) ≡ m
  unfolding message_at frame front field message_head little
  message-back =
      same (at-start 4 ∙ value-little 4 m.trans f.trans-fits)
      (field-behind before front 4 4 ∙ value-little 4 m.completion_address f.address-fits)
      (field-behind before front 8 4 ∙ value-little 4 m.completion_value f.value-fits)
      (field-behind before front 12 2 ∙ value-little 2 m.count f.count_fits)
      (field-behind before front 16 4 ∙ value-little 4 m.data_address f.at-fits)
      data-part
    where
      same : {a a' b b' c c' d d' e e' : ℕ} {x x' : List ℕ} → a ≡ a' → b ≡ b' → c ≡ c' → d ≡ d' → e ≡ e' → x ≡ x'
          → ◌≡◌ {A = Message}
          (record { trans = a; completion_address = b; completion_value = c; count = d; data_address = e; bytes = x })
          (record {
            trans = a';
            completion_address = b';
            completion_value = c';
            count = d';
            data_address = e';
            bytes = x';
          })
      same p q r s t u = cc

  fits-frame : leb (data_end frame (length before)) (length frame) ≡ true
  unfolding frame front
  fits-frame =
      le-leb (data_end frame (length before)) (length frame)
      (omega (arith, size, length-append before front, length_front m trailing rest))

  is_last : (k : ℕ) → trailing < 256 → follows trailing ≡ false
      → messages_from (suc k) frame (length before) ≡ some (m ∷ [])
  unfolding messages_from
  is_last k b t = rw (fits-frame, trailer b, t, message-back)

  is-more : (k : ℕ) (ms : List Message) → trailing < 256 → follows trailing ≡ true
      → messages_from k frame (next_header (end_of (length before) m)) ≡ some ms
      → messages_from (suc k) frame (length before) ≡ some (m ∷ ms)
  unfolding messages_from
  is-more k ms b t q = rw (fits-frame, trailer b, t, message-back, size, q)

-- ---- messages, one after another

-- all messages that are laid out behind some bytes are read from there on
pub messages-back : (k : ℕ) (before : List ℕ) (m : Message) (ms : List Message) → length (m ∷ ms) ≤ k
    → Fits m → AllFit ms
    → messages_from k (before ++ laid (length before) (m ∷ ms)) (length before) ≡ some (m ∷ ms)
unfolding laid frame front follows
messages-back zero before m ms h f fs = absurd (omega arith)
messages-back (suc k) before m [] h f fs =
    ap (λ (r : List ℕ). messages_from (suc k) (before ++ (message_head m 0 ++ r)) (length before))
    (sym (append-nil m.bytes))
    ∙ is_last before m f 0 [] k (omega arith) refl
messages-back (suc k) before m (n ∷ ms) h f fs =
    is-more before m f 1 (gap_at (end_of (length before) m) ++ laid (next_header (end_of (length before) m)) (n ∷ ms)) k
    (n ∷ ms)
    (omega arith) refl
    (ap (λ (a : ℕ). messages_from k (before ++ laid (length before) (m ∷ (n ∷ ms))) a) (sym (length-passed before m))
    ∙ ap (λ (r : List ℕ). messages_from k r (length (passed before m))) (laid-passed before m n ms)
    ∙ messages-back k (passed before m) n ms (omega arith) fs.0 fs.1)

-- ---- a frame with messages

pub frame-flags : (to from num : ℕ) (ms : List Message) → flags (frame_of to from num ms) ≡ flags_for ms
unfolding frame_of frame_head field little value
frame-flags to from num [] = refl
frame-flags to from num (m ∷ ms) = refl

module _ (to from num : ℕ) (to-fits : to < frame_space) (from-fits : from < frame_space) (num-fits : num < frame_space)
    (ms : List Message) where
  pub frame-destination : destination (frame_of to from num ms) ≡ to
  unfolding frame_of frame_head field little value
  frame-destination = value-little 2 to to-fits

  pub frame-source : source (frame_of to from num ms) ≡ from
  unfolding frame_of frame_head field little value
  frame-source = value-little 2 from from-fits

  pub frame-number : number (frame_of to from num ms) ≡ num
  unfolding frame_of frame_head field little value
  frame-number = value-little 2 num num-fits

  -- it goes to the one and comes from the other
  pub frame-addressed : addressed to from (frame_of to from num ms) ≡ true
  unfolding addressed
  frame-addressed = rw (eq-eqb _ to frame-destination, eq-eqb _ from frame-source)

  -- it acknowledges nothing
  pub frame-acknowledges : (n : ℕ) → acknowledges (frame_of to from num ms) n ≡ false
  unfolding acknowledges frame_of frame_head field little value
  frame-acknowledges n = le-ltb (distance frame_space 0 n) 0 (omega arith)

-- every list of messages that fits a frame reads back
module _ (to from num : ℕ) (m : Message) (ms : List Message) (f : Fits m) (fs : AllFit ms) where
  sealed : List ℕ
  sealed = frame_of to from num (m ∷ ms)

  long : length sealed ≡ 10 + length (laid 10 (m ∷ ms))
  unfolding sealed
  long = length-frame to from num (m ∷ ms)

  whole : messages_from (length sealed) sealed 10 ≡ some (m ∷ ms)
  unfolding sealed frame_of
  whole =
      ap (λ (a : ℕ). messages_from (length sealed) (head ++ laid a (m ∷ ms)) a) (sym ten)
      ∙ messages-back (length sealed) head m ms (omega (arith, long, count-laid 10 (m ∷ ms))) f fs
    where
      head : List ℕ
      head = frame_head to from num 0 0 1

      ten : length head ≡ 10
      ten = length-frame_head to from num 0 0 1

  pub frame_back : length (frame_of to from num (m ∷ ms)) ≤ 9000
      → read_frame true (frame_of to from num (m ∷ ms)) ≡ good (m ∷ ms)
  unfolding sealed
  frame_back short =
      read-messages true sealed (omega (arith, long)) short refl one ∙ ap or_passes_end whole
    where
      one : flags (frame_of to from num (m ∷ ms)) ≡ 1
      one = frame-flags to from num (m ∷ ms)

-- ---- an acknowledgement frame

module _ (to from num start count : ℕ) (to-fits : to < frame_space) (from-fits : from < frame_space)
    (num-fits : num < frame_space) (start_fits : start < frame_space) (count_fits : count < 256) where
  pub ack-destination : destination (ack_frame to from num start count) ≡ to
  unfolding ack_frame frame_head field little value
  ack-destination = value-little 2 to to-fits

  pub ack-source : source (ack_frame to from num start count) ≡ from
  unfolding ack_frame frame_head field little value
  ack-source = value-little 2 from from-fits

  pub ack-addressed : addressed to from (ack_frame to from num start count) ≡ true
  unfolding addressed
  ack-addressed = rw (eq-eqb _ to ack-destination, eq-eqb _ from ack-source)

  pub ack-number : number (ack_frame to from num start count) ≡ num
  unfolding ack_frame frame_head field little value
  ack-number = value-little 2 num num-fits

  pub ack-count : ack_count (ack_frame to from num start count) ≡ count
  unfolding ack_frame frame_head field little value
  ack-count = value-little 1 count count_fits

  -- the start reads back where something is acknowledged, and is 0 where nothing is
  pub ack-start : ack_start (ack_frame to from num start count) ≡ cond (eqb count 0) 0 start
  unfolding ack_frame frame_head field little value
  ack-start = value-little 2 (cond (eqb count 0) 0 start) (go (eqb count 0))
    where
      go : (b : Bool) → cond b 0 start < frame_space
      go true = omega arith
      go false = start_fits

  -- it acknowledges the numbers of the range, and no other
  pub ack-acknowledges : (n : ℕ) → acknowledges (ack_frame to from num start count) n ≡ in_range frame_space start count n
  unfolding acknowledges
  ack-acknowledges n = rw (ack-start, ack-count) (go count)
    where
      go : (k : ℕ) → in_range frame_space (cond (eqb k 0) 0 start) k n ≡ in_range frame_space start k n
      go zero =
          rw (le-ltb (distance frame_space 0 n) 0 (omega arith), le-ltb (distance frame_space start n) 0 (omega arith))
      go (suc k) = rw (ne_eqb (suc k) 0 (omega arith))

  -- it reads as a frame with no messages
  pub ack-back : read_frame true (ack_frame to from num start count) ≡ good []
  unfolding read_frame heading_of ack_frame frame_head field little value
  ack-back = refl
