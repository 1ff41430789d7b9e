-- A frame built in a slot, message by message: after each one the slot starts with the frame of the messages so far,
-- and from the frame's end on it is as it was. Assumes nothing.
use mathlib.Core.Path.{◌≡◌, refl, sym, ap, ◌∙◌}
use mathlib.Core.Bool.{true, false, and-true, and-false, and-eq-true_iff}
use mathlib.Core.List.{List, [], ◌∷◌, ◌++◌, append_assoc}
use Prim.Native.Nat.{ℕ, ◌+◌, ◌≤◌, ◌<◌}
use native.Mathlib.Nat.{zero-add, suc-add}
use native.Mathlib.Omega.{arith}
use borrow.Author.Tests.{le-leb, lt-leb, leb-true}
use lib.Dec.{leb}
use lib.ListN.{length, take, drop, set, length-append, length-set}
use lib.Seq.{sets, take-set-lt, drop-set-lt}
use Rattle.octets.specs.Octets.{little}
use Rattle.octets.proofs.Octets.{take-sets, drop-sets}
use Rattle.wire.specs.Format.{Message, next_header, frame_most}
use Rattle.wire.specs.Writing.{
  frame_head,
  message_head,
  end_of,
  gap_at,
  laid,
  frame_of,
  room_for,
  first_message,
  next_message,
}
use Rattle.wire.proofs.Format.{
  next-after,
  length-gap,
  length-frame_head,
  length_last,
  length-laid-one,
  length-laid-more,
  passed,
  length-passed,
  laid-passed,
  length-frame,
}

-- ---- one message more in what is laid out

-- where the header of the last message stands
unfoldable pub last_at : ℕ → List Message → ℕ
last_at at [] = at
last_at at (m ∷ []) = at
last_at at (m ∷ (n ∷ ms)) = last_at (next_header (end_of at m)) (n ∷ ms)

pub last-inside : (at : ℕ) (m : Message) (ms : List Message) → last_at at (m ∷ ms) + 24 ≤ at + length (laid at (m ∷ ms))
unfolding last_at
last-inside at m [] = omega (arith, length-laid-one at m)
last-inside at m (n ∷ ms) =
    omega (arith, last-inside (next_header (end_of at m)) n ms, length-laid-more at m n ms)

set-behind : (xs ys : List ℕ) (i v : ℕ) → set (xs ++ ys) (length xs + i) v ≡ xs ++ set ys i v
set-behind [] ys i v = ap (λ (k : ℕ). set ys k v) (zero-add i)
set-behind (x ∷ xs) ys i v =
    ap (λ (k : ℕ). set (x ∷ (xs ++ ys)) k v) (suc-add (length xs) i)
    ∙ ap {B = List ℕ} (λ r. x ∷ r) (set-behind xs ys i v)

-- the trailing byte of a header
trailing-set : (m : Message) (rest : List ℕ) → set (message_head m 0 ++ rest) 23 1 ≡ message_head m 1 ++ rest
unfolding message_head little
trailing-set m rest = refl

-- the gap behind what is laid out, and one message more
module _ (x : Message) where
  abbrev added : ℕ → List ℕ
  added used = gap_at used ++ (message_head x 0 ++ x.bytes)

  -- the trailing byte of the last message set, and the gap and the message put behind
  pub laid_more : (before : List ℕ) (m : Message) (ms : List Message)
      → set (before ++ laid (length before) (m ∷ ms)) (last_at (length before) (m ∷ ms) + 23) 1
      ++ added (length before + length (laid (length before) (m ∷ ms)))
      ≡ before ++ laid (length before) ((m ∷ ms) ++ (x ∷ []))
  unfolding laid last_at
  laid_more before m [] =
      ap (λ (r : List ℕ). r ++ added (length before + length (message_head m 0 ++ m.bytes)))
      (set-behind before (message_head m 0 ++ m.bytes) 23 1
      ∙ ap (λ (r : List ℕ). before ++ r) (trailing-set m m.bytes))
      ∙ ap (λ (u : ℕ). (before ++ (message_head m 1 ++ m.bytes)) ++ added u) (length-laid-one (length before) m)
      ∙ simp append_assoc
  laid_more before m (n ∷ ms) =
      rw (
        length-laid-more (length before) m n ms,
        laid-passed before m n ms,
        laid-passed before m n (ms ++ (x ∷ [])),
        ← length-passed before m,
      )
      (laid_more (passed before m) n ms)

  -- where the new message's header stands, and where it ends
  pub last_more : (at : ℕ) (m : Message) (ms : List Message)
      → last_at at ((m ∷ ms) ++ (x ∷ [])) ≡ next_header (at + length (laid at (m ∷ ms)))
  unfolding last_at
  last_more at m [] = ap next_header (sym (length-laid-one at m))
  last_more at m (n ∷ ms) = last_more (next_header (end_of at m)) n ms ∙ ap next_header (sym (length-laid-more at m n ms))

  pub length_more : (at : ℕ) (m : Message) (ms : List Message)
      → at + length (laid at ((m ∷ ms) ++ (x ∷ []))) ≡ end_of (next_header (at + length (laid at (m ∷ ms)))) x
  length_more at m [] =
      length-laid-more at m x [] ∙ length-laid-one (next_header (end_of at m)) x
      ∙ ap (λ (e : ℕ). end_of (next_header e) x) (sym (length-laid-one at m))
  length_more at m (n ∷ ms) =
      length-laid-more at m n (ms ++ (x ∷ [])) ∙ length_more (next_header (end_of at m)) n ms
      ∙ ap (λ (e : ℕ). end_of (next_header e) x) (sym (length-laid-more at m n ms))

  length-added : (used : ℕ) → used + length (added used) ≡ end_of (next_header used) x
  length-added used =
      omega (
        arith,
        length-append (gap_at used) (message_head x 0 ++ x.bytes),
        length-gap used,
        next-after used,
        length_last x 0,
      )

-- ---- in a slot

pub room-slot : (slot : List ℕ) (size : ℕ) → room_for slot size ≡ true → size ≤ length slot
unfolding room_for
room-slot slot size e =
    leb-true size (length slot) ((and-eq-true_iff (leb size (length slot)) (leb size frame_most)).0 e).0

-- within a frame's length only the slot decides; past it there is no room
pub room-by-slot : (slot : List ℕ) (size : ℕ) → size ≤ frame_most → leb size (length slot) ≡ room_for slot size
unfolding room_for
room-by-slot slot size h = rw (le-leb size frame_most h) (sym (and-true (leb size (length slot))))

pub no_room : (slot : List ℕ) (size : ℕ) → frame_most < size → room_for slot size ≡ false
unfolding room_for
no_room slot size h = rw (lt-leb size frame_most h) (and-false (leb size (length slot)))

-- the first message makes a frame of itself, and leaves what is behind it
module _ (slot : List ℕ) (to from num : ℕ) (m : Message) (room : room_for slot (end_of 10 m) ≡ true) where
  first : List ℕ
  first = frame_head to from num 0 0 1 ++ (message_head m 0 ++ m.bytes)

  length-first : length first ≡ end_of 10 m
  unfolding first
  length-first =
      omega (
        arith,
        length-append (frame_head to from num 0 0 1) (message_head m 0 ++ m.bytes),
        length-frame_head to from num 0 0 1,
        length_last m 0,
      )

  fits : 0 + length first ≤ length slot
  fits = omega (arith, length-first, room-slot slot (end_of 10 m) room)

  stored : first_message slot to from num m ≡ sets slot 0 first
  unfolding first_message first
  stored = rw room

  pub first-built : take (end_of 10 m) (first_message slot to from num m) ≡ frame_of to from num (m ∷ [])
  unfolding frame_of laid first
  first-built =
      rw (stored, ← length-first)
      (ap (λ (n : ℕ). take n (sets slot 0 first)) (sym (zero-add (length first))) ∙ take-sets slot first 0 fits)

  pub first-beyond : drop (end_of 10 m) (first_message slot to from num m) ≡ drop (end_of 10 m) slot
  first-beyond = rw (stored, ← length-first, ← zero-add (length first)) (drop-sets slot first 0 fits)

-- a later message makes a frame of those before it and itself, and leaves what is behind it
module _ (slot : List ℕ) (to from num : ℕ) (m : Message) (ms : List Message) (x : Message)
    (starts : take (length (frame_of to from num (m ∷ ms))) slot ≡ frame_of to from num (m ∷ ms))
    (room : room_for slot (end_of (next_header (length (frame_of to from num (m ∷ ms)))) x) ≡ true) where
  built : List ℕ
  built = frame_of to from num (m ∷ ms)

  used : ℕ
  used = length built

  last : ℕ
  last = last_at 10 (m ∷ ms)

  marked : List ℕ
  marked = set slot (last + 23) 1

  used-is : used ≡ 10 + length (laid 10 (m ∷ ms))
  unfolding used built
  used-is = length-frame to from num (m ∷ ms)

  before-end : last + 23 < used
  unfolding last
  before-end = omega (arith, used-is, last-inside 10 m ms)

  fits-slot : used + length (added x used) ≤ length marked
  unfolding marked used built
  fits-slot =
      omega (
        arith,
        length-set slot (last + 23) 1,
        length-added x used,
        room-slot slot (end_of (next_header (length (frame_of to from num (m ∷ ms)))) x) room,
      )

  placed : next_message slot (length (frame_of to from num (m ∷ ms))) (last_at 10 (m ∷ ms)) x
      ≡ sets marked used (added x used)
  unfolding next_message marked used built last
  placed = rw room

  front-marked : take used marked ++ added x used ≡ frame_of to from num ((m ∷ ms) ++ (x ∷ []))
  unfolding frame_of marked used built last frame_head little
  front-marked =
      ap (λ (r : List ℕ). r ++ added x used) (take-set-lt used slot (last + 23) 1 before-end
      ∙ ap (λ (r : List ℕ). set r (last + 23) 1) starts)
      ∙ ap (λ (u : ℕ). set built (last + 23) 1 ++ added x u) used-is
      ∙ laid_more x (frame_head to from num 0 0 1) m ms

  pub next_built : take (end_of (next_header (length (frame_of to from num (m ∷ ms)))) x)
      (next_message slot (length (frame_of to from num (m ∷ ms))) (last_at 10 (m ∷ ms)) x)
      ≡ frame_of to from num ((m ∷ ms) ++ (x ∷ []))
  unfolding used built
  next_built = rw (placed, ← length-added x used) (take-sets marked (added x used) used fits-slot ∙ front-marked)

  pub next-beyond : drop (end_of (next_header (length (frame_of to from num (m ∷ ms)))) x)
      (next_message slot (length (frame_of to from num (m ∷ ms))) (last_at 10 (m ∷ ms)) x)
      ≡ drop (end_of (next_header (length (frame_of to from num (m ∷ ms)))) x) slot
  unfolding used built marked
  next-beyond =
      rw (placed, ← length-added x used)
      (drop-sets marked (added x used) used fits-slot
      ∙ drop-set-lt (used + length (added x used)) slot (last + 23) 1 (omega (arith, before-end)))
