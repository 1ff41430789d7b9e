-- What the calls of a writing function leave in the slot, as one write.
-- Assumes nothing.
use mathlib.Core.Path.{◌≡◌, refl, ap, ◌∙◌}
use mathlib.Core.Bool.{true, false}
use mathlib.Core.List.{List, ◌∷◌, ◌++◌}
use Prim.Native.Nat.{ℕ, zero, suc, ◌+◌, ◌-◌, ◌≤◌}
use native.Mathlib.Omega.{arith}
use lib.ListN.{length, take, set, replicate, length-set}
use lib.Seq.{sets, length-sets}
use Rattle.octets.specs.Octets.{written}
use Rattle.octets.proofs.Octets.{wrote, wrote_on}
use Rattle.wire.specs.Format.{Message, next_header}
use Rattle.wire.specs.Writing.{frame_head, message_head, end_of, gap_at, room_for, first_message, next_message}
use Rattle.wire.proofs.Format.{next-after, length-gap, length-frame_head, length-message_head}
use Rattle.wire.proofs.Building.{room-slot}

-- a message: its header, then its data behind it
pub message-put : (s s₁ s₂ : List ℕ) (at : ℕ) (m : Message) (head : List ℕ) → head ≡ message_head m 0
    → s₁ ≡ written s at head → s₂ ≡ written s₁ (at + 24) m.bytes → at + 24 + length m.bytes ≤ length s
    → s₂ ≡ sets s at (message_head m 0 ++ m.bytes)
message-put s s₁ s₂ at m head h e f room =
    let size : length (message_head m 0) ≡ 24 = length-message_head m 0 in
    let first : s₁ ≡ sets s at (message_head m 0) = wrote s s₁ (message_head m 0) at (rw h at e) (omega arith) in
    let same : length s₁ ≡ length s = ap length first ∙ length-sets s at (message_head m 0) in
    wrote_on s s₁ s₂ (message_head m 0) m.bytes at (at + 24) first (wrote s₁ s₂ m.bytes (at + 24) f (omega arith))
    (omega arith)

-- a frame's first message: the frame header, then the message
module _ (s s₁ s₂ : List ℕ) (to from num : ℕ) (m : Message) (head : List ℕ) (room : room_for s (end_of 10 m) ≡ true) where
  pub first-put : head ≡ frame_head to from num 0 0 1 → s₁ ≡ written s 0 head
      → s₂ ≡ sets s₁ 10 (message_head m 0 ++ m.bytes)
      → s₂ ≡ first_message s to from num m
  unfolding first_message
  first-put h e f =
      let size : length (frame_head to from num 0 0 1) ≡ 10 = length-frame_head to from num 0 0 1 in
      let fits : end_of 10 m ≤ length s = room-slot s (end_of 10 m) room in
      let first : s₁ ≡ sets s 0 (frame_head to from num 0 0 1) =
      wrote s s₁ (frame_head to from num 0 0 1) 0 (rw h at e) (omega arith) in
      rw room (wrote_on s s₁ s₂ (frame_head to from num 0 0 1) (message_head m 0 ++ m.bytes) 0 10 first f (omega arith))

pub first-refused : (s : List ℕ) (to from num : ℕ) (m : Message) → room_for s (end_of 10 m) ≡ false
    → s ≡ first_message s to from num m
unfolding first_message
first-refused s to from num m room = rw room

-- a later one: the trailing byte before it, the gap, then the message
pub front-alike : (x n k : ℕ) → k ≤ n → take k (replicate n x) ≡ replicate k x
front-alike x n zero h = refl
front-alike x zero (suc k) h = absurd (omega arith)
front-alike x (suc n) (suc k) h = ap (λ (r : List ℕ). x ∷ r) (front-alike x n k (omega arith))

module _ (s s₁ s₂ s₃ : List ℕ) (used last : ℕ) (m : Message) (gap : List ℕ)
    (room : room_for s (end_of (next_header used) m) ≡ true) where
  pub next-put : gap ≡ gap_at used → s₁ ≡ set s (last + 23) 1 → s₂ ≡ written s₁ used gap
      → s₃ ≡ sets s₂ (next_header used) (message_head m 0 ++ m.bytes) → s₃ ≡ next_message s used last m
  unfolding next_message
  next-put g e f t =
      let size : length (gap_at used) ≡ next_header used - used = length-gap used in
      let after : used ≤ next_header used = next-after used in
      let fits : end_of (next_header used) m ≤ length s = room-slot s (end_of (next_header used) m) room in
      let same : length s₁ ≡ length s = ap length e ∙ length-set s (last + 23) 1 in
      let gapped : s₂ ≡ sets s₁ used (gap_at used) = wrote s₁ s₂ (gap_at used) used (rw g at f) (omega arith) in
      rw (room, ← e)
      (wrote_on s₁ s₂ s₃ (gap_at used) (message_head m 0 ++ m.bytes) used (next_header used) gapped t (omega arith))

pub next-refused : (s : List ℕ) (used last : ℕ) (m : Message) → room_for s (end_of (next_header used) m) ≡ false
    → s ≡ next_message s used last m
unfolding next_message
next-refused s used last m room = rw room
