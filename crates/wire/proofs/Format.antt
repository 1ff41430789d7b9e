-- Laws of the format: how many messages a transaction takes, the next header's offset, and the lengths of what is laid
-- out. Assumes nothing.
use mathlib.Core.Path.{◌≡◌, refl, sym, ◌∙◌, ap}
use mathlib.Core.List.{List, [], ◌∷◌, ◌++◌, append_assoc}
use Prim.Native.Nat.{ℕ, zero, suc, ◌+◌, ◌-◌, ◌*◌, ◌/◌, ◌≤◌, ◌<◌}
use native.Mathlib.Omega.{arith}
use borrow.Author.Tests.{lt-ltb, le-ltb, ne_eqb}
use lib.ListN.{length, length-append, length-replicate}
use Rattle.octets.specs.Octets.{little}
use Rattle.wire.specs.Format.{Message, needed, next_header, header_after}
use Rattle.wire.specs.Writing.{frame_head, message_head, end_of, gap_at, laid, flags_for, frame_of}

-- a transaction takes as many messages as its count, and one for count 0
pub needed-pos : (count : ℕ) → 1 ≤ needed count
unfolding needed
needed-pos zero = omega arith
needed-pos (suc n) = rw (ne_eqb (suc n) 0 (omega arith)) (omega arith)

pub needed-count : (count : ℕ) → 1 ≤ count → needed count ≡ count
unfolding needed
needed-count count h = rw (ne_eqb count 0 (omega arith))

-- the next header is of the form 10 + 8k, not before the end, and the first such
pub next-form : (end : ℕ) → next_header end ≡ 10 + 8 * ((end - 10 + 7) / 8)
unfolding next_header
next-form end = omega arith

pub next-after : (end : ℕ) → end ≤ next_header end
unfolding next_header
next-after end = omega arith

pub next-first : (end k : ℕ) → end ≤ 10 + 8 * k → next_header end ≤ 10 + 8 * k
unfolding next_header
next-first end k h = omega arith

-- it lies less than a step behind the end, but that it is never before 10
pub next-near : (end : ℕ) → 10 ≤ end → next_header end < end + 8
unfolding next_header
next-near end h = omega arith

pub next-gap : (end : ℕ) → next_header end ≤ end + 10
unfolding next_header
next-gap end = omega arith

pub header-after : (end : ℕ) → end ≤ 18446744073709551610 → header_after end ≡ next_header end
unfolding header_after next_header
header-after end h = rw (lt-ltb (next_header end) 18446744073709551616 (omega arith))

pub no-header-after : (end : ℕ) → 18446744073709551610 < end → header_after end ≡ 0
unfolding header_after next_header
no-header-after end h = rw (le-ltb (next_header end) 18446744073709551616 (omega arith))

pub length-gap : (end : ℕ) → length (gap_at end) ≡ next_header end - end
length-gap end = length-replicate (next_header end - end) 0

pub length-frame_head : (to from num start count flag : ℕ) → length (frame_head to from num start count flag) ≡ 10
unfolding frame_head little
length-frame_head to from num start count flag = refl

pub length-message_head : (m : Message) (trailing : ℕ) → length (message_head m trailing) ≡ 24
unfolding message_head little
length-message_head m trailing = refl

-- the length of a message with what follows
pub length_front : (m : Message) (trailing : ℕ) (rest : List ℕ)
    → length (message_head m trailing ++ (m.bytes ++ rest)) ≡ 24 + (length m.bytes + length rest)
length_front m trailing rest =
    omega (
      arith,
      length-append (message_head m trailing) (m.bytes ++ rest),
      length-message_head m trailing,
      length-append m.bytes rest,
    )

pub length_last : (m : Message) (trailing : ℕ) → length (message_head m trailing ++ m.bytes) ≡ 24 + length m.bytes
length_last m trailing = omega (arith, length-append (message_head m trailing) m.bytes, length-message_head m trailing)

pub length-laid-one : (at : ℕ) (m : Message) → at + length (laid at (m ∷ [])) ≡ end_of at m
unfolding laid
length-laid-one at m = omega (arith, length_last m 0)

-- what stands behind a message that has a follower starts at the next header
pub length-laid-more : (at : ℕ) (m n : Message) (ms : List Message)
    → at + length (laid at (m ∷ (n ∷ ms))) ≡ next_header (end_of at m) + length (laid (next_header (end_of at m)) (n ∷ ms))
unfolding laid
length-laid-more at m n ms =
    let behind = laid (next_header (end_of at m)) (n ∷ ms) in
    omega (
      arith,
      length_front m 1 (gap_at (end_of at m) ++ behind),
      length-append (gap_at (end_of at m)) behind,
      length-gap (end_of at m),
      next-after (end_of at m),
    )

-- some bytes with a message and its gap behind them: what stands before the next message
unfoldable pub passed : List ℕ → Message → List ℕ
passed before m = before ++ (message_head m 1 ++ (m.bytes ++ gap_at (end_of (length before) m)))

pub length-passed : (before : List ℕ) (m : Message) → length (passed before m) ≡ next_header (end_of (length before) m)
unfolding passed
length-passed before m =
    let gap = gap_at (end_of (length before) m) in
    omega (
      arith,
      length-append before (message_head m 1 ++ (m.bytes ++ gap)),
      length_front m 1 gap,
      length-gap (end_of (length before) m),
      next-after (end_of (length before) m),
    )

pub laid-passed : (before : List ℕ) (m n : Message) (ms : List Message)
    → before ++ laid (length before) (m ∷ (n ∷ ms)) ≡ passed before m ++ laid (length (passed before m)) (n ∷ ms)
unfolding laid passed
laid-passed before m n ms =
    sym (simp append_assoc)
    ∙ ap (λ (a : ℕ). passed before m ++ laid a (n ∷ ms)) (sym (length-passed before m))

-- each message takes a byte and more
pub count-laid : (at : ℕ) (ms : List Message) → length ms ≤ length (laid at ms)
unfolding laid
count-laid at [] = omega arith
count-laid at (m ∷ []) = omega (arith, length_last m 0)
count-laid at (m ∷ (n ∷ ms)) =
    let behind = laid (next_header (end_of at m)) (n ∷ ms) in
    omega (
      arith,
      count-laid (next_header (end_of at m)) (n ∷ ms),
      length_front m 1 (gap_at (end_of at m) ++ behind),
      length-append (gap_at (end_of at m)) behind,
    )

pub length-frame : (to from num : ℕ) (ms : List Message) → length (frame_of to from num ms) ≡ 10 + length (laid 10 ms)
unfolding frame_of
length-frame to from num ms =
    let flag = flags_for ms in
    omega (arith, length-append (frame_head to from num 0 0 flag) (laid 10 ms), length-frame_head to from num 0 0 flag)
