-- What the message at an offset tells, and the messages from there on one step at a time.
-- Assumes nothing.
use mathlib.Core.Path.{◌≡◌, refl, sym, ◌∙◌}
use mathlib.Core.Bool.{Bool, true, false}
use mathlib.Core.List.{List, [], ◌∷◌}
use mathlib.Core.Option.{none, some}
use Prim.Native.Nat.{ℕ, zero, suc, ◌+◌, ◌≤◌, ◌<◌}
use native.Mathlib.Decide.{dec_le}
use native.Mathlib.Omega.{arith}
use borrow.Author.Tests.{le-leb, lt-leb}
use lib.ListN.{length, take, drop, length-drop}
use lib.Seq.{length-take-le}
use Rattle.octets.specs.Octets.{field}
use Rattle.wire.specs.declared.MessageHeader.{MessageHeader}
use Rattle.wire.specs.Format.{next_header}
use Rattle.wire.specs.Reading.{follows, data_end, message_at, prepend, messages_from}
use Rattle.wire.proofs.Format.{next-after, next-near}
use Rattle.std.specs.Prelude.{Some, None}
use Rattle.wire_read.specs.declared.Found.{Found}
use Rattle.wire_read.specs.Finding.{head_at, found_at, data_at}

-- ---- the message at an offset

pub found-past : (f : List ℕ) (at : ℕ) → length f < data_end f at → None ≡ found_at f at
unfolding found_at
found-past f at h = rw (lt-leb (data_end f at) (length f) h)

pub found-whole : (f : List ℕ) (at : ℕ) → data_end f at ≤ length f
    → Some (record {
      header = head_at f at;
      len = field f (at + 20) 2;
      more = follows (field f (at + 23) 1);
      next = next_header (data_end f at);
    })
    ≡ found_at f at
unfolding found_at
found-whole f at h = rw (le-leb (data_end f at) (length f) h)

pub data-past : (f : List ℕ) (at : ℕ) → length f < data_end f at → [] ≡ data_at f at
unfolding data_at
data-past f at h = rw (lt-leb (data_end f at) (length f) h)

pub data-whole : (f : List ℕ) (at : ℕ) → data_end f at ≤ length f
    → take (field f (at + 20) 2) (drop (at + 24) f) ≡ data_at f at
unfolding data_at message_at
data-whole f at h = rw (le-leb (data_end f at) (length f) h)

-- a message that was found lies in the frame, and is what the format says stands there
pub record IsWhole (f : List ℕ) (at : ℕ) (h : MessageHeader) (len : ℕ) (more : Bool) (next : ℕ) : Type 0 where
  pub header_is : h ≡ head_at f at
  pub len_is : len ≡ field f (at + 20) 2
  pub more-is : more ≡ follows (field f (at + 23) 1)
  pub next-is : next ≡ next_header (data_end f at)
  pub inside-frame : data_end f at ≤ length f
  pub next-beyond : at + 24 + len ≤ next
  pub next-within : next < length f + 8 + 10
  pub bytes-are : length (message_at f at).bytes ≡ len

pub is_whole : {f : List ℕ} {at : ℕ} {x : Found} → found_at f at ≡ Some x → IsWhole f at x.header x.len x.more x.next
unfolding message_at
is_whole {f} {at} {x} e = go (dec_le (data_end f at) (length f))
  where
    go : Dec (data_end f at ≤ length f) → IsWhole f at x.header x.len x.more x.next
    go (no past) =
        let q : None ≡ Some x = found-past f at (omega arith) ∙ e in
        absurd cc
    go (yes inside) =
        let q = found-whole f at inside ∙ e in
        let l : x.len ≡ field f (at + 20) 2 = cc in
        let n : x.next ≡ next_header (data_end f at) = cc in
        let room : field f (at + 20) 2 ≤ length (drop (at + 24) f) = omega (arith, length-drop (at + 24) f) in
        record {
          header_is = cc;
          len_is = l;
          more-is = cc;
          next-is = n;
          inside-frame = inside;
          next-beyond = omega (arith, next-after (data_end f at));
          next-within = omega (arith, next-near (data_end f at) (omega arith));
          bytes-are = length-take-le (field f (at + 20) 2) (drop (at + 24) f) room ∙ sym l;
        }

pub is-past : (f : List ℕ) (at : ℕ) → found_at f at ≡ None → length f < data_end f at
is-past f at e = go (dec_le (data_end f at) (length f))
  where
    go : Dec (data_end f at ≤ length f) → length f < data_end f at
    go (no past) = omega arith
    go (yes inside) =
        let q = found-whole f at inside ∙ e in
        absurd cc

-- ---- the messages from an offset on, one step at a time

module _ (f : List ℕ) (at turns : ℕ) where
  pub step_past : length f < data_end f at → messages_from turns f at ≡ none
  unfolding messages_from
  step_past h = go turns
    where
      go : (n : ℕ) → messages_from n f at ≡ none
      go zero = refl
      go (suc n) = rw (lt-leb (data_end f at) (length f) h)

  pub step-last : data_end f at ≤ length f → follows (field f (at + 23) 1) ≡ false
      → messages_from (suc turns) f at ≡ some (message_at f at ∷ [])
  unfolding messages_from
  step-last h t = rw (le-leb (data_end f at) (length f) h, t)

  pub step-more : data_end f at ≤ length f → follows (field f (at + 23) 1) ≡ true
      → messages_from (suc turns) f at ≡ prepend (message_at f at) (messages_from turns f (next_header (data_end f at)))
  unfolding messages_from
  step-more h t = rw (le-leb (data_end f at) (length f) h, t)
