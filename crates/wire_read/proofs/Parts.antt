-- The bytes of a message's header, and what is read of them.
-- Assumes nothing.
use mathlib.Core.Path.{◌≡◌, refl, sym, ◌∙◌}
use mathlib.Core.Bool.{not}
use mathlib.Core.List.{List}
use Prim.Native.Nat.{ℕ, ◌+◌, ◌-◌, ◌≤◌}
use native.Mathlib.Nat.{add-zero, zero-add}
use native.Mathlib.Omega.{arith}
use lib.Dec.{eqb}
use lib.ListN.{length, take, drop, get_or, length-drop}
use lib.Seq.{length-take-le}
use Rattle.std.specs.Prelude.{Some}
use Rattle.std.proofs.lemmas.List.{drop-take, take-take, drop-drop, take_rest}
use Rattle.std.specs.List.{slice_range}
use Rattle.octets.specs.Octets.{field}
use Rattle.octets.proofs.Octets.{field-1}
use Rattle.wire.specs.declared.MessageHeader.{MessageHeader}
use Rattle.wire.specs.Format.{message_header, next_header}
use Rattle.wire.specs.Reading.{follows, data_end, message_at}
use Rattle.wire_read.specs.Finding.{header_of, head_at, found_at, Parts}
use Rattle.wire_read.proofs.Finding.{found-whole}

-- a field of a header of some size is read of its bytes as of the frame's
field-within : (f : List ℕ) (size at k n : ℕ) → k + n ≤ size → field (take size (drop at f)) k n ≡ field f (at + k) n
unfolding field
field-within f size at k n h =
    let e : size ≡ k + (size - k) = omega arith in
    let fits : n ≤ size - k = omega arith in
    rw (e, drop-take k (size - k) (drop at f), take-take n (size - k) (drop k (drop at f)) fits, drop-drop k at f)

pub field-part : (f : List ℕ) (at k n : ℕ) → k + n ≤ 24 → field (take 24 (drop at f)) k n ≡ field f (at + k) n
field-part f at k n h = field-within f 24 at k n h

-- the frame header is read of the first ten bytes as of the frame
field-front : (f : List ℕ) (k n : ℕ) → k + n ≤ 10 → field (take 10 f) k n ≡ field f k n
field-front f k n h = rw zero-add at (field-within f 10 0 k n h)

pub header-part : (f : List ℕ) → header_of (take 10 f) ≡ header_of f
unfolding header_of
header-part f =
    rw (
      field-front f 0 2 (omega arith),
      field-front f 2 2 (omega arith),
      field-front f 4 2 (omega arith),
      field-front f 6 2 (omega arith),
      field-front f 8 1 (omega arith),
      field-front f 9 1 (omega arith),
    )
    refl

pub head-part : (f : List ℕ) (at : ℕ) → head_at (take 24 (drop at f)) 0 ≡ head_at f at
unfolding head_at message_header message_at
head-part f at =
    rw (
      field-part f at 0 4 (omega arith),
      field-part f at 4 4 (omega arith),
      field-part f at 8 4 (omega arith),
      field-part f at 12 2 (omega arith),
      field-part f at 16 4 (omega arith),
      add-zero at,
    )

-- what was cut off a frame at an offset and at the header's end
pub record Cut (f : List ℕ) (at : ℕ) (header rest : List ℕ) : Type 0 where
  pub header_is : header ≡ take 24 (drop at f)
  pub rest-is : rest ≡ drop (at + 24) f
  pub len-is : field header 20 2 ≡ field f (at + 20) 2

pub cut : (f s header rest : List ℕ) (at : ℕ) → s ≡ slice_range f at (length f) → header ≡ take 24 s → rest ≡ drop 24 s
    → Cut f at header rest
cut f s header rest at e h r =
    let tail : s ≡ drop at f = e ∙ take_rest f at in
    let head : header ≡ take 24 (drop at f) = rw tail at h in
    record {
      header_is = head;
      rest-is = r ∙ rw (tail, drop-drop 24 at f) refl;
      len-is = rw (head, field-part f at 20 2 (omega arith)) refl;
    }

-- the parts of a message are what it is found as
module _ {f : List ℕ} {at : ℕ} {header payload : List ℕ} (p : Parts f at header payload) where
  part-len : field header 20 2 ≡ field f (at + 20) 2
  part-len = rw (p.header_is, field-part f at 20 2 (omega arith))

  part-follows : get_or header 23 0 ≡ field f (at + 23) 1
  part-follows = sym (field-1 header 23) ∙ rw (p.header_is, field-part f at 23 1 (omega arith))

  pub part-end : at + 24 + length payload ≡ data_end f at
  part-end =
      let room : field f (at + 20) 2 ≤ length (drop (at + 24) f) = omega (arith, p.inside, length-drop (at + 24) f) in
      rw (p.payload_is, length-take-le (field f (at + 20) 2) (drop (at + 24) f) room)

  pub part-found : (head : MessageHeader) (len next : ℕ) → head ≡ head_at header 0 → len ≡ field header 20 2
      → next ≡ next_header (data_end f at)
      → Some (record { header = head; len = len; more = not (eqb (get_or header 23 0) 0); next = next }) ≡ found_at f at
  unfolding follows
  part-found head len next h l n =
      rw (h, l, n, part-len, part-follows, p.header_is, head-part f at) (found-whole f at p.inside)
