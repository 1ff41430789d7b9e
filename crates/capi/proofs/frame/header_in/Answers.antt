-- `capi::frame::header_in`: the layout says which header.
-- Assumes nothing.
use mathlib.Core.Path.{◌≡◌, refl, sym, ap, ◌∙◌}
use mathlib.Core.Bool.{true}
use mathlib.Core.List.{List, []}
use Prim.Native.Nat.{ℕ, ◌≤◌, ◌<◌}
use native.Mathlib.Decide.{dec_le}
use native.Mathlib.Omega.{arith}
use Rattle.refusal.proofs.Numbers.{number-positive}
use Rattle.wire.specs.declared.FrameHeader.{FrameHeader}
use Rattle.wire.specs.Format.{Message}
use Rattle.wire.specs.Reading.{flags, Read, bad, good, read_frame, refusal_of}
use Rattle.wire.proofs.Reading.{readable}
use Rattle.wire_read.specs.Finding.{header_of}
use Rattle.capi.specs.Numbers.{header_in}
use Rattle.capi.proofs.frame.header_in.Goals as goal

abbrev zeros : FrameHeader
zeros = record {
  destination = 0;
  source = 0;
  number = record { 0 = 0 };
  ackstart = record { 0 = 0 };
  ackcount = 0;
  flags = 0;
}

-- a frame that is not refused has messages, or none
read_good : (f : List ℕ) → refusal_of (read_frame true f) ≡ 0 → (ms : List Message) × (read_frame true f ≡ good ms)
read_good f e = go (dec_le (flags f) 0)
  where
    go : Dec (flags f ≤ 0) → (ms : List Message) × (read_frame true f ≡ good ms)
    go (yes z) = ([], (readable true f e).none_read (omega arith))
    go (no n) =
        let read = readable true f e in
        let some_there = read.some_read (omega (arith, read.flag)) in
        (some_there.0, some_there.2)

-- it has the header that stands on the wire
whole : (f : List ℕ) → 0 ≡ refusal_of (read_frame true f) → header_of f ≡ header_in f
unfolding header_in header_of
whole f e = rw (read_good f (sym e)).1

-- and one that is refused has zeros
refused : (f : List ℕ) (n : ℕ) → 0 < n → n ≡ refusal_of (read_frame true f) → zeros ≡ header_in f
unfolding header_in
refused f n h e = go (read_frame true f) refl
  where
    go : (r : Read) → read_frame true f ≡ r → zeros ≡ header_in f
    go (bad r) q = rw q
    go (good ms) q = absurd (omega (arith, e ∙ ap refusal_of q))

pub returns-in-Ok : goal.returns-in-Ok
returns-in-Ok c = c.frame_header.ensures ∙ whole _ c.in-Ok.ensures.refused

pub returns-in-Err : goal.returns-in-Err
returns-in-Err c = refused _ _ (number-positive _) c.in-Err.ensures.refused
