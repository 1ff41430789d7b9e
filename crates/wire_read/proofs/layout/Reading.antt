-- The walk over a frame's messages.
-- Assumes nothing.
use mathlib.Core.Path.{◌≡◌, refl, sym, ◌∙◌, ap}
use mathlib.Core.Bool.{true, false}
use mathlib.Core.List.{List}
use mathlib.Core.Option.{Option, none, some}
use Prim.Native.Nat.{ℕ, zero, suc, ◌+◌, ◌≤◌, ◌<◌}
use native.Mathlib.Nat.{zero-add, add-zero}
use native.Mathlib.Omega.{arith}
use lib.ListN.{length}
use Rattle.std.specs.Prelude.{Some, None}
use Rattle.wire.specs.Format.{Message, next_header}
use Rattle.wire.specs.Reading.{Read, data_end, message_at, prepend, messages_from, or_passes_end, refusal_of}
use Rattle.wire_read.specs.declared.Found.{Found}
use Rattle.wire_read.specs.Finding.{found_at}
use Rattle.wire_read.proofs.Finding.{IsWhole, is_whole, is-past, step_past, step-last, step-more}
use Rattle.wire_read.specs.declared.layout.Layout.{Layout}
use Rattle.wire_read.specs.Layout.{total, layout_of}

-- ---- the walk: m messages with b bytes stood before the offset, and `turns` are enough for the rest

abbrev pub laid_out : Read → ℕ × Layout
laid_out r = (refusal_of r, layout_of r)

abbrev pub counted : ℕ → ℕ → Option (List Message) → ℕ × Layout
counted m b none = (5, record { messages = 0; data_bytes = 0 })
counted m b (some ms) = (0, record { messages = m + length ms; data_bytes = b + total ms })

abbrev pub walked : List ℕ → Read
walked f = or_passes_end (messages_from (length f) f 10)

counted_none : (p : Option (List Message)) → laid_out (or_passes_end p) ≡ counted 0 0 p
counted_none none = refl
counted_none (some ms) = rw (zero-add (length ms), zero-add (total ms))

counted-more : (m b : ℕ) (x : Message) (p : Option (List Message))
    → counted m b (prepend x p) ≡ counted (m + 1) (b + length x.bytes) p
unfolding total
counted-more m b x none = refl
counted-more m b x (some ms) =
    let e : m + suc (length ms) ≡ m + 1 + length ms = omega arith in
    let t : b + (length x.bytes + total ms) ≡ b + length x.bytes + total ms = omega arith in
    rw (e, t)

pub record Walked (f : List ℕ) (at m b : ℕ) : Type 0 where
  pub turns : ℕ
  pub enough : length f < at + turns
  pub near : at < length f + 18
  pub messages-low : m ≤ at
  pub bytes_low : b ≤ at
  pub is : laid_out (walked f) ≡ counted m b (messages_from turns f at)

pub walked_start : (f : List ℕ) → Walked f 10 0 0
walked_start f =
    record {
      turns = length f;
      enough = omega arith;
      near = omega arith;
      messages-low = omega arith;
      bytes_low = omega arith;
      is = counted_none (messages_from (length f) f 10);
    }

pub walked-past : {f : List ℕ} {at m b : ℕ} → Walked f at m b → found_at f at ≡ None → 5 ≡ refusal_of (walked f)
walked-past {f} {at} {m} {b} w e =
    sym (ap (λ (p : ℕ × Layout). p.0) (w.is ∙ ap (counted m b) (step_past f at w.turns (is-past f at e))))

-- what one turn does: there is a turn left for it, as the message lies in the frame
module _ {f : List ℕ} {at m b : ℕ} {x : Found} (w : Walked f at m b) (e : found_at f at ≡ Some x) where
  i : IsWhole f at x.header x.len x.more x.next
  i = is_whole e

  turn-left : (n : ℕ) × (w.turns ≡ suc n)
  turn-left = go w.turns refl
    where
      go : (n : ℕ) → w.turns ≡ n → (n : ℕ) × (w.turns ≡ suc n)
      go zero q = absurd (omega (arith, i.inside-frame, w.enough))
      go (suc n) q = (n, q)

  pub walked-last : x.more ≡ false → laid_out (walked f) ≡ (0, record { messages = m + 1; data_bytes = b + x.len })
  unfolding total
  walked-last t =
      let n = turn-left.0 in
      w.is ∙ ap (λ (k : ℕ). counted m b (messages_from k f at)) turn-left.1
      ∙ ap (counted m b) (step-last f at n i.inside-frame (sym i.more-is ∙ t))
      ∙ rw (i.bytes-are, add-zero x.len)

  pub walked-turn : x.more ≡ true → Walked f x.next (m + 1) (b + x.len)
  walked-turn t =
      let n = turn-left.0 in
      let left : w.turns ≡ suc n = turn-left.1 in
      record {
        turns = n;
        enough = omega (arith, w.enough, i.next-beyond);
        near = omega (arith, i.next-within);
        messages-low = omega (arith, w.messages-low, i.next-beyond);
        bytes_low = omega (arith, w.bytes_low, i.next-beyond);
        is =
            w.is ∙ ap (λ (k : ℕ). counted m b (messages_from k f at)) left
            ∙ ap (counted m b) (step-more f at n i.inside-frame (sym i.more-is ∙ t))
            ∙ counted-more m b (message_at f at) (messages_from n f (next_header (data_end f at)))
            ∙ rw (i.bytes-are, ← i.next-is);
      }
