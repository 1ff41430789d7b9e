-- The answers of storing, case by case, and the buffer after each.
-- Assumes nothing.
use mathlib.Core.Path.{◌≡◌, sym, ◌∙◌, ap}
use mathlib.Core.Logic.{◌≢◌, ◌⊎◌, inl, inr}
use mathlib.Core.Bool.{or-true}
use mathlib.Core.List.{List, [], ◌∷◌, ◌++◌}
use Prim.Native.Nat.{ℕ, ◌+◌, ◌*◌, ◌≤◌, ◌<◌}
use native.Mathlib.Omega.{arith}
use borrow.Author.Tests.{eq-eqb, ne_eqb, lt-ltb, le-ltb}
use lib.Dec.{eqb}
use native.Mathlib.Nat.{zero-add}
use lib.ListN.{length, drop, length-append}
use lib.Seq.{sets, sets-eq}
use Rattle.octets.specs.Octets.{little}
use Rattle.octets.proofs.Octets.{sets-append}
use Rattle.seq.specs.declared.FrameNo.{FrameNo}
use Rattle.seq.specs.declared.TransNo.{TransNo}
use Rattle.host.specs.declared.Pair.{Pair}
use Rattle.hexadecimal.specs.Fields.{hex, laid, line_of, lines_of}
use Rattle.hexadecimal.proofs.fields.BothWays.{length-hex}
use Rattle.host_stored.specs.Form.{
  Stored,
  head_widths,
  open_widths,
  first_line,
  opens_of,
  text_as,
  not_stored,
  stored_as,
  buffer_as,
}
use Rattle.host_stored.proofs.Length.{text-length}

-- the first line's bytes, from numbers that are the pair's
pub head-laid : (p : Pair) (own peer : ℕ) (next : FrameNo) (marks : ℕ) (lowest : TransNo) (closed : ℕ)
    → own ≡ p.own → peer ≡ p.peer → next ≡ p.next → marks ≡ p.marks → lowest ≡ p.lowest → closed ≡ p.closed
    → laid head_widths (1 ∷ own ∷ peer ∷ next.0 ∷ marks ∷ lowest.0 ∷ closed ∷ []) ≡ laid head_widths (first_line 1 p)
head-laid p own peer next marks lowest closed a b c d e f = rw (a, b, c, d, e, f)

module _ (version : ℕ) (p : Pair) (buffer : List ℕ) where
  -- the buffer after each answer
  refused-buffer : (r : Stored) → r ≡ stored_as version p buffer → (r.refusal ≡ 0 → ⊥)
      → buffer ≡ buffer_as version p buffer
  unfolding buffer_as
  refused-buffer r e ne =
      let z : (stored_as version p buffer).refusal ≡ r.refusal = ap (λ (s : Stored). s.refusal) (sym e) in
      rw (ne_eqb (stored_as version p buffer).refusal 0 (λ q. ne (sym z ∙ q)))

  stored-buffer : (stored_as version p buffer).refusal ≡ 0
      → text_as version p ++ drop (length (text_as version p)) buffer ≡ buffer_as version p buffer
  unfolding buffer_as
  stored-buffer e = rw (eq-eqb (stored_as version p buffer).refusal 0 e)

  refuses : (number : ℕ) (r : Stored) → (number ≡ 0 → ⊥) → r ≡ not_stored number
      → not_stored number ≡ stored_as version p buffer
      → (r ≡ stored_as version p buffer) × (buffer ≡ buffer_as version p buffer)
  refuses number r ne e q = (e ∙ q, refused-buffer r (e ∙ q) (λ z. ne (sym (ap (λ (s : Stored). s.refusal) e) ∙ z)))

  zero-13 : (p.own ≡ 0) ⊎ (p.peer ≡ 0) → not_stored 13 ≡ stored_as version p buffer
  unfolding stored_as
  zero-13 (inl q) = rw (eq-eqb p.own 0 q)
  zero-13 (inr q) = rw (eq-eqb p.peer 0 q, or-true (eqb p.own 0))

  pub id-zero : (r : Stored) → (p.own ≡ 0) ⊎ (p.peer ≡ 0) → r ≡ not_stored 13
      → (r ≡ stored_as version p buffer) × (buffer ≡ buffer_as version p buffer)
  id-zero r z e = refuses 13 r (λ q. omega arith) e (zero-13 z)

  module _ (own : p.own ≢ 0) (peer : p.peer ≢ 0) (size n : ℕ) (s : size ≡ 47 + 33 * n) (c : n ≡ length (opens_of p))
    where
      size_is : length (text_as version p) ≡ size
      size_is = text-length version p ∙ rw (s, c)

      short-19 : length buffer < size → not_stored 19 ≡ stored_as version p buffer
      unfolding stored_as
      short-19 l = rw (ne_eqb p.own 0 own, ne_eqb p.peer 0 peer, size_is, lt-ltb (length buffer) size l)

      pub too_short : (r : Stored) → length buffer < size → r ≡ not_stored 19
          → (r ≡ stored_as version p buffer) × (buffer ≡ buffer_as version p buffer)
      too_short r l e = refuses 19 r (λ q. omega arith) e (short-19 l)

      long-enough : size ≤ length buffer → record { refusal = 0; length = size } ≡ stored_as version p buffer
      unfolding stored_as
      long-enough l = rw (ne_eqb p.own 0 own, ne_eqb p.peer 0 peer, size_is, le-ltb (length buffer) size l)

      pub head-size : (head : List ℕ) → head ≡ laid head_widths (first_line version p) → length head ≡ 23
      unfolding laid little
      head-size head e = ap length e

      text-put : (head middle last : List ℕ) (end : ℕ) → head ≡ laid head_widths (first_line version p)
          → end ≡ 0 + (2 * length head + 1) → middle ≡ sets buffer 0 (hex head ++ (10 ∷ []))
          → last ≡ sets middle end (lines_of open_widths (opens_of p)) → last ≡ sets buffer 0 (text_as version p)
      unfolding text_as line_of
      text-put head middle last end h e m w =
          let first : List ℕ = hex head ++ (10 ∷ []) in
          let n : length first ≡ 2 * length head + 1 = length-append (hex head) (10 ∷ []) ∙ rw (length-hex head) in
          let at : end ≡ 0 + length first = e ∙ rw n in
          w ∙ rw (m, at, ← sets-append buffer first (lines_of open_widths (opens_of p)) 0, h)

      pub fits : (head middle last : List ℕ) (end : ℕ) → size ≤ length buffer
          → head ≡ laid head_widths (first_line version p)
          → end ≡ 0 + (2 * length head + 1) → middle ≡ sets buffer 0 (hex head ++ (10 ∷ []))
          → last ≡ sets middle end (lines_of open_widths (opens_of p))
          → (record { refusal = 0; length = size } ≡ stored_as version p buffer) × (last ≡ buffer_as version p buffer)
      fits head middle last end l h e m w =
          let is = long-enough l in
          let room : 0 + length (text_as version p) ≤ length buffer = omega (arith, size_is) in (
            is,
            text-put head middle last end h e m w ∙ sets-eq (text_as version p) buffer 0 room
                ∙ rw zero-add (stored-buffer (sym (ap (λ (s : Stored). s.refusal) is))),
          )
