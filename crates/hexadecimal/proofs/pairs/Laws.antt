-- Pairs of digits: a turn of the loop that takes them, and that they are a part of the walk from character to
-- character. Assumes nothing.
use mathlib.Core.Path.{◌≡◌, refl, sym, ◌∙◌, ap}
use mathlib.Core.Bool.{Bool, true, false}
use mathlib.Core.List.{List}
use Prim.Native.Nat.{ℕ, zero, suc, ◌+◌, ◌-◌, ◌*◌, ◌≤◌, ◌<◌}
use mathlib.Core.Logic.{◌⊎◌, ⊎_elim}
use native.Mathlib.Decide.{dec_lt}
use native.Mathlib.Omega.{arith}
use borrow.Author.Tests.{lt-ltb, le-ltb}
use lib.ListN.{length, get_or, set, length-set}
use Rattle.hexadecimal.specs.Taking.{state, taken_of}
use Rattle.hexadecimal.specs.Walking.{state_of, Walked}
use Rattle.hexadecimal.specs.declared.line.Line.{Line}
use Rattle.hexadecimal.specs.declared.line.Taken.{Taken}
use Rattle.hexadecimal.proofs.line.Digits.{value-is}
use Rattle.hexadecimal.proofs.line.Taking.{walked_start, walked_on, walked-pair}
use Rattle.hexadecimal.specs.Pairs.{Front, pairs_most, value_at, pairs_from, front_of}

-- ---- how many pairs there can be

module _ (len size from end : ℕ) where
  pub most-kept : pairs_most len size from end ≤ 9001 - len
  unfolding pairs_most
  most-kept = omega arith

  most-size : pairs_most len size from end ≤ size - len
  unfolding pairs_most
  most-size = omega arith

  most-piece : 2 * pairs_most len size from end ≤ end - from
  unfolding pairs_most
  most-piece = omega arith

-- ---- one turn of the loop

module _ (bad : Bool) (piece : List ℕ) (n at len half : ℕ) (frame : List ℕ) where
  pub stops-high : 15 < value_at piece at
      → pairs_from bad piece (suc n) at len half frame ≡ pairs_from bad piece zero at len half frame
  unfolding pairs_from
  stops-high h = rw (lt-ltb 15 (value_at piece at) h)

  pub stops-low : value_at piece at ≤ 15 → 15 < value_at piece (at + 1)
      → pairs_from bad piece (suc n) at len half frame ≡ pairs_from bad piece zero at len half frame
  unfolding pairs_from
  stops-low k h = rw (le-ltb 15 (value_at piece at) k, lt-ltb 15 (value_at piece (at + 1)) h)

  pub goes_on : value_at piece at ≤ 15 → value_at piece (at + 1) ≤ 15
      → pairs_from bad piece (suc n) at len half frame
      ≡ pairs_from bad piece n (at + 2) (len + 1) (value_at piece at)
      (set frame len (value_at piece at * 16 + value_at piece (at + 1)))
  unfolding pairs_from
  goes_on k h = rw (le-ltb 15 (value_at piece at) k, le-ltb 15 (value_at piece (at + 1)) h)

-- ---- the loop: what was to be taken in all is what is left to take from here

pub record Left (line : Line) (frame₀ piece : List ℕ) (from until len half at : ℕ) (frame : List ℕ) : Type 0 where
  pub even : line.odd ≡ false
  pub size : length frame ≡ length frame₀
  pub fits : until - len ≤ length frame - len
  pub room : 2 * (until - len) ≤ length piece - at
  pub is : front_of line frame₀ piece from ≡ pairs_from line.bad piece (until - len) at len half frame

abbrev Answers : Line → List ℕ → List ℕ → ℕ → ℕ → ℕ → ℕ → List ℕ → Type 0
Answers line frame₀ piece from len half at frame =
    (taken_of len half line.odd line.bad at false ≡ (front_of line frame₀ piece from).taken)
    × (frame ≡ (front_of line frame₀ piece from).frame)

pub left-start : (line : Line) (frame piece : List ℕ) (from until : ℕ) → line.odd ≡ false
    → until - line.len ≡ pairs_most line.len (length frame) from (length piece)
    → Left line frame piece from until line.len line.half from frame
unfolding front_of
left-start line frame piece from until e u =
    let size = length frame in
    let end = length piece in
    record {
      even = e;
      size = refl;
      fits = rw u (most-size line.len size from end);
      room = rw u (most-piece line.len size from end);
      is = rw (e, u);
    }

pub left-waiting : (line : Line) (frame piece : List ℕ) (from : ℕ) → line.odd ≡ true
    → (taken_of line.len line.half line.odd line.bad from false ≡ (front_of line frame piece from).taken)
    × (frame ≡ (front_of line frame piece from).frame)
unfolding front_of
left-waiting line frame piece from e = rw e (refl, refl)

module _ {line : Line} {frame₀ piece : List ℕ} {from until len half at : ℕ} {frame : List ℕ}
    (w : Left line frame₀ piece from until len half at frame) where
  answers : front_of line frame₀ piece from ≡ pairs_from line.bad piece zero at len half frame
      → Answers line frame₀ piece from len half at frame
  unfolding pairs_from
  answers e = (
    ap (λ (o : Bool). taken_of len half o line.bad at false) w.even ∙ sym (ap (λ (f : Front). f.taken) e),
    sym (ap (λ (f : Front). f.frame) e),
  )

  one_more : len < until
      → front_of line frame₀ piece from ≡ pairs_from line.bad piece (suc (until - (len + 1))) at len half frame
  one_more h =
      let e : until - len ≡ suc (until - (len + 1)) = omega arith in
      w.is ∙ rw e

  pub left-done : until ≤ len → Answers line frame₀ piece from len half at frame
  left-done h =
      let e : until - len ≡ zero = omega arith in
      answers (w.is ∙ rw e)

  module _ (h : len < until) (a b : ℕ) (ea : a ≡ value_at piece at) (eb : b ≡ value_at piece (at + 1)) where
    left-high : 15 < a → Answers line frame₀ piece from len half at frame
    left-high k = answers (one_more h ∙ stops-high line.bad piece _ at len half frame (rw (← ea) k))

    left-low : a ≤ 15 → 15 < b → Answers line frame₀ piece from len half at frame
    left-low l k =
        answers (one_more h ∙ stops-low line.bad piece _ at len half frame (rw (← ea) l) (rw (← eb) k))

    pub left-stops : (15 < a) ⊎ ((a ≤ 15) × (15 < b)) → Answers line frame₀ piece from len half at frame
    left-stops = ⊎_elim left-high (λ k. left-low k.0 k.1)

    pub left-turn : a ≤ 15 → b ≤ 15
        → Left line frame₀ piece from until (len + 1) a (at + 2) (set frame len (a * 16 + b))
    left-turn l k =
        record {
          even = w.even;
          size = length-set frame len (a * 16 + b) ∙ w.size;
          fits = rw (length-set frame len (a * 16 + b)) (omega (arith, w.fits));
          room = omega (arith, w.room);
          is = one_more h
              ∙ goes_on line.bad piece _ at len half frame (rw (← ea) l) (rw (← eb) k)
              ∙ rw (ea, eb);
        }

-- ---- the walk

abbrev WalkedTo : Bool → List ℕ → ℕ → ℕ → ℕ → List ℕ → Front → Type 0
WalkedTo bad piece at len half frame f =
    Walked (state len half false bad frame) piece at (state_of f.taken.line f.frame) f.taken.at

module _ (bad : Bool) (piece : List ℕ) where
  none-walked : (at len half : ℕ) (frame : List ℕ)
      → WalkedTo bad piece at len half frame (pairs_from bad piece zero at len half frame)
  unfolding pairs_from
  none-walked at len half frame = walked_start _ _ _

  pairs-walked : (n at len half : ℕ) (frame : List ℕ) → n ≤ 9001 - len → 2 * n ≤ length piece - at
      → WalkedTo bad piece at len half frame (pairs_from bad piece n at len half frame)
  pairs-walked zero at len half frame most room = none-walked at len half frame
  pairs-walked (suc n) at len half frame most room =
      go (pairs-walked n (at + 2) (len + 1) (value_at piece at)
      (set frame len (value_at piece at * 16 + value_at piece (at + 1))) (omega arith) (omega arith))
      (dec_lt 15 (value_at piece at)) (dec_lt 15 (value_at piece (at + 1)))
    where
      go : WalkedTo bad piece (at + 2) (len + 1) (value_at piece at)
          (set frame len (value_at piece at * 16 + value_at piece (at + 1)))
          (pairs_from bad piece n (at + 2) (len + 1) (value_at piece at)
          (set frame len (value_at piece at * 16 + value_at piece (at + 1))))
          → Dec (15 < value_at piece at) → Dec (15 < value_at piece (at + 1))
          → WalkedTo bad piece at len half frame (pairs_from bad piece (suc n) at len half frame)
      go ih (yes h) l = rw (stops-high bad piece n at len half frame h) (none-walked at len half frame)
      go ih (no h) (yes l) =
          rw (stops-low bad piece n at len half frame (omega arith) l) (none-walked at len half frame)
      go ih (no h) (no l) =
          let a = value_at piece at in
          let b = value_at piece (at + 1) in
          rw (goes_on bad piece n at len half frame (omega arith) (omega arith))
          (walked_on
          (walked-pair (walked_start (state len half false bad frame) piece at) a b (omega arith)
          (value-is (get_or piece at 0) a refl (omega arith)) (value-is (get_or piece (at + 1) 0) b refl (omega arith))
          (omega arith) (omega arith))
          ih)

front-is-walked : (line : Line) (frame piece : List ℕ) (from : ℕ)
    → Walked (state_of line frame) piece from
    (state_of (front_of line frame piece from).taken.line (front_of line frame piece from).frame)
    (front_of line frame piece from).taken.at
unfolding front_of
front-is-walked line frame piece from = go line.odd refl
  where
    go : (b : Bool) → line.odd ≡ b
        → Walked (state_of line frame) piece from
        (state_of (front_of line frame piece from).taken.line (front_of line frame piece from).frame)
        (front_of line frame piece from).taken.at
    go true e = rw e (walked_start _ _ _)
    go false e =
        rw e
        (pairs-walked line.bad piece (pairs_most line.len (length frame) from (length piece)) from line.len
        line.half frame (most-kept line.len (length frame) from (length piece))
        (most-piece line.len (length frame) from (length piece)))

pub front-walked : (line : Line) (frame piece : List ℕ) (from : ℕ) (r : Taken) (frame' : List ℕ)
    → (r ≡ (front_of line frame piece from).taken) × (frame' ≡ (front_of line frame piece from).frame)
    → Walked (state_of line frame) piece from (state_of r.line frame') r.at
front-walked line frame piece from r frame' e = rw (e.0, e.1) (front-is-walked line frame piece from)
