-- One character of a line and then the next: what each does to the state, and the walk over a piece of the input.
-- Assumes nothing.
use mathlib.Core.Path.{◌≡◌, refl, sym, ◌∙◌, ap}
use mathlib.Core.Bool.{Bool, true, false, cond}
use mathlib.Core.List.{List, [], ◌∷◌, ◌++◌, append-nil}
use mathlib.Core.Logic.{◌≢◌}
use mathlib.Core.Option.{Option, none, some}
use Prim.Native.Nat.{ℕ, suc, ◌+◌, ◌*◌, ◌%◌, ◌≤◌, ◌<◌}
use native.Mathlib.Nat.{mod-eq_of_lt}
use native.Mathlib.Numerals.{add-one}
use native.Mathlib.Decide.{dec_le}
use native.Mathlib.Omega.{arith}
use borrow.Author.Tests.{lt-ltb, le-ltb, eq-eqb, ne_eqb}
use lib.Dec.{eqb}
use lib.ListN.{length, drop, get_or, set, length-set, length-drop, drop_of_length-le}
use lib.Seq.{drop-cons}
use Rattle.hexadecimal.specs.Line.{digit, up_to_newline, has_newline}
use Rattle.hexadecimal.specs.Taking.{State, state, with_byte, with_digit, with_value, after, taken_from, frame_after}
use Rattle.hexadecimal.specs.Walking.{Walked}
use Rattle.hexadecimal.specs.declared.line.Line.{Line}
use Rattle.hexadecimal.proofs.line.Digits.{not-newline}

-- ---- what one character does

module _ (len half : ℕ) (odd bad : Bool) (frame : List ℕ) (c : ℕ) where
  pub on-bad : digit c ≡ none → with_value (digit c) (state len half odd bad frame) ≡ state len half odd true frame
  on-bad e = rw e

  pub on-high : (d : ℕ) → digit c ≡ some d → odd ≡ false
      → with_value (digit c) (state len half odd bad frame) ≡ state len d true bad frame
  unfolding with_digit
  on-high d e o = rw (e, o)

  pub on-low : (d : ℕ) → digit c ≡ some d → odd ≡ true → len < 9001
      → with_value (digit c) (state len half odd bad frame)
      ≡ state (len + 1) half false bad (set frame len (half % 16 * 16 + d))
  unfolding with_digit with_byte
  on-low d e o h = rw (e, o, lt-ltb len 9001 h)

  pub on-full : (d : ℕ) → digit c ≡ some d → odd ≡ true → 9001 ≤ len
      → with_value (digit c) (state len half odd bad frame) ≡ state len half false bad frame
  unfolding with_digit with_byte
  on-full d e o h = rw (e, o, le-ltb len 9001 h)

-- ---- pieces

-- a line taken in two pieces is the line taken in one
pub after-append : (s : State) (a b : List ℕ) → after s (a ++ b) ≡ after (after s a) b
unfolding after
after-append s [] b = refl
after-append s (c ∷ a) b = after-append (with_value (digit c) s) a b

-- a piece with no newline is all of the line, and the line goes on in the next
module _ (b : List ℕ) where
  pub goes_on : (a : List ℕ) → has_newline a ≡ false → up_to_newline (a ++ b) ≡ a ++ up_to_newline b
  unfolding has_newline up_to_newline
  goes_on [] h = refl
  goes_on (c ∷ a) h = go (eqb c 10) (λ (k : has_newline a ≡ false). goes_on a k) h
    where
      go : (t : Bool) → (has_newline a ≡ false → up_to_newline (a ++ b) ≡ a ++ up_to_newline b)
          → cond t true (has_newline a) ≡ false → cond t [] (c ∷ up_to_newline (a ++ b)) ≡ c ∷ a ++ up_to_newline b
      go true ih z = let q : ◌≡◌ {A = ℕ} 0 1 = cc in absurd (omega arith)
      go false ih z = ap (λ (r : List ℕ). c ∷ r) (ih z)

  pub ends-later : (a : List ℕ) → has_newline a ≡ false → has_newline (a ++ b) ≡ has_newline b
  unfolding has_newline
  ends-later [] h = refl
  ends-later (c ∷ a) h = go (eqb c 10) (λ (k : has_newline a ≡ false). ends-later a k) h
    where
      go : (t : Bool) → (has_newline a ≡ false → has_newline (a ++ b) ≡ has_newline b)
          → cond t true (has_newline a) ≡ false → cond t true (has_newline (a ++ b)) ≡ has_newline b
      go true ih z = let q : ◌≡◌ {A = ℕ} 0 1 = cc in absurd (omega arith)
      go false ih z = ih z

pub all-of-it : (a : List ℕ) → has_newline a ≡ false → up_to_newline a ≡ a
unfolding up_to_newline
all-of-it a h =
    let e : up_to_newline (a ++ []) ≡ a ++ [] = goes_on [] a h in
    rw (append-nil a) at e

pub in-two-pieces : (s : State) (a b : List ℕ) → has_newline a ≡ false
    → after s (up_to_newline (a ++ b)) ≡ after (after s (up_to_newline a)) (up_to_newline b)
in-two-pieces s a b h = rw (goes_on b a h, all-of-it a h) (after-append s a (up_to_newline b))

-- the same of two calls, the second with what the first left
module _ (line : Line) (frame : List ℕ) (from at : ℕ) (a b : List ℕ) (h : has_newline a ≡ false) where
  pub two-calls :
      ((taken_from (taken_from line frame from a).line (frame_after line frame a) at b).line
      ≡ (taken_from line frame from (a ++ b)).line)
      × (frame_after (taken_from line frame from a).line (frame_after line frame a) b ≡ frame_after line frame (a ++ b))
      × ((taken_from (taken_from line frame from a).line (frame_after line frame a) at b).ended
      ≡ (taken_from line frame from (a ++ b)).ended)
  unfolding taken_from frame_after
  two-calls =
      let e = sym (in-two-pieces (record { line = line; frame = frame }) a b h) in
      (ap (λ (s : State). s.line) e, ap (λ (s : State). s.frame) e, sym (ends-later b a h))

-- ---- the walk over a piece

pub walked_start : (s : State) (piece : List ℕ) (from : ℕ) → Walked s piece from s from
walked_start s piece from = record { size = refl; is = refl; at-is = refl; ended_is = refl }

-- two walks, the second from where the first has come to
pub walked_on : {a b c : State} {piece : List ℕ} {i j k : ℕ} → Walked a piece i b j → Walked b piece j c k
    → Walked a piece i c k
walked_on v w =
    record {
      size = w.size ∙ v.size;
      is = v.is ∙ w.is;
      at-is = v.at-is ∙ w.at-is;
      ended_is = v.ended_is ∙ w.ended_is;
    }

module _ {begun s : State} {piece : List ℕ} {from at : ℕ} (w : Walked begun piece from s at) where
  pub walked-turn : (s' : State) → at < length piece → get_or piece at 0 ≢ 10
      → with_value (digit (get_or piece at 0)) s ≡ s'
      → length s'.frame ≡ length s.frame
      → Walked begun piece from s' (at + 1)
  unfolding up_to_newline has_newline after
  walked-turn s' h n e l =
      let d : drop at piece ≡ get_or piece at 0 ∷ drop (at + 1) piece = rw add-one (drop-cons piece at 0 h) in
      let t : eqb (get_or piece at 0) 10 ≡ false = ne_eqb (get_or piece at 0) 10 n in
      let up : up_to_newline (drop at piece) ≡ get_or piece at 0 ∷ up_to_newline (drop (at + 1) piece) = rw (d, t) in
      let rest = up_to_newline (drop (at + 1) piece) in
      let more : length (up_to_newline (drop at piece)) ≡ suc (length rest) = ap length up in
      record {
        size = l ∙ w.size;
        is = w.is ∙ rw up (ap (λ (x : State). after x (up_to_newline (drop (at + 1) piece))) e);
        at-is = omega (arith, w.at-is);
        ended_is = w.ended_is ∙ rw (d, t);
      }

  pub walked-newline : at < length piece → get_or piece at 0 ≡ 10
      → (record { line = s.line; at = at + 1; ended = true }
      ≡ taken_from begun.line begun.frame from (drop from piece))
      × (s.frame ≡ frame_after begun.line begun.frame (drop from piece))
  unfolding up_to_newline has_newline after taken_from frame_after
  walked-newline h e =
      let d : drop at piece ≡ get_or piece at 0 ∷ drop (at + 1) piece = rw add-one (drop-cons piece at 0 h) in
      let t : eqb (get_or piece at 0) 10 ≡ true = eq-eqb (get_or piece at 0) 10 e in
      let up : up_to_newline (drop at piece) ≡ [] = rw (d, t) in
      let has : has_newline (drop at piece) ≡ true = rw (d, t) in
      let none_left : length (up_to_newline (drop at piece)) ≡ 0 = ap length up in
      let a : from + length (up_to_newline (drop from piece)) + 1 ≡ at + 1 = omega (arith, w.at-is) in
      let whole : after begun (up_to_newline (drop from piece)) ≡ s = w.is ∙ rw up in
      (rw (whole, w.ended_is, has, a), sym (ap (λ (x : State). x.frame) whole))

  pub walked_end : length piece ≤ at
      → (record { line = s.line; at = at; ended = false }
      ≡ taken_from begun.line begun.frame from (drop from piece))
      × (s.frame ≡ frame_after begun.line begun.frame (drop from piece))
  unfolding up_to_newline has_newline after taken_from frame_after
  walked_end h =
      let d : drop at piece ≡ [] = drop_of_length-le piece h in
      let up : up_to_newline (drop at piece) ≡ [] = rw d in
      let has : has_newline (drop at piece) ≡ false = rw d in
      let none_left : length (up_to_newline (drop at piece)) ≡ 0 = ap length up in
      let a : from + length (up_to_newline (drop from piece)) + 0 ≡ at = omega (arith, w.at-is) in
      let whole : after begun (up_to_newline (drop from piece)) ≡ s = w.is ∙ rw up in
      (rw (whole, w.ended_is, has, a), sym (ap (λ (x : State). x.frame) whole))

  -- what is left of the walk, taken in by a call of its own
  pub walked-rest :
      (taken_from s.line s.frame at (drop at piece)
      ≡ taken_from begun.line begun.frame from (drop from piece))
      × (frame_after s.line s.frame (drop at piece) ≡ frame_after begun.line begun.frame (drop from piece))
  unfolding taken_from frame_after
  walked-rest = (rw (w.is, w.ended_is, w.at-is), sym (ap (λ (x : State). x.frame) w.is))

-- a digit that completes a byte, and a pair of digits
module _ {begun : State} {piece : List ℕ} {from len half : ℕ} {odd bad : Bool} {frame : List ℕ} {at : ℕ}
    (w : Walked begun piece from (state len half odd bad frame) at) where
  pub walked-kept : (frame' : List ℕ) (d : ℕ) → frame' ≡ set frame len (half % 16 * 16 + d) → at < length piece
      → get_or piece at 0 ≢ 10 → digit (get_or piece at 0) ≡ some d → odd ≡ true → len < 9001
      → Walked begun piece from (state (len + 1) half false bad frame') (at + 1)
  walked-kept frame' d q h n e o l =
      rw q
      (walked-turn w (state (len + 1) half false bad (set frame len (half % 16 * 16 + d))) h n
      (on-low len half odd bad frame (get_or piece at 0) d e o l)
      (length-set frame len (half % 16 * 16 + d)))

module _ {begun : State} {piece : List ℕ} {from len half : ℕ} {bad : Bool} {frame : List ℕ} {at : ℕ}
    (w : Walked begun piece from (state len half false bad frame) at) where
  pub walked-pair : (a b : ℕ) → at + 1 < length piece → digit (get_or piece at 0) ≡ some a
      → digit (get_or piece (at + 1) 0) ≡ some b → a < 16 → len < 9001
      → Walked begun piece from (state (len + 1) a false bad (set frame len (a * 16 + b))) (at + 2)
  walked-pair a b h ea eb l room =
      let high : Walked begun piece from (state len a true bad frame) (at + 1) =
      walked-turn w (state len a true bad frame) (omega arith) (not-newline _ _ ea)
      (on-high len half false bad frame (get_or piece at 0) a ea refl) refl in
      let m : a % 16 ≡ a = mod-eq_of_lt l in
      let two : at + 1 + 1 ≡ at + 2 = omega arith in
      rw (← two)
      (walked-kept high (set frame len (a * 16 + b)) b (rw m) h (not-newline _ _ eb) eb refl room)

-- ---- what a caller knows of the answer without looking at the characters

-- no more bytes are counted than are kept
kept-digit : (d len half : ℕ) (odd bad : Bool) (frame : List ℕ) → len ≤ 9001
    → (with_digit d (state len half odd bad frame)).line.len ≤ 9001
unfolding with_digit with_byte
kept-digit d len half false bad frame h = h
kept-digit d len half true bad frame h = go (dec_le 9001 len)
  where
    go : Dec (9001 ≤ len) → (with_digit d (state len half true bad frame)).line.len ≤ 9001
    go (yes k) = rw (le-ltb len 9001 k) h
    go (no k) = rw (lt-ltb len 9001 (omega arith)) (omega arith)

kept-value : (o : Option ℕ) (s : State) → s.line.len ≤ 9001 → (with_value o s).line.len ≤ 9001
kept-value none s h = h
kept-value (some d) s h = kept-digit d s.line.len s.line.half s.line.odd s.line.bad s.frame h

pub after-most : (cs : List ℕ) (s : State) → s.line.len ≤ 9001 → (after s cs).line.len ≤ 9001
unfolding after
after-most [] s h = h
after-most (c ∷ cs) s h = after-most cs (with_value (digit c) s) (kept-value (digit c) s h)

pub taken-most : (line : Line) (frame : List ℕ) (from : ℕ) (cs : List ℕ) → line.len ≤ 9001
    → (taken_from line frame from cs).line.len ≤ 9001
unfolding taken_from
taken-most line frame from cs h = after-most (up_to_newline cs) (record { line = line; frame = frame }) h

-- the index behind what was taken lies in the piece, and further on than before if there was a character
taken-count : (cs : List ℕ) → length (up_to_newline cs) + cond (has_newline cs) 1 0 ≤ length cs
unfolding up_to_newline has_newline
taken-count [] = omega arith
taken-count (c ∷ cs) = go (eqb c 10) (taken-count cs)
  where
    go : (t : Bool) → length (up_to_newline cs) + cond (has_newline cs) 1 0 ≤ length cs
        → length (cond t [] (c ∷ up_to_newline cs)) + cond (cond t true (has_newline cs)) 1 0 ≤ suc (length cs)
    go true ih = omega arith
    go false ih = omega (arith, ih)

taken-some : (c : ℕ) (cs : List ℕ) → 0 < length (up_to_newline (c ∷ cs)) + cond (has_newline (c ∷ cs)) 1 0
unfolding up_to_newline has_newline
taken-some c cs = go (eqb c 10)
  where
    go : (t : Bool) → 0 < length (cond t [] (c ∷ up_to_newline cs)) + cond (cond t true (has_newline cs)) 1 0
    go true = omega arith
    go false = omega arith

module _ (line : Line) (frame : List ℕ) (from : ℕ) (piece : List ℕ) where
  pub taken-within : from ≤ length piece → (taken_from line frame from (drop from piece)).at ≤ length piece
  unfolding taken_from
  taken-within h = omega (arith, taken-count (drop from piece), length-drop from piece)

  pub taken-further : from < length piece → from < (taken_from line frame from (drop from piece)).at
  unfolding taken_from
  taken-further h =
      let e : drop from piece ≡ get_or piece from 0 ∷ drop (suc from) piece = drop-cons piece from 0 h in
      rw e (omega (arith, taken-some (get_or piece from 0) (drop (suc from) piece)))

  -- where the line has not ended, all of the piece was taken
  pub taken-rest : from ≤ length piece → (taken_from line frame from (drop from piece)).ended ≡ false
      → (taken_from line frame from (drop from piece)).at ≡ length piece
  unfolding taken_from
  taken-rest h e = rw (e, all-of-it (drop from piece) e) (omega (arith, length-drop from piece))
