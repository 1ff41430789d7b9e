-- The text of an answer line, put together number by number.
-- Assumes nothing.
use Rattle.std.proofs.Common.{◌≡◌, ℕ, suc, ◌+◌, ◌*◌, ◌^◌, ◌<◌, ◌≤◌, Bool, true, false, cond, leb, List, [], ◌∷◌, ◌++◌, length, get_or, take, drop, set, sym, refl, ap, ◌∙◌, append_assoc, add-one, arith, length-append, length-set, drop_of_length-le, length-take-le, drop-cons, take-suc-set, le-leb}
use borrow.Author.Tests.{lt-leb}
use lib.Seq.{sets, length-sets}
use Rattle.octets.specs.Octets.{inside, written}
use Rattle.octets.proofs.Octets.{inside-true, inside-le, written-inside, wrote, take-sets}
use Rattle.replay_text.specs.Decimal.{at_most, decimal}
use Rattle.replay_text.proofs.answer.Decimal.{length-decimal}
use Rattle.replay_text.specs.AnswerLine.{numbers_text, line_text, fits_line, with_line, line_end}

-- ---- one number

-- a space, and the digits behind it
module _ (text last out : List ℕ) (at x r : ℕ) (size : r ≡ length (take r out)) (most : r ≤ 20)
    (is : take r out ≡ decimal x) (room : at + 21 ≤ length text)
    (put : last ≡ written (set text at 32) (at + 1) (take r out)) where
  pub number_put : ((at + 1 + r ≡ at + suc (length (decimal x))) × (at + 1 + r ≤ at + 21))
      × (last ≡ sets (set text at 32) (suc at) (decimal x))
  number_put =
      let l : r ≡ length (decimal x) = size ∙ ap length is in
      let w : last ≡ written (set text at 32) (suc at) (decimal x) = put ∙ rw (is, add-one at) in
      let fits : suc at + length (decimal x) ≤ length (set text at 32) = omega (arith, length-set text at 32) in
      ((omega arith, omega arith), wrote (set text at 32) last (decimal x) (suc at) w fits)

-- ---- a line's text: what is there, and what is left to put

pub record Begun (letter : ℕ) (ns text : List ℕ) (n i : ℕ) : Type 0 where
  pub size : length text ≡ 170
  pub most : length ns ≤ 8
  pub low : i ≤ length ns
  pub room : n ≤ 1 + 21 * i
  pub is : line_text letter ns ≡ take n text ++ numbers_text (drop i ns)

pub begun-start : (letter : ℕ) (ns text : List ℕ) → length text ≡ 170 → length ns ≤ 8
    → Begun letter ns (set text 0 letter) 1 0
unfolding line_text
begun-start letter ns text h k =
    record {
      size = length-set text 0 letter ∙ h;
      most = k;
      low = omega arith;
      room = omega arith;
      is = sym (rw (take-suc-set text 0 letter (omega arith)));
    }

module _ {letter : ℕ} {ns text : List ℕ} {n i : ℕ} (b : Begun letter ns text n i) where
  pub begun-turn : (last : List ℕ) (m : ℕ) → i < length ns → m ≡ n + length (32 ∷ decimal (get_or ns i 0)) → m ≤ n + 21
      → last ≡ sets text n (32 ∷ decimal (get_or ns i 0)) → Begun letter ns last m (i + 1)
  unfolding numbers_text
  begun-turn last m h e l q =
      let vs : List ℕ = 32 ∷ decimal (get_or ns i 0) in
      let d : drop i ns ≡ get_or ns i 0 ∷ drop (i + 1) ns = rw add-one (drop-cons ns i 0 h) in
      let front : take m last ≡ take n text ++ vs =
      rw (e, q) (take-sets text vs n (omega (arith, b.size, b.most, b.room))) in
      record {
        size = ap length q ∙ length-sets text n vs ∙ b.size;
        most = b.most;
        low = omega arith;
        room = omega (arith, b.room);
        is = b.is ∙ rw (d, front) (sym (append_assoc (take n text) vs (numbers_text (drop (i + 1) ns))));
      }

  pub begun-done : length ns ≤ i
      → ((n + 1 ≤ 170) × (n + 1 ≡ length (line_text letter ns))) × (take (n + 1) (set text n 10) ≡ line_text letter ns)
  unfolding numbers_text
  begun-done h =
      let d : drop i ns ≡ [] = drop_of_length-le ns h in
      let within : n < length text = omega (arith, b.size, b.most, b.room, b.low) in
      let all : line_text letter ns ≡ take n text ++ 10 ∷ [] = b.is ∙ rw d in
      let front : take (n + 1) (set text n 10) ≡ take n text ++ 10 ∷ [] = rw add-one (take-suc-set text n 10 within) in
      let count : length (line_text letter ns) ≡ n + 1 =
      ap length all ∙ length-append (take n text) (10 ∷ []) ∙ omega (arith, length-take-le n text (omega arith)) in
      ((omega arith, sym count), front ∙ sym all)

-- ---- a line put into a buffer

module _ (out : List ℕ) (at letter : ℕ) (ns : List ℕ) where
  pub too_many : 8 < length ns → (at ≡ line_end out at letter ns) × (out ≡ with_line out at letter ns)
  unfolding line_end with_line fits_line
  too_many h =
      let t : leb (length ns) 8 ≡ false = lt-leb (length ns) 8 h in
      (rw t, rw t)

  module _ (last text : List ℕ) (n : ℕ) (did : Bool) (few : length ns ≤ 8) (is : text ≡ line_text letter ns)
      (size : n ≡ length (line_text letter ns)) (answer : did ≡ inside out at (length text))
      (put : last ≡ written out at text) where
    t : leb (length ns) 8 ≡ true
    t = le-leb (length ns) 8 few

    fits : did ≡ inside out at (length (line_text letter ns))
    fits = answer ∙ rw is

    pub line-inside : did ≡ true → at + n ≤ length out
    line-inside e = omega (arith, size, inside-le out at (length (line_text letter ns)) (sym fits ∙ e))

    pub line-put : did ≡ true → (at + n ≡ line_end out at letter ns) × (last ≡ with_line out at letter ns)
    unfolding line_end with_line fits_line
    line-put e =
        let y : inside out at (length (line_text letter ns)) ≡ true = sym fits ∙ e in
        (rw (t, y, size), put ∙ rw (is, t))

    pub no_room : did ≡ false → (at ≡ line_end out at letter ns) × (last ≡ with_line out at letter ns)
    unfolding line_end with_line fits_line
    no_room e =
        let y : inside out at (length (line_text letter ns)) ≡ false = sym fits ∙ e in
        (rw (t, y), put ∙ rw (is, t))

-- ---- what a caller knows of a line's length

pub length-numbers : (ns : List ℕ) → ((i : ℕ) → i < length ns → get_or ns i 0 < 2 ^ 64)
    → length (numbers_text ns) ≤ 1 + 21 * length ns
unfolding numbers_text
length-numbers [] low = omega arith
length-numbers (n ∷ ns) low =
    let ih : length (numbers_text ns) ≤ 1 + 21 * length ns =
    length-numbers ns (λ (i : ℕ) (h : i < length ns). low (suc i) (omega arith)) in
    omega (arith, length-append (decimal n) (numbers_text ns), length-decimal n (low 0 (omega arith)))

module _ (out : List ℕ) (at letter : ℕ) (ns : List ℕ) where
  -- the index behind it lies in the buffer
  pub end-within : at ≤ length out → line_end out at letter ns ≤ length out
  unfolding line_end fits_line
  end-within h = go (leb (length ns) 8) (inside out at (length (line_text letter ns))) refl
    where
      go : (t i : Bool) → inside out at (length (line_text letter ns)) ≡ i
          → cond (cond t i false) (at + length (line_text letter ns)) at ≤ length out
      go true true e = inside-le out at (length (line_text letter ns)) e
      go true false e = h
      go false i e = h

  -- with room for 21 bytes a number, and for two more, it is written
  pub line-fits : length ns ≤ 8 → ((i : ℕ) → i < length ns → get_or ns i 0 < 2 ^ 64)
      → at + 2 + 21 * length ns ≤ length out
      → (line_end out at letter ns ≡ at + length (line_text letter ns))
      × (with_line out at letter ns ≡ sets out at (line_text letter ns))
  unfolding line_end with_line fits_line line_text
  line-fits few low room =
      let t : leb (length ns) 8 ≡ true = le-leb (length ns) 8 few in
      let size : ℕ = suc (length (numbers_text ns)) in
      let fits : at + size ≤ length out = omega (arith, length-numbers ns low) in
      let i : inside out at size ≡ true = inside-true out at size fits in
      (rw (t, i), rw t (written-inside out at (letter ∷ numbers_text ns) fits))

-- ---- lines as they look: `A 0 1 4 1`, `N`, `T 4096 10 9`

pub lines-look :
    (line_text 65 (0 ∷ 1 ∷ 4 ∷ 1 ∷ []) ≡ 65 ∷ 32 ∷ 48 ∷ 32 ∷ 49 ∷ 32 ∷ 52 ∷ 32 ∷ 49 ∷ 10 ∷ [])
    × (line_text 78 [] ≡ 78 ∷ 10 ∷ [])
    × (line_text 84 (4096 ∷ 10 ∷ 9 ∷ []) ≡ 84 ∷ 32 ∷ 52 ∷ 48 ∷ 57 ∷ 54 ∷ 32 ∷ 49 ∷ 48 ∷ 32 ∷ 57 ∷ 10 ∷ [])
unfolding line_text numbers_text decimal at_most
lines-look = (refl, refl, refl)
