-- What is known of a line after all its characters is what the line spells (N14, P6, P7).
-- Assumes nothing.
use mathlib.Core.Path.{◌≡◌, refl, sym, ◌∙◌, ap}
use mathlib.Core.Bool.{Bool, true, false, cond}
use mathlib.Core.List.{List, [], ◌∷◌, ◌++◌, append_assoc, append-nil}
use mathlib.Core.Option.{Option, none, some}
use Prim.Native.Nat.{ℕ, suc, ◌+◌, ◌*◌, ◌%◌, ◌≤◌, ◌<◌, min}
use native.Mathlib.Nat.{mod-eq_of_lt}
use native.Mathlib.Numerals.{add-one}
use native.Mathlib.Decide.{dec_le}
use native.Mathlib.Omega.{arith}
use borrow.Author.Tests.{lt-ltb, le-ltb, ne_eqb}
use lib.Dec.{ltb, eqb}
use lib.ListN.{length, take, set, length-set}
use lib.Seq.{length-take-le, take-suc-set, take_at, take_all}
use Rattle.hexadecimal.specs.Line.{within, digit, joined, decode}
use Rattle.hexadecimal.specs.Taking.{
  State,
  state,
  start,
  with_byte,
  with_digit,
  with_value,
  after,
  refused_line,
  empty_line,
}
use Rattle.hexadecimal.proofs.line.Digits.{Valued, is_digit, no_digit, valued}
use Rattle.hexadecimal.proofs.line.Taking.{on-bad, on-high, on-low, on-full}

-- ---- a character that is no digit is not forgotten

bad-stays : (d : ℕ) (s : State) → s.line.bad ≡ true → (with_digit d s).line.bad ≡ true
unfolding with_digit with_byte
bad-stays d s h = go s.line.odd (ltb s.line.len 9001)
  where
    go : (o f : Bool)
        → (cond o
        (cond f
        (state (s.line.len + 1) s.line.half false s.line.bad
        (set s.frame s.line.len (s.line.half % 16 * 16 + d)))
        (state s.line.len s.line.half false s.line.bad s.frame))
        (state s.line.len d true s.line.bad s.frame)).line.bad
        ≡ true
    go true true = h
    go true false = h
    go false f = h

pub once-bad : (cs : List ℕ) (s : State) → s.line.bad ≡ true → (after s cs).line.bad ≡ true
unfolding after
once-bad [] s h = h
once-bad (c ∷ cs) s h = once-bad cs (with_value (digit c) s) (step (digit c))
  where
    step : (o : Option ℕ) → (with_value o s).line.bad ≡ true
    step none = refl
    step (some d) = bad-stays d s h

-- ---- two characters more

none-some : {A : Type 0} {x : A} → none ≡ some x → ⊥
none-some e = let z : ◌≡◌ {A = ℕ} 0 1 = cc in omega arith

-- what a line spells begins with its first two digits' byte
record Joined (high low : Option ℕ) (rest : Option (List ℕ)) (f : List ℕ) : Type 0 where
  a : ℕ
  b : ℕ
  g : List ℕ
  high_is : high ≡ some a
  low-is : low ≡ some b
  rest-is : rest ≡ some g
  is : f ≡ (a * 16 + b) ∷ g

joined-some : (high low : Option ℕ) (rest : Option (List ℕ)) (f : List ℕ) → joined high low rest ≡ some f
    → Joined high low rest f
joined-some none low rest f e = absurd (none-some e)
joined-some (some a) none rest f e = absurd (none-some e)
joined-some (some a) (some b) none f e = absurd (none-some e)
joined-some (some a) (some b) (some g) f e =
    record { a = a; b = b; g = g; high_is = refl; low-is = refl; rest-is = refl; is = cc }

joined-none : (a b : ℕ) (rest : Option (List ℕ)) → joined (some a) (some b) rest ≡ none → rest ≡ none
joined-none a b none e = refl
joined-none a b (some g) e = absurd (none-some (sym e))

low_value : (c d : ℕ) → digit c ≡ some d → d < 16
low_value c d e = go (valued c)
  where
    go : Valued c → d < 16
    go (is_digit v q l) =
        let z : some v ≡ some d = sym q ∙ e in
        let w : v ≡ d = cc in
        omega arith
    go (no_digit q) = absurd (none-some (sym q ∙ e))

module _ (l half : ℕ) (frame : List ℕ) (h k a b : ℕ) (eh : digit h ≡ some a) (ek : digit k ≡ some b) where
  -- two digits are a byte, while there is room
  pair-low : l < 9001
      → with_value (digit k) (with_value (digit h) (state l half false false frame))
      ≡ state (l + 1) a false false (set frame l (a * 16 + b))
  pair-low room =
      let m : a % 16 ≡ a = mod-eq_of_lt (low_value h a eh) in
      rw (on-high l half false false frame h a eh refl)
      (on-low l a true false frame k b ek refl room ∙ rw m)

  -- and forgotten from then on
  pair-full : 9001 ≤ l
      → with_value (digit k) (with_value (digit h) (state l half false false frame)) ≡ state l a false false frame
  pair-full full = rw (on-high l half false false frame h a eh refl) (on-full l a true false frame k b ek refl full)

-- ---- a line that spells bytes: they follow the l that the buffer has, and 9,001 in all are kept

pub record Holds (l : ℕ) (frame f : List ℕ) (s : State) : Type 0 where
  pub good : s.line.bad ≡ false
  pub even : s.line.odd ≡ false
  pub count : s.line.len ≡ min (l + length f) 9001
  pub bytes : take s.line.len s.frame ≡ take 9001 (take l frame ++ f)

module _ (cs g : List ℕ) (h k a b : ℕ) (eh : digit h ≡ some a) (ek : digit k ≡ some b)
    (ih : (l half : ℕ) (frame : List ℕ) → l ≤ 9001 → 9001 ≤ length frame
    → Holds l frame g (after (state l half false false frame) cs)) where
  holds-pair : (l half : ℕ) (frame : List ℕ) → l ≤ 9001 → 9001 ≤ length frame
      → Holds l frame ((a * 16 + b) ∷ g) (after (state l half false false frame) (h ∷ k ∷ cs))
  unfolding after
  holds-pair l half frame most room = go (dec_le 9001 l)
    where
      go : Dec (9001 ≤ l) → Holds l frame ((a * 16 + b) ∷ g) (after (state l half false false frame) (h ∷ k ∷ cs))
      go (yes full) =
          let i = ih l a frame most room in
          let size : length (take l frame) ≡ 9001 = length-take-le l frame (omega arith) ∙ omega arith in
          rw (pair-full l half frame h k a b eh ek full)
          (record {
            good = i.good;
            even = i.even;
            count = omega (arith, i.count);
            bytes =
                i.bytes ∙ take_at (take l frame) g 9001 size
                ∙ sym (take_at (take l frame) ((a * 16 + b) ∷ g) 9001 size);
          })
      go (no low) =
          let same : length (set frame l (a * 16 + b)) ≡ length frame = length-set frame l (a * 16 + b) in
          let i = ih (l + 1) a (set frame l (a * 16 + b)) (omega arith) (omega arith) in
          let front : take (l + 1) (set frame l (a * 16 + b)) ≡ take l frame ++ (a * 16 + b) ∷ [] =
          rw add-one (take-suc-set frame l (a * 16 + b) (omega arith)) in
          rw (pair-low l half frame h k a b eh ek (omega arith))
          (record {
            good = i.good;
            even = i.even;
            count = omega (arith, i.count);
            bytes = i.bytes ∙ rw front (simp append_assoc);
          })

pub spells : (cs f : List ℕ) (l half : ℕ) (frame : List ℕ) → decode cs ≡ some f → l ≤ 9001 → 9001 ≤ length frame
    → Holds l frame f (after (state l half false false frame) cs)
unfolding decode after
spells [] f l half frame e most room =
    let n : f ≡ [] = cc in
    let size : length (take l frame) ≤ 9001 = omega (arith, length-take-le l frame (omega arith)) in
    record {
      good = refl;
      even = refl;
      count = rw n (omega arith);
      bytes = sym (rw (n, append-nil (take l frame)) (take_all 9001 (take l frame) size));
    }
spells (c ∷ []) f l half frame e most room = absurd (none-some e)
spells (h ∷ k ∷ cs) f l half frame e most room =
    let j = joined-some (digit h) (digit k) (decode cs) f e in
    rw j.is
    (holds-pair cs j.g h k j.a j.b j.high_is j.low-is
    (λ (n m : ℕ) (m₁ : List ℕ) p q. spells cs j.g n m m₁ j.rest-is p q) l half frame most room)

-- ---- a line that spells none

pub refuses : (cs : List ℕ) (l half : ℕ) (frame : List ℕ) → decode cs ≡ none
    → refused_line (after (state l half false false frame) cs).line ≡ true
unfolding decode after refused_line
refuses [] l half frame e = absurd (none-some (sym e))
refuses (c ∷ []) l half frame e = go (valued c)
  where
    go : Valued c → refused_line (with_value (digit c) (state l half false false frame)).line ≡ true
    go (is_digit d q h) = rw (on-high l half false false frame c d q refl)
    go (no_digit q) = rw (on-bad l half false false frame c q)
refuses (h ∷ k ∷ cs) l half frame e =
    go (valued h) (valued k) (dec_le 9001 l) (λ (n m : ℕ) (m₁ : List ℕ) q. refuses cs n m m₁ q)
  where
    go : Valued h → Valued k → Dec (9001 ≤ l)
        → ((n m : ℕ) (m₁ : List ℕ) → decode cs ≡ none → refused_line (after (state n m false false m₁) cs).line ≡ true)
        → refused_line (after (with_value (digit k) (with_value (digit h) (state l half false false frame))) cs).line
        ≡ true
    go (no_digit q) v d ih =
        rw (on-bad l half false false frame h q)
        (rw (once-bad (k ∷ cs) (state l half false true frame) refl))
    go (is_digit a q la) (no_digit r) d ih =
        rw (on-high l half false false frame h a q refl, on-bad l a true false frame k r)
        (rw (once-bad cs (state l a true true frame) refl))
    go (is_digit a q la) (is_digit b r lb) (yes full) ih =
        rw (pair-full l half frame h k a b q r full)
        (ih l a frame (joined-none a b (decode cs) (rw (q, r) at e)))
    go (is_digit a q la) (is_digit b r lb) (no low) ih =
        rw (pair-low l half frame h k a b q r (omega arith))
        (ih (l + 1) a (set frame l (a * 16 + b)) (joined-none a b (decode cs) (rw (q, r) at e)))

-- ---- a line with no character

touched-digit : (d len half : ℕ) (odd bad : Bool) (frame : List ℕ)
    → empty_line (with_digit d (state len half odd bad frame)).line ≡ false
unfolding with_digit with_byte empty_line
touched-digit d len half false true frame = refl
touched-digit d len half false false frame = refl
touched-digit d len half true bad frame = go bad (dec_le 9001 len)
  where
    go : (b : Bool) → Dec (9001 ≤ len) → empty_line (with_digit d (state len half true b frame)).line ≡ false
    go true (yes h) = rw (le-ltb len 9001 h)
    go true (no h) = rw (lt-ltb len 9001 (omega arith))
    go false (yes h) = rw (le-ltb len 9001 h) (ne_eqb len 0 (omega arith))
    go false (no h) = rw (lt-ltb len 9001 (omega arith)) (ne_eqb (len + 1) 0 (omega arith))

touched : (o : Option ℕ) (s : State) → empty_line (with_value o s).line ≡ false
unfolding empty_line
touched none s = refl
touched (some d) s = touched-digit d s.line.len s.line.half s.line.odd s.line.bad s.frame

some-character : (cs : List ℕ) (c : ℕ) (s : State) → empty_line (after s (c ∷ cs)).line ≡ false
unfolding after
some-character [] c s = touched (digit c) s
some-character (d ∷ cs) c s = some-character cs d (with_value (digit c) s)

-- ---- what `decode` takes: an even number of digits, two for each byte, and nothing else

abbrev pub is_some : Option (List ℕ) → Bool
is_some none = false
is_some (some f) = true

abbrev pub and_digit : Option ℕ → Bool → Bool
and_digit none rest = false
and_digit (some d) rest = rest

unfoldable pub all_digits : List ℕ → Bool
all_digits [] = true
all_digits (c ∷ cs) = and_digit (digit c) (all_digits cs)

pub decode-takes : (cs : List ℕ) → is_some (decode cs) ≡ cond (all_digits cs) (eqb (length cs % 2) 0) false
unfolding decode all_digits
decode-takes [] = refl
decode-takes (c ∷ []) = go (digit c)
  where
    go : (o : Option ℕ) → false ≡ cond (and_digit o true) (eqb (1 % 2) 0) false
    go none = refl
    go (some d) = refl
decode-takes (h ∷ k ∷ cs) = go (digit h) (digit k) (decode cs) (decode-takes cs)
  where
    two-more : eqb (suc (suc (length cs)) % 2) 0 ≡ eqb (length cs % 2) 0
    two-more =
        let e : suc (suc (length cs)) % 2 ≡ length cs % 2 = omega arith in
        rw e

    go : (o p : Option ℕ) (r : Option (List ℕ)) → is_some r ≡ cond (all_digits cs) (eqb (length cs % 2) 0) false
        → is_some (joined o p r)
        ≡ cond (and_digit o (and_digit p (all_digits cs))) (eqb (suc (suc (length cs)) % 2) 0) false
    go none p r ih = refl
    go (some a) none r ih = refl
    go (some a) (some b) none ih = rw two-more ih
    go (some a) (some b) (some g) ih = rw two-more ih

pub decode-length : (cs f : List ℕ) → decode cs ≡ some f → length cs ≡ 2 * length f
unfolding decode
decode-length [] f e =
    let n : f ≡ [] = cc in
    rw n
decode-length (c ∷ []) f e = absurd (none-some e)
decode-length (h ∷ k ∷ cs) f e =
    let j = joined-some (digit h) (digit k) (decode cs) f e in
    let ih : length cs ≡ 2 * length j.g = decode-length cs j.g j.rest-is in
    let n : length f ≡ suc (length j.g) = ap length j.is in
    omega arith

-- ---- the theorem, from no character on

abbrev pub at_start : List ℕ → State
at_start frame = record { line = start; frame = frame }

-- the line spells f: it is not refused, and the buffer's first bytes are f, or its first 9,001
pub record Spelled (f : List ℕ) (s : State) : Type 0 where
  pub not-refused : refused_line s.line ≡ false
  pub count : s.line.len ≡ min (length f) 9001
  pub bytes : take s.line.len s.frame ≡ take 9001 f

pub line-spelled : (cs f frame : List ℕ) → 9001 ≤ length frame → decode cs ≡ some f
    → Spelled f (after (at_start frame) cs)
unfolding start refused_line
line-spelled cs f frame room e =
    let h = spells cs f 0 0 frame e (omega arith) room in
    record { not-refused = rw (h.good, h.even); count = omega (arith, h.count); bytes = h.bytes }

pub line_refused : (cs frame : List ℕ) → decode cs ≡ none → refused_line (after (at_start frame) cs).line ≡ true
unfolding start
line_refused cs frame e = refuses cs 0 0 frame e

pub line-empty : (cs frame : List ℕ) → empty_line (after (at_start frame) cs).line ≡ eqb (length cs) 0
unfolding start after empty_line
line-empty [] frame = refl
line-empty (c ∷ cs) frame = some-character cs c (at_start frame) ∙ sym (ne_eqb (suc (length cs)) 0 (omega arith))

-- a frame of at most 9,000 bytes stands whole in the buffer, and a longer one is still seen to be longer
pub frame-whole : {f : List ℕ} {s : State} → Spelled f s → length f ≤ 9000
    → (s.line.len ≡ length f) × (take s.line.len s.frame ≡ f)
frame-whole {f} {s} h most = (omega (arith, h.count), h.bytes ∙ take_all 9001 f (omega arith))

pub frame-long : {f : List ℕ} {s : State} → Spelled f s → 9000 < length f → s.line.len ≡ 9001
frame-long {f} {s} h long = omega (arith, h.count)

-- ---- lines as they look: `0aF1`, `0a0`, `0g`, and a carriage return

pub lines-mean :
    (decode (48 ∷ 97 ∷ 70 ∷ 49 ∷ []) ≡ some (10 ∷ 241 ∷ []))
    × (decode (48 ∷ 97 ∷ 48 ∷ []) ≡ none)
    × (decode (48 ∷ 103 ∷ []) ≡ none)
    × (decode (48 ∷ 13 ∷ []) ≡ none)
    × (decode [] ≡ some [])
unfolding decode digit within
lines-mean = (refl, refl, refl, refl, refl)
