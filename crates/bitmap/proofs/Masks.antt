-- The bits of words put together, mark by mark, and words with a run of marks, for words of any width.
-- Assumes nothing.
use Prim.Native.Nat.{ℕ, zero, suc, ◌-◌, ◌*◌, ◌^◌, ◌/◌, ◌%◌, ◌≤◌, ◌<◌}
use native.Mathlib.Nat.{lt_of_lt_of_le, one-mul, mod-eq_of_lt, pow-succ'}
use native.Mathlib.Decide.{dec_lt}
use native.Mathlib.Omega.{arith}
use mathlib.Core.Path.{◌≡◌, refl, sym, ◌∙◌}
use mathlib.Core.Logic.{⊎_elim}
use mathlib.Core.Bool.{Bool, true, false, not, ◌&&◌, ◌||◌, and-true, and-false}
use borrow.Author.Tests.{lt-ltb, le-ltb, le-leb, lt-leb}
use lib.Dec.{eqb, leb, ltb}
use lib.Bits.{bit_and, bit_or, and_shr, and_mod, and_lt, or_shr, or_mod}
use lib.Pow.{pow_pos, pow_mono, pow-lt}
use Rattle.bitmap.specs.Marks.{mark, with_mark, trailing_ones, marks_of}
use Rattle.bitmap.specs.Masks.{marks_below, marks_between}
use Rattle.bitmap.proofs.Marks.{
  leading-is,
  shift_past,
  or-shl,
  with_mark-past,
  ones-trailing,
  bit-two,
  mark-of-zero,
  mark-zero,
  mark-suc,
  mark-marks_of,
  mark-marks_of-beyond,
  marks_of-lt,
  mark-ext,
}

-- The definitions at work, by computation: 7 is 111 in binary, and 28 is 11100.
pub edges : (marks_below 8 3 ≡ 7) × (marks_below 8 0 ≡ 0) × (marks_below 8 9 ≡ 255) × (marks_between 8 2 5 ≡ 28)
    × (marks_between 8 5 2 ≡ 0) × (marks_between 8 6 9 ≡ 192)
unfolding marks_below marks_between marks_of
edges = (refl, refl, refl, refl, refl, refl)

-- ---- and, or, not

-- by the four cases of two bits
bits : (f : ℕ → ℕ → ℕ) (g : Bool → Bool → Bool) → eqb (f 0 0) 1 ≡ g false false → eqb (f 0 1) 1 ≡ g false true
    → eqb (f 1 0) 1 ≡ g true false → eqb (f 1 1) 1 ≡ g true true
    → (x y : ℕ) → eqb (f (x % 2) (y % 2)) 1 ≡ g (eqb (x % 2) 1) (eqb (y % 2) 1)
bits f g none right left both x y = ⊎_elim low high (bit-two x)
  where
    low : x % 2 ≡ 0 → eqb (f (x % 2) (y % 2)) 1 ≡ g (eqb (x % 2) 1) (eqb (y % 2) 1)
    low e = ⊎_elim (λ (z : y % 2 ≡ 0). rw (e, z) none) (λ (o : y % 2 ≡ 1). rw (e, o) right) (bit-two y)

    high : x % 2 ≡ 1 → eqb (f (x % 2) (y % 2)) 1 ≡ g (eqb (x % 2) 1) (eqb (y % 2) 1)
    high e = ⊎_elim (λ (z : y % 2 ≡ 0). rw (e, z) left) (λ (o : y % 2 ≡ 1). rw (e, o) both) (bit-two y)

module _ (a b i : ℕ) where
  pub mark-or : mark (bit_or a b) i ≡ (mark a i || mark b i)
  unfolding mark
  mark-or =
      rw (or_shr a b i, or_mod (a / 2 ^ i) (b / 2 ^ i) 1)
      (bits bit_or (λ x y. x || y) refl refl refl refl (a / 2 ^ i) (b / 2 ^ i))

  pub mark-and : mark (bit_and a b) i ≡ (mark a i && mark b i)
  unfolding mark
  mark-and =
      rw (and_shr a b i, and_mod (a / 2 ^ i) (b / 2 ^ i) 1)
      (bits bit_and (λ x y. x && y) refl refl refl refl (a / 2 ^ i) (b / 2 ^ i))

-- the inverted word
pub mark-not : (width m i : ℕ) → m < 2 ^ width → i < width → mark (2 ^ width - 1 - m) i ≡ not (mark m i)
mark-not zero m i h l = absurd (omega arith)
mark-not (suc k) m zero h l =
    let p : 2 ^ suc k ≡ 2 * 2 ^ k = pow-succ' 2 k in
    rw (mark-zero (2 ^ suc k - 1 - m), mark-zero m) (⊎_elim
    (λ (z : m % 2 ≡ 0). let o : (2 ^ suc k - 1 - m) % 2 ≡ 1 = omega arith in rw (o, z))
    (λ (o : m % 2 ≡ 1). let z : (2 ^ suc k - 1 - m) % 2 ≡ 0 = omega arith in rw (z, o))
    (bit-two m))
mark-not (suc k) m (suc i) h l =
    let p : 2 ^ suc k ≡ 2 * 2 ^ k = pow-succ' 2 k in
    let half : (2 ^ suc k - 1 - m) / 2 ≡ 2 ^ k - 1 - m / 2 = omega arith in
    mark-suc (2 ^ suc k - 1 - m) i ∙ rw (half, mark-suc m i) (mark-not k (m / 2) i (omega arith) (omega arith))

-- ---- runs of marks

-- a word is that of a test where it answers the test mark by mark
pub marks-are : (width m : ℕ) (p : ℕ → Bool) → m < 2 ^ width → ((i : ℕ) → i < width → mark m i ≡ p i)
    → m ≡ marks_of width p
marks-are width m p h same =
    mark-ext width m (marks_of width p) h (marks_of-lt width p) (λ i l. same i l ∙ sym (mark-marks_of width p i l))

-- words of tests that answer alike are one
pub marks-same : (width : ℕ) (p q : ℕ → Bool) → ((i : ℕ) → i < width → p i ≡ q i) → marks_of width p ≡ marks_of width q
marks-same width p q same =
    marks-are width (marks_of width p) q (marks_of-lt width p) (λ i l. mark-marks_of width p i l ∙ same i l)

-- answers past n that are all no need not be asked
pub marks-cut : (width n : ℕ) (p : ℕ → Bool) → n ≤ width → ((i : ℕ) → n ≤ i → p i ≡ false)
    → marks_of n p ≡ marks_of width p
marks-cut width n p h none =
    marks-are width (marks_of n p) p (lt_of_lt_of_le (marks_of-lt n p) (pow_mono h)) (λ i l. go i (dec_lt i n))
  where
    go : (i : ℕ) → Dec (i < n) → mark (marks_of n p) i ≡ p i
    go i (yes k) = mark-marks_of n p i k
    go i (no k) = mark-marks_of-beyond n p i (omega arith) ∙ sym (none i (omega arith))

-- a word of no marks has no run
pub zero-run : (width : ℕ) → trailing_ones width 0 ≡ 0
unfolding trailing_ones
zero-run width = leading-is (mark 0) width 0 (omega arith) (λ i h. absurd (omega arith)) (λ h. mark-of-zero 0)

module _ (width : ℕ) where
  pub mark-below : (end i : ℕ) → i < width → mark (marks_below width end) i ≡ ltb i end
  unfolding marks_below
  mark-below end i l = mark-marks_of width (λ i. ltb i end) i l

  pub mark-between : (start end i : ℕ) → i < width → mark (marks_between width start end) i ≡ (leb start i && ltb i end)
  unfolding marks_between
  mark-between start end i l = mark-marks_of width (λ i. leb start i && ltb i end) i l

  pub below-lt : (end : ℕ) → marks_below width end < 2 ^ width
  unfolding marks_below
  below-lt end = marks_of-lt width (λ i. ltb i end)

  pub between-lt : (start end : ℕ) → marks_between width start end < 2 ^ width
  unfolding marks_between
  between-lt start end = marks_of-lt width (λ i. leb start i && ltb i end)

-- all marks of a word
ones : (n : ℕ) → marks_of n (λ i. true) ≡ 2 ^ n - 1
unfolding marks_of
ones zero = refl
ones (suc n) = rw (ones n) (omega (arith, pow-succ' 2 n, pow_pos n))

-- the word 1, shifted within the width
pub shl_one : (width end : ℕ) → end < width → 1 * 2 ^ end % 2 ^ width ≡ 2 ^ end
shl_one width end h = rw (one-mul (2 ^ end)) (mod-eq_of_lt (pow-lt h))

-- the first n marks are 2 ^ n - 1
pub below-is : (width end : ℕ) → end ≤ width → 2 ^ end - 1 ≡ marks_below width end
unfolding marks_below
below-is width end h =
    sym (ones end)
    ∙ marks-are width (marks_of end (λ i. true)) (λ i. ltb i end)
    (lt_of_lt_of_le (marks_of-lt end (λ i. true)) (pow_mono h))
    (λ i l. go i (dec_lt i end))
  where
    go : (i : ℕ) → Dec (i < end) → mark (marks_of end (λ i. true)) i ≡ ltb i end
    go i (yes k) = mark-marks_of end (λ i. true) i k ∙ sym (lt-ltb i end k)
    go i (no k) = mark-marks_of-beyond end (λ i. true) i (omega arith) ∙ sym (le-ltb i end (omega arith))

-- and more marks than the word has are all of them
pub below_all : (width end : ℕ) → width ≤ end → 2 ^ width - 1 ≡ marks_below width end
unfolding marks_below
below_all width end h =
    sym (ones width) ∙ marks-same width (λ i. true) (λ i. ltb i end) (λ i l. sym (lt-ltb i end (omega arith)))

-- a run is what lies below its end and not below its start
pub between_is : (width start end : ℕ)
    → bit_and (marks_below width end) (2 ^ width - 1 - marks_below width start) ≡ marks_between width start end
unfolding marks_between
between_is width start end =
    marks-are width (bit_and upper (2 ^ width - 1 - lower)) (λ i. leb start i && ltb i end)
    (and_lt width upper (2 ^ width - 1 - lower) (below-lt width end) (omega (arith, pow_pos width)))
    (λ i l.
    mark-and upper (2 ^ width - 1 - lower) i
    ∙ rw (mark-below width end i l, mark-not width lower i (below-lt width start) l, mark-below width start i l)
    (go i (dec_lt i start)))
  where
    upper : ℕ
    upper = marks_below width end

    lower : ℕ
    lower = marks_below width start

    go : (i : ℕ) → Dec (i < start) → (ltb i end && not (ltb i start)) ≡ (leb start i && ltb i end)
    go i (yes k) = rw (lt-ltb i start k, lt-leb start i k) (and-false (ltb i end))
    go i (no k) = rw (le-ltb i start (omega arith), le-leb start i (omega arith)) (and-true (ltb i end))

-- ---- what the methods of words rest on, in the form in which a goal names it

module _ (width : ℕ) where
  pub with_mark-or : (m i : ℕ) → i < width → with_mark width m i ≡ bit_or m (1 * 2 ^ i % 2 ^ width)
  with_mark-or m i h = sym (or-shl width m i h)

  pub below-shl : (end : ℕ) → end < width → marks_below width end ≡ 1 * 2 ^ end % 2 ^ width - 1
  below-shl end h = sym (rw (shl_one width end h) (below-is width end (omega arith)))

pub shift_past_32 : (m k : ℕ) → m < 2 ^ 32 → 32 ≤ k → m / 2 ^ k ≡ 0
shift_past_32 = shift_past 32

pub shift_past_64 : (m k : ℕ) → m < 2 ^ 64 → 64 ≤ k → m / 2 ^ k ≡ 0
shift_past_64 = shift_past 64

pub ruleset words = (
  with_mark-or,
  with_mark-past,
  shift_past_32,
  shift_past_64,
  ones-trailing,
  below-shl,
  below_all,
  between_is,
)
