-- The laws of marks in words, for words of any width: runs of tests that pass, marks as bits, setting a mark, and a
-- window of marks that moves on.
-- Assumes nothing.
use Prim.Native.Nat.{ℕ, zero, suc, ◌+◌, ◌-◌, ◌*◌, ◌^◌, ◌/◌, ◌%◌, ◌≤◌, ◌<◌, zero-le}
use native.Mathlib.Nat.{
  add-zero,
  not-suc-le-zero,
  le_refl,
  lt_of_lt_of_le,
  mod-eq_of_lt,
  div-eq_of_lt,
  div_self,
  div-one,
  div-le_self,
}
use native.Mathlib.Nat.{div-div-eq-div-mul, mul-div_cancel, one-mul, pow-suc, pow-succ'}
use native.Mathlib.Numerals.{add-one}
use native.Mathlib.Decide.{dec_le, dec_lt}
use native.Mathlib.Omega.{arith}
use mathlib.Core.Path.{◌≡◌, refl, sym, ap, ◌∙◌}
use mathlib.Core.Logic.{◌⊎◌, inl, inr, ⊎_elim}
use mathlib.Core.Bool.{Bool, true, false, cond, true≢false}
use borrow.Author.Tests.{lt-ltb, le-ltb, eq-eqb, ne_eqb}
use lib.Dec.{eqb, ltb}
use lib.Bits.{bit_and, bit_or, and_high, or_add_and, or_lt, or_shr, or_mod, or_zero_r}
use lib.Count.{count_trailing_zeros}
use lib.Pow.{pow_pos, pow_mono, pow-lt, pow-add, shr-shr}
use Rattle.bitmap.specs.Marks.{mark, with_mark, leading, trailing_ones, marks_of}

-- The definitions at work, by computation: 23 is 10111 in binary, so it has the marks 0, 1, 2 and 4.
pub edges : (mark 23 2 ≡ true) × (mark 23 3 ≡ false) × (mark 23 64 ≡ false)
    × (with_mark 8 23 3 ≡ 31) × (with_mark 8 23 4 ≡ 23) × (with_mark 8 23 8 ≡ 23)
    × (trailing_ones 8 23 ≡ 3) × (trailing_ones 2 23 ≡ 2) × (trailing_ones 8 22 ≡ 0) × (marks_of 8 (mark 23) ≡ 23)
unfolding mark with_mark trailing_ones leading marks_of
edges = (refl, refl, refl, refl, refl, refl, refl, refl, refl, refl)

-- ---- a run of tests that pass

pub leading_le : (p : ℕ → Bool) (n : ℕ) → leading p n ≤ n
unfolding leading
leading_le p zero = omega arith
leading_le p (suc n) = go (p 0) (leading_le (λ i. p (suc i)) n)
  where
    go : (b : Bool) {k : ℕ} → k ≤ n → cond b (suc k) 0 ≤ suc n
    go true h = omega arith
    go false h = omega arith

pub leading-holds : (p : ℕ → Bool) (n i : ℕ) → i < leading p n → p i ≡ true
unfolding leading
leading-holds p zero i h = absurd (not-suc-le-zero h)
leading-holds p (suc n) i h = go (leading-holds (λ j. p (suc j)) n) i (p 0) refl h
  where
    go : {r : ℕ} → ((k : ℕ) → k < r → p (suc k) ≡ true) → (i : ℕ) (b : Bool) → p 0 ≡ b → i < cond b (suc r) 0
        → p i ≡ true
    go ih zero true e h = e
    go ih (suc i) true e h = ih i (omega arith)
    go ih i false e h = absurd (not-suc-le-zero h)

pub leading-stops : (p : ℕ → Bool) (n : ℕ) → leading p n < n → p (leading p n) ≡ false
unfolding leading
leading-stops p zero h = absurd (not-suc-le-zero h)
leading-stops p (suc n) h = go (leading-stops (λ j. p (suc j)) n) (p 0) refl h
  where
    go : {r : ℕ} → (r < n → p (suc r) ≡ false) → (b : Bool) → p 0 ≡ b → cond b (suc r) 0 < suc n
        → p (cond b (suc r) 0) ≡ false
    go ih true e h = ih (omega arith)
    go ih false e h = e

pub leading-ge : (p : ℕ → Bool) (n r : ℕ) → r ≤ n → ((i : ℕ) → i < r → p i ≡ true) → r ≤ leading p n
leading-ge p n r h all = go (dec_le r (leading p n))
  where
    go : Dec (r ≤ leading p n) → r ≤ leading p n
    go (yes q) = q
    go (no q) = absurd (true≢false (sym (all (leading p n) (omega arith)) ∙ leading-stops p n (omega arith)))

-- one that fails stands at or behind the first that fails
pub leading-fails : (p : ℕ → Bool) (n i : ℕ) → p i ≡ false → leading p n ≤ i
leading-fails p n i f = go (dec_le (leading p n) i)
  where
    go : Dec (leading p n ≤ i) → leading p n ≤ i
    go (yes q) = q
    go (no q) = absurd (true≢false (sym (leading-holds p n i (omega arith)) ∙ f))

pub leading-is : (p : ℕ → Bool) (n r : ℕ) → r ≤ n → ((i : ℕ) → i < r → p i ≡ true) → (r < n → p r ≡ false)
    → leading p n ≡ r
leading-is p n r h all stop = go (leading-ge p n r h all) (leading_le p n) (dec_lt r n)
  where
    go : r ≤ leading p n → leading p n ≤ n → Dec (r < n) → leading p n ≡ r
    go least most (yes q) = omega (arith, leading-fails p n r (stop q))
    go least most (no q) = omega arith

-- what holds more holds longer
pub leading-mono : (p q : ℕ → Bool) (n m : ℕ) → n ≤ m → ((i : ℕ) → i < n → p i ≡ true → q i ≡ true)
    → leading p n ≤ leading q m
leading-mono p q n m h imp =
    let l : leading p n ≤ n = leading_le p n in
    leading-ge q m (leading p n) (omega arith) (λ i k. imp i (omega arith) (leading-holds p n i k))

-- tests that answer alike have runs of one length
pub leading-same : (p q : ℕ → Bool) (n : ℕ) → ((i : ℕ) → i < n → p i ≡ q i) → leading p n ≡ leading q n
leading-same p q n e =
    let up : leading p n ≤ leading q n = leading-mono p q n n (le_refl n) (λ i h t. sym (e i h) ∙ t) in
    let down : leading q n ≤ leading p n = leading-mono q p n n (le_refl n) (λ i h t. e i h ∙ t) in
    omega arith

-- ---- marks as bits

pub bit-two : (x : ℕ) → (x % 2 ≡ 0) ⊎ (x % 2 ≡ 1)
bit-two x = go (x % 2) (omega arith)
  where
    go : (r : ℕ) → r < 2 → (r ≡ 0) ⊎ (r ≡ 1)
    go zero h = inl refl
    go (suc zero) h = inr refl
    go (suc (suc r)) h = absurd (omega arith)

-- the lowest mark is the number's last bit, and the others are those of half the number
pub mark-zero : (m : ℕ) → mark m 0 ≡ eqb (m % 2) 1
unfolding mark
mark-zero m = ap (λ (n : ℕ). eqb (n % 2) 1) (div-one m)

pub mark-suc : (m i : ℕ) → mark m (suc i) ≡ mark (m / 2) i
unfolding mark
mark-suc m i = rw (pow-succ' 2 i, div-div-eq-div-mul m 2 (2 ^ i))

pub mark-shift : (m k i : ℕ) → mark (m / 2 ^ k) i ≡ mark m (k + i)
unfolding mark
mark-shift m k i = ap (λ (x : ℕ). eqb (x % 2) 1) (shr-shr m k i)

-- a word holds nothing past its width
pub shift_past : (width m k : ℕ) → m < 2 ^ width → width ≤ k → m / 2 ^ k ≡ 0
shift_past width m k h l = div-eq_of_lt (lt_of_lt_of_le h (pow_mono l))

pub mark-past : (width m i : ℕ) → m < 2 ^ width → width ≤ i → mark m i ≡ false
unfolding mark
mark-past width m i h l = rw (shift_past width m i h l)

pub mark-of-zero : (i : ℕ) → mark 0 i ≡ false
mark-of-zero i = mark-past 0 0 i (pow_pos 0) zero-le

-- ---- a word is what its marks are

half : (b : Bool) (x : ℕ) → (cond b 1 0 + 2 * x) / 2 ≡ x
half true x = omega arith
half false x = omega arith

low : (b : Bool) (x : ℕ) → eqb ((cond b 1 0 + 2 * x) % 2) 1 ≡ b
low true x = eq-eqb ((1 + 2 * x) % 2) 1 (omega arith)
low false x = ne_eqb ((0 + 2 * x) % 2) 1 (omega arith)

pub mark-marks_of : (n : ℕ) (p : ℕ → Bool) (i : ℕ) → i < n → mark (marks_of n p) i ≡ p i
unfolding marks_of
mark-marks_of zero p i h = absurd (not-suc-le-zero h)
mark-marks_of (suc n) p zero h = mark-zero _ ∙ low (p 0) (marks_of n (λ i. p (suc i)))
mark-marks_of (suc n) p (suc i) h =
    mark-suc _ i
    ∙ ap (λ (k : ℕ). mark k i) (half (p 0) (marks_of n (λ i. p (suc i))))
    ∙ mark-marks_of n (λ i. p (suc i)) i (omega arith)

pub marks_of-lt : (n : ℕ) (p : ℕ → Bool) → marks_of n p < 2 ^ n
unfolding marks_of
marks_of-lt zero p = omega arith
marks_of-lt (suc n) p = go (p 0) (marks_of-lt n (λ i. p (suc i)))
  where
    go : (b : Bool) {x : ℕ} → x < 2 ^ n → cond b 1 0 + 2 * x < 2 ^ suc n
    go true h = omega (arith, pow-succ' 2 n)
    go false h = omega (arith, pow-succ' 2 n)

pub mark-marks_of-beyond : (n : ℕ) (p : ℕ → Bool) (i : ℕ) → n ≤ i → mark (marks_of n p) i ≡ false
mark-marks_of-beyond n p i h = mark-past n (marks_of n p) i (marks_of-lt n p) h

-- a number's last bit, by its lowest mark
last_bit : (m : ℕ) → m % 2 ≡ cond (mark m 0) 1 0
last_bit m = rw (mark-zero m) (⊎_elim (λ z. rw z) (λ o. rw o) (bit-two m))

pub mark-ext : (n a b : ℕ) → a < 2 ^ n → b < 2 ^ n → ((i : ℕ) → i < n → mark a i ≡ mark b i) → a ≡ b
mark-ext zero a b h k same = omega arith
mark-ext (suc n) a b h k same =
    let p : 2 ^ suc n ≡ 2 * 2 ^ n = pow-succ' 2 n in
    let rest : a / 2 ≡ b / 2 = mark-ext n (a / 2) (b / 2) (omega arith) (omega arith) others in
    let last : a % 2 ≡ b % 2 = last_bit a ∙ rw (same 0 (omega arith)) (sym (last_bit b)) in
    omega arith
  where
    others : (i : ℕ) → i < n → mark (a / 2) i ≡ mark (b / 2) i
    others i l = sym (mark-suc a i) ∙ same (suc i) (omega arith) ∙ mark-suc b i

-- ---- setting a mark

pub with_mark-set : (width m i : ℕ) → mark m i ≡ true → with_mark width m i ≡ m
unfolding with_mark
with_mark-set width m i e = rw e (go (ltb i width))
  where
    go : (b : Bool) → cond b m m ≡ m
    go true = refl
    go false = refl

pub with_mark-clear : (width m i : ℕ) → i < width → mark m i ≡ false → with_mark width m i ≡ m + 2 ^ i
unfolding with_mark
with_mark-clear width m i h e = rw (lt-ltb i width h, e)

pub with_mark-past : (width m i : ℕ) → width ≤ i → with_mark width m i ≡ m
unfolding with_mark
with_mark-past width m i h = rw (le-ltb i width h)

-- 2 ^ i as a mask takes bit i
and-bit : (m i : ℕ) → bit_and m (2 ^ i) ≡ m / 2 ^ i % 2 * 2 ^ i
and-bit m i =
    let e : 2 ^ (1 + i) - 2 ^ i ≡ 2 ^ i = omega (arith, pow-add 2 1 i) in
    ap (bit_and m) (sym e) ∙ and_high m 1 i

-- a mark is set by the bit 2 ^ i
pub or-bit : (width m i : ℕ) → i < width → bit_or m (2 ^ i) ≡ with_mark width m i
unfolding mark
or-bit width m i h = ⊎_elim clear marked (bit-two (m / 2 ^ i))
  where
    clear : m / 2 ^ i % 2 ≡ 0 → bit_or m (2 ^ i) ≡ with_mark width m i
    clear z =
        let a : bit_and m (2 ^ i) ≡ 0 * 2 ^ i = and-bit m i ∙ ap (λ (x : ℕ). x * 2 ^ i) z in
        omega (arith, or_add_and m (2 ^ i), with_mark-clear width m i h (ne_eqb (m / 2 ^ i % 2) 1 (omega arith)))

    marked : m / 2 ^ i % 2 ≡ 1 → bit_or m (2 ^ i) ≡ with_mark width m i
    marked o =
        let a : bit_and m (2 ^ i) ≡ 1 * 2 ^ i = and-bit m i ∙ ap (λ (x : ℕ). x * 2 ^ i) o in
        omega (arith, or_add_and m (2 ^ i), with_mark-set width m i (eq-eqb _ 1 o))

-- the same of the word 1, shifted by i within the width
pub or-shl : (width m i : ℕ) → i < width → bit_or m (1 * 2 ^ i % 2 ^ width) ≡ with_mark width m i
or-shl width m i h = rw (one-mul (2 ^ i), mod-eq_of_lt (pow-lt h)) (or-bit width m i h)

pub with_mark-lt : (width m i : ℕ) → m < 2 ^ width → with_mark width m i < 2 ^ width
with_mark-lt width m i h = go (dec_lt i width)
  where
    go : Dec (i < width) → with_mark width m i < 2 ^ width
    go (yes l) = rw (← or-bit width m i l) (or_lt width m (2 ^ i) h (pow-lt l))
    go (no l) = rw (with_mark-past width m i (omega arith)) h

-- mark j after mark i was set, by the bit j of 2 ^ i
mark-after : (width m i j : ℕ) → i < width
    → mark (with_mark width m i) j ≡ eqb (bit_or (m / 2 ^ j % 2) (2 ^ i / 2 ^ j % 2)) 1
unfolding mark
mark-after width m i j h =
    rw (← or-bit width m i h, or_shr m (2 ^ i) j, or_mod (m / 2 ^ j) (2 ^ i / 2 ^ j) 1)

or-one : (a : ℕ) → bit_or (a % 2) 1 ≡ 1
or-one a = ⊎_elim (λ z. rw z) (λ o. rw o) (bit-two a)

-- 2 ^ i has no other bit than i
other-bit : (i j : ℕ) → (j ≡ i → ⊥) → 2 ^ i / 2 ^ j % 2 ≡ 0
other-bit i j ne = go (dec_lt i j)
  where
    go : Dec (i < j) → 2 ^ i / 2 ^ j % 2 ≡ 0
    go (yes h) = rw (div-eq_of_lt (pow-lt h))
    go (no h) =
        let e : i ≡ suc (i - suc j) + j = omega arith in
        let p : 2 ^ i ≡ 2 ^ suc (i - suc j) * 2 ^ j = ap (λ (n : ℕ). 2 ^ n) e ∙ pow-add 2 (suc (i - suc j)) j in
        rw (p, mul-div_cancel (2 ^ suc (i - suc j)) (pow_pos j), pow-suc 2 (i - suc j)) (omega arith)

pub mark-same : (width m i : ℕ) → i < width → mark (with_mark width m i) i ≡ true
mark-same width m i h = mark-after width m i i h ∙ rw (div_self (pow_pos i), or-one (m / 2 ^ i))

pub mark-other : (width m i j : ℕ) → (j ≡ i → ⊥) → mark (with_mark width m i) j ≡ mark m j
unfolding mark
mark-other width m i j ne = go (dec_lt i width)
  where
    go : Dec (i < width) → mark (with_mark width m i) j ≡ mark m j
    go (yes h) = mark-after width m i j h ∙ rw (other-bit i j ne, or_zero_r (m / 2 ^ j % 2))
    go (no h) = rw (with_mark-past width m i (omega arith))

-- ---- the run of set marks

-- The run of set marks is as long as the run of zeros that the inverted word ends with.
pub ones-trailing : (k m : ℕ) → m < 2 ^ k → count_trailing_zeros k (2 ^ k - 1 - m) ≡ trailing_ones k m
unfolding count_trailing_zeros trailing_ones leading
ones-trailing zero m h = refl
ones-trailing (suc k) m h =
    let p : 2 ^ suc k ≡ 2 * 2 ^ k = pow-succ' 2 k in
    let rest : (2 ^ suc k - 1 - m) / 2 ≡ 2 ^ k - 1 - m / 2 = omega arith in
    let same = leading-same (λ i. mark m (suc i)) (mark (m / 2)) k (λ i h. mark-suc m i) in
    let ih : count_trailing_zeros k (2 ^ k - 1 - m / 2) ≡ leading (mark (m / 2)) k = ones-trailing k (m / 2) (omega arith) in
    rw (rest, same, mark-zero m) (⊎_elim
    (λ z. let last : (2 ^ suc k - 1 - m) % 2 ≡ 1 = omega arith in rw (last, ne_eqb (m % 2) 1 (omega arith)))
    (λ o. let last : (2 ^ suc k - 1 - m) % 2 ≡ 0 = omega arith in rw (last, eq-eqb (m % 2) 1 o) (ap suc ih))
    (bit-two m))

-- ---- building a word mark by mark

-- a word of the first n answers, with one answer more
marks_of-more : (n : ℕ) (p : ℕ → Bool) → marks_of (suc n) p ≡ marks_of n p + cond (p n) (2 ^ n) 0
unfolding marks_of
marks_of-more zero p = go (p 0)
  where
    go : (b : Bool) → cond b 1 0 + 2 * 0 ≡ 0 + cond b (2 ^ 0) 0
    go true = refl
    go false = refl
marks_of-more (suc n) p =
    rw (marks_of-more n (λ i. p (suc i))) (go (p (suc n)) (marks_of n (λ i. p (suc i))) (cond (p 0) 1 0))
  where
    go : (b : Bool) (x l : ℕ) → l + 2 * (x + cond b (2 ^ n) 0) ≡ l + 2 * x + cond b (2 ^ suc n) 0
    go true x l = omega (arith, pow-succ' 2 n)
    go false x l = omega arith

marks_of-yes : (width n : ℕ) (p : ℕ → Bool) → n < width → p n ≡ true → with_mark width (marks_of n p) n ≡ marks_of (suc n) p
marks_of-yes width n p h e =
    with_mark-clear width (marks_of n p) n h (mark-marks_of-beyond n p n (le_refl n)) ∙ sym (marks_of-more n p ∙ rw e)

marks_of-no : (n : ℕ) (p : ℕ → Bool) → p n ≡ false → marks_of n p ≡ marks_of (suc n) p
marks_of-no n p e = sym (marks_of-more n p ∙ rw e (omega arith))

-- what a loop over the marks of a word of this width has built after n turns
pub record MarkedUpTo (width : ℕ) (p : ℕ → Bool) (n word : ℕ) : Type 0 where
  pub word-is : word ≡ marks_of n p
  pub within : n ≤ width

module _ (width : ℕ) (p : ℕ → Bool) where
  pub none-marked : MarkedUpTo width p 0 0
  unfolding marks_of
  none-marked = record { word-is = refl; within = omega arith }

  pub one_more : {n word : ℕ} (new : ℕ) (passes : Bool) → MarkedUpTo width p n word → n < width → passes ≡ p n
      → new ≡ cond passes (with_mark width word n) word → MarkedUpTo width p (n + 1) new
  one_more {n} {word} new passes m h e q = rw (add-one n) (go passes (sym e) q)
    where
      go : (b : Bool) → p n ≡ b → new ≡ cond b (with_mark width word n) word → MarkedUpTo width p (suc n) new
      go true t r = record {
        word-is = r ∙ ap (λ (k : ℕ). with_mark width k n) m.word-is ∙ marks_of-yes width n p h t;
        within = omega arith;
      }
      go false f r = record { word-is = r ∙ m.word-is ∙ marks_of-no n p f; within = omega arith }

  pub all-marked : {n word : ℕ} → MarkedUpTo width p n word → width ≤ n → word ≡ marks_of width p
  all-marked {n} {word} m h =
      let all : n ≡ width = omega (arith, m.within) in
      m.word-is ∙ ap (λ (k : ℕ). marks_of k p) all

-- ---- runs of marks in a word

-- a run of marks is no longer than its word
pub ones-le : (n m : ℕ) → trailing_ones n m ≤ n
unfolding trailing_ones
ones-le n m = leading_le (mark m) n

-- the run among the first `most` marks, by the run of the whole word
module _ (width m most : ℕ) (fits : m < 2 ^ width) where
  pub ones_cut : most < trailing_ones width m → trailing_ones most m ≡ most
  unfolding trailing_ones
  ones_cut h = leading-is (mark m) most most (le_refl most)
      (λ i l. leading-holds (mark m) width i (omega arith)) (λ l. absurd (not-suc-le-zero {n = 0} (omega arith)))

  pub ones-whole : trailing_ones width m ≤ most → trailing_ones most m ≡ trailing_ones width m
  unfolding trailing_ones
  ones-whole h = leading-is (mark m) most (leading (mark m) width) h (leading-holds (mark m) width)
      (λ l. stop (dec_lt (leading (mark m) width) width))
    where
      stop : Dec (leading (mark m) width < width) → mark m (leading (mark m) width) ≡ false
      stop (yes l) = leading-stops (mark m) width l
      stop (no l) = mark-past width m (leading (mark m) width) fits (omega arith)

-- ---- a word that moves past the marks it starts with

module _ (width word : ℕ) (fits : word < 2 ^ width) where
  pub moved-lt : word / 2 ^ trailing_ones width word < 2 ^ width
  moved-lt = omega (arith, div-le_self word (2 ^ trailing_ones width word))

  -- it starts with a clear one then
  pub moved-clear : mark (word / 2 ^ trailing_ones width word) 0 ≡ false
  unfolding trailing_ones
  moved-clear = mark-shift word run 0 ∙ ap (mark word) (add-zero run) ∙ go (dec_lt run width)
    where
      run : ℕ
      run = trailing_ones width word

      go : Dec (run < width) → mark word run ≡ false
      go (yes h) = leading-stops (mark word) width h
      go (no h) = mark-past width word run fits (omega arith)

-- where no mark is set at or past a count
module _ (width count word : ℕ) (past : (i : ℕ) → count ≤ i → mark word i ≡ false) where
  pub run-most : trailing_ones width word ≤ count
  unfolding trailing_ones
  run-most = leading-fails (mark word) width count (past count (le_refl count))

  pub moved-past : (i : ℕ) → count - trailing_ones width word ≤ i → mark (word / 2 ^ trailing_ones width word) i ≡ false
  moved-past i h =
      mark-shift word (trailing_ones width word) i ∙ past (trailing_ones width word + i) (omega (arith, run-most))

-- ---- a window over a test

-- The marks of a word stand for a test from `low` on, where all below `low` pass. The first that fails is then as far
-- past `low` as the run of set marks is long, and moving the window there is shifting the word by that run.
module _ (p : ℕ → Bool) (n low width m : ℕ) (within : low ≤ n) (fits : n ≤ low + width)
    (below : (i : ℕ) → i < low → p i ≡ true) (marks : (i : ℕ) → mark m i ≡ p (low + i))
    (beyond : (i : ℕ) → n ≤ i → p i ≡ false) where
  pub window-moves : leading p n ≡ low + trailing_ones width m
  unfolding trailing_ones
  window-moves =
      let le : leading (mark m) width ≤ width = leading_le (mark m) width in
      leading-is p n (low + leading (mark m) width) (ends (dec_le (low + leading (mark m) width) n))
      (λ i h. each i h (dec_lt i low))
      (λ h. sym (marks (leading (mark m) width)) ∙ leading-stops (mark m) width (omega arith))
    where
      ends : Dec (low + leading (mark m) width ≤ n) → low + leading (mark m) width ≤ n
      ends (yes h) = h
      ends (no h) =
          let z : low + (n - low) ≡ n = omega arith in
          let t : mark m (n - low) ≡ true = leading-holds (mark m) width (n - low) (omega arith) in
          absurd (true≢false (sym t ∙ marks (n - low) ∙ ap p z ∙ beyond n (le_refl n)))

      each : (i : ℕ) → i < low + leading (mark m) width → Dec (i < low) → p i ≡ true
      each i h (yes k) = below i k
      each i h (no k) =
          let z : low + (i - low) ≡ i = omega arith in
          sym (ap p z) ∙ sym (marks (i - low)) ∙ leading-holds (mark m) width (i - low) (omega arith)

  pub window-marks : (i : ℕ) → mark (m / 2 ^ trailing_ones width m) i ≡ p (leading p n + i)
  window-marks i =
      let z : low + (trailing_ones width m + i) ≡ leading p n + i = omega (arith, window-moves) in
      mark-shift m (trailing_ones width m) i ∙ marks (trailing_ones width m + i) ∙ ap p z
