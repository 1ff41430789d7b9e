-- Numbers in decimal: the kit's digits are these, they read back as the number, and 64 bits take at most 20 of them.
-- Assumes nothing.
use Rattle.std.proofs.Common.{◌≡◌, ℕ, zero, suc, ◌+◌, ◌-◌, ◌*◌, ◌/◌, ◌%◌, ◌^◌, ◌<◌, ◌≤◌, List, [], ◌∷◌, ◌++◌, length, refl, mod-eq_of_lt, arith, length-append, pow-add, le-ltb, lt-ltb}
use native.Mathlib.Nat.{pow-succ'}
use native.Mathlib.Decide.{dec_le}
use Rattle.io.specs.Digits.{last_digits}
use Rattle.replay_text.specs.Decimal.{at_most, decimal}

ten-pos : (k : ℕ) → 0 < 10 ^ k
ten-pos zero = omega arith
ten-pos (suc k) = omega (arith, pow-succ' 10 k, ten-pos k)

ten-above : (k : ℕ) → k < 10 ^ k
ten-above zero = omega arith
ten-above (suc k) = omega (arith, pow-succ' 10 k, ten-above k)

-- the fewest digits that hold n are the digits of n
fewest : (k m n : ℕ) → n < 10 ^ suc k → (1 < suc k → 10 ^ k ≤ n) → suc k ≤ m → last_digits 10 (suc k) n ≡ at_most m n
unfolding at_most
fewest k zero n h l w = absurd (omega arith)
fewest zero (suc m) n h l w =
    let low : n < 10 = omega (arith, pow-succ' 10 0) in
    rw (mod-eq_of_lt low, lt-ltb n 10 low)
fewest (suc k) (suc m) n h l w =
    let p : 0 < 10 ^ k = ten-pos k in
    let s : 10 ^ suc k ≡ 10 * 10 ^ k = omega (arith, pow-succ' 10 k) in
    let high : 10 ^ suc k ≤ n = l (omega arith) in
    let ih = fewest k m (n / 10) (omega (arith, pow-succ' 10 (suc k))) (λ (q : 1 < suc k). omega arith) (omega arith) in
    rw (le-ltb n 10 (omega arith), lt-ltb (n % 10) 10 (omega arith), ih)

pub decimal-is : (k n : ℕ) → 1 ≤ k → n < 10 ^ k → (1 < k → 10 ^ (k - 1) ≤ n) → last_digits 10 k n ≡ decimal n
unfolding decimal
decimal-is zero n p h l = absurd (omega arith)
decimal-is (suc k) n p h l = fewest k (suc n) n h at_least (few k at_least)
  where
    at_least : 1 < suc k → 10 ^ k ≤ n
    at_least q =
        let e : suc k - 1 ≡ k = omega arith in
        rw e at (l q)

    few : (j : ℕ) → (1 < suc j → 10 ^ j ≤ n) → suc j ≤ suc n
    few zero m = omega arith
    few (suc j) m = omega (arith, ten-above (suc j), m (omega arith))

-- read back, the digits are the number
unfoldable pub read_back : ℕ → List ℕ → ℕ
read_back n [] = n
read_back n (c ∷ cs) = read_back (n * 10 + (c - 48)) cs

read-last : (cs : List ℕ) (n c : ℕ) → read_back n (cs ++ c ∷ []) ≡ read_back n cs * 10 + (c - 48)
unfolding read_back
read-last [] n c = refl
read-last (x ∷ cs) n c = read-last cs (n * 10 + (x - 48)) c

read-most : (k n : ℕ) → n < 10 ^ k → 0 < k → read_back 0 (at_most k n) ≡ n
unfolding at_most read_back
read-most zero n h p = absurd (omega arith)
read-most (suc k) n h p = go (dec_le 10 n) (λ (q : n / 10 < 10 ^ k) r. read-most k (n / 10) q r)
  where
    go : Dec (10 ≤ n) → (n / 10 < 10 ^ k → 0 < k → read_back 0 (at_most k (n / 10)) ≡ n / 10)
        → read_back 0 (at_most (suc k) n) ≡ n
    go (no q) ih = rw (lt-ltb n 10 (omega arith)) (omega arith)
    go (yes q) ih =
        let more : 0 < k = some_left k h in
        let i = ih (omega (arith, pow-succ' 10 k)) more in
        rw (le-ltb n 10 q, read-last (at_most k (n / 10)) 0 (48 + n % 10), i) (omega arith)
      where
        some_left : (j : ℕ) → n < 10 ^ suc j → 0 < j
        some_left zero l = absurd (omega (arith, pow-succ' 10 0))
        some_left (suc j) l = omega arith

pub decimal-reads : (n : ℕ) → read_back 0 (decimal n) ≡ n
unfolding decimal
decimal-reads n = read-most (suc n) n (omega (arith, ten-above (suc n))) (omega arith)

-- a number of 64 bits has at most 20
length_most : (m k n : ℕ) → n < 10 ^ k → 0 < k → length (at_most m n) ≤ k
unfolding at_most
length_most zero k n h p = omega arith
length_most (suc m) zero n h p = absurd (omega arith)
length_most (suc m) (suc k) n h p = go (dec_le 10 n) (λ (q : n / 10 < 10 ^ k) r. length_most m k (n / 10) q r)
  where
    some_left : (j : ℕ) → 10 ≤ n → n < 10 ^ suc j → 0 < j
    some_left zero q l = absurd (omega (arith, pow-succ' 10 0))
    some_left (suc j) q l = omega arith

    go : Dec (10 ≤ n) → (n / 10 < 10 ^ k → 0 < k → length (at_most m (n / 10)) ≤ k) → length (at_most (suc m) n) ≤ suc k
    go (no q) ih = rw (lt-ltb n 10 (omega arith)) (omega arith)
    go (yes q) ih =
        let i = ih (omega (arith, pow-succ' 10 k)) (some_left k q h) in
        rw (le-ltb n 10 q, length-append (at_most m (n / 10)) ((48 + n % 10) ∷ [])) (omega (arith, i))

pub length-decimal : (n : ℕ) → n < 2 ^ 64 → length (decimal n) ≤ 20
unfolding decimal
length-decimal n h = length_most (suc n) 20 n (omega arith) (omega arith)

pub few-digits : (k n : ℕ) → n < 2 ^ 64 → (1 < k → 10 ^ (k - 1) ≤ n) → k ≤ 20
few-digits k n h l = go (dec_le k 20)
  where
    go : Dec (k ≤ 20) → k ≤ 20
    go (yes q) = q
    go (no q) =
        let e : k - 1 ≡ 20 + (k - 21) = omega arith in
        let m : 10 ^ (20 + (k - 21)) ≤ n = rw e at (l (omega arith)) in
        absurd (omega (arith, pow-add 10 20 (k - 21), ten-pos (k - 21)))
