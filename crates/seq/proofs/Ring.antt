-- The laws of numbers that wrap, in a space of any size w: what the numbers of two counts say about the counts.
-- A count is how many there were so far and never wraps; its number is the count modulo w.
-- Assumes nothing.
use Rattle.std.proofs.Common.{◌≡◌, ℕ, zero, suc, ◌+◌, ◌-◌, ◌*◌, ◌/◌, ◌%◌, ◌<◌, ◌≤◌, Bool, true, false, cond, ◌&&◌, ◌||◌, eqb, ltb, leb, sym, refl, ap, ◌∙◌, not-suc-le-zero, mod-lt, mod-eq_of_lt, add_comm, div-add-mod', arith, ltb-true, le-ltb, lt-ltb, eqb-true, le-leb}
use native.Mathlib.Nat.{mod-add-mod, add-mod-mod, add-mod_right}
use native.Mathlib.Nat.{add-mul-mod_self_right}
use native.Mathlib.Decide.{dec_le, dec_lt}
use borrow.Author.Tests.{eqb-false, lt-leb}
use Rattle.seq.specs.Ring.{frame_space, distance, advance, in_range, latest}

-- Where numbers wrap, by computation: nine frame numbers from 65530 on end with the number 2.
pub edges : (distance frame_space 65530 3 ≡ 9) × (distance frame_space 3 65530 ≡ 65527) × (distance frame_space 3 3 ≡ 0)
    × (advance frame_space 65530 9 ≡ 3) × (in_range frame_space 65530 9 2 ≡ true) × (in_range frame_space 65530 9 3 ≡ false)
    × (latest 8 21 4 ≡ 20) × (latest 8 20 4 ≡ 12) × (latest 8 3 4 ≡ 0)
unfolding distance advance latest
edges = (refl, refl, refl, refl, refl, refl, refl, refl, refl)

module _ (w : ℕ) (pos : 0 < w) where
  -- ---- the distance between the numbers of two counts

  -- b lies k past a, m turns of the ring aside
  pub distance_is : (a b m k : ℕ) → b + m * w ≡ a + k → k < w → distance w (a % w) (b % w) ≡ k
  unfolding distance
  distance_is a b m k e h =
      let r : a % w < w = mod-lt a pos in
      let q : a / w * w + a % w ≡ a = div-add-mod' a w in
      let f : b + (w - a % w) + m * w ≡ k + suc (a / w) * w = omega arith in
      mod-add-mod b w (w - a % w)
      ∙ sym (add-mul-mod_self_right (b + (w - a % w)) m w)
      ∙ ap (λ (n : ℕ). n % w) f
      ∙ add-mul-mod_self_right k (suc (a / w)) w
      ∙ mod-eq_of_lt h

  -- not behind, and less than a turn ahead: the distance is the difference
  pub distance-ahead : (a b : ℕ) → a ≤ b → b < a + w → distance w (a % w) (b % w) ≡ b - a
  distance-ahead a b l h = distance_is a b 0 (b - a) (omega arith) (omega arith)

  -- behind by up to a whole turn
  pub distance-behind : (a b : ℕ) → b < a → a ≤ b + w → distance w (a % w) (b % w) ≡ w - (a - b)
  distance-behind a b l h = distance_is a b 1 (w - (a - b)) (omega arith) (omega arith)

  pub distance-lt : (from to : ℕ) → distance w from to < w
  unfolding distance
  distance-lt from to = mod-lt (to + (w - from)) pos

  -- two counts less than a turn apart with one number are one count
  pub same_count : (a b : ℕ) → a ≤ b → b < a + w → a % w ≡ b % w → a ≡ b
  same_count a b l h e =
      let z : distance w (a % w) (a % w) ≡ a - a = distance-ahead a a (omega arith) (omega arith) in
      let d : distance w (a % w) (b % w) ≡ b - a = distance-ahead a b l h in
      omega (arith, ap (distance w (a % w)) e)

  -- the latest count with a number, where counts less than a turn back are meant
  pub latest-is : (total c : ℕ) → c < total → total ≤ c + w → latest w total (c % w) ≡ c
  unfolding latest
  latest-is zero c l h = absurd (not-suc-le-zero l)
  latest-is (suc t) c l h = go (λ p. latest-is t c p (omega arith)) (eqb (t % w) (c % w)) refl
    where
      go : (c < t → latest w t (c % w) ≡ c) → (x : Bool) → eqb (t % w) (c % w) ≡ x → cond x t (latest w t (c % w)) ≡ c
      go ih true e = sym (same_count c t (omega arith) (omega arith) (sym (eqb-true (t % w) (c % w) e)))
      go ih false e = ih (lower (dec_lt c t))
        where
          lower : Dec (c < t) → c < t
          lower (yes p) = p
          lower (no q) =
              let s : t ≡ c = omega arith in
              absurd (eqb-false (t % w) (c % w) e (ap (λ (k : ℕ). k % w) s))

  -- ---- distance and advance undo each other

  -- What a wrapping subtraction promises, that its answer added back comes to `to`, makes the answer the distance.
  pub distance-unique : (from to r : ℕ) → (r + from) % w ≡ to → r < w → from < w → r ≡ distance w from to
  distance-unique from to r e h l =
      let d : distance w (from % w) ((r + from) % w) ≡ r = distance_is from (r + from) 0 r (omega arith) h in
      sym (rw (mod-eq_of_lt l, e) at d)

  pub distance-advance : (from d : ℕ) → from < w → d < w → distance w from (advance w from d) ≡ d
  unfolding advance
  distance-advance from d l h =
      sym (distance-unique from ((from + d) % w) d (ap (λ (n : ℕ). n % w) (add_comm d from)) h l)

  pub advance-distance : (from to : ℕ) → from < w → to < w → advance w from (distance w from to) ≡ to
  unfolding advance distance
  advance-distance from to l h =
      let e : from + (to + (w - from)) ≡ to + w = omega arith in
      add-mod-mod from (to + (w - from)) w ∙ rw (e, add-mod_right to w) (mod-eq_of_lt h)

  -- ---- a number further on, and a start further on

  -- the number i past `to` is i further
  pub distance-further : (from to i : ℕ) → distance w from (advance w to i) ≡ advance w (distance w from to) i
  unfolding distance advance
  distance-further from to i =
      let e : to + i + (w - from) ≡ to + (w - from) + i = omega arith in
      mod-add-mod (to + i) w (w - from) ∙ ap (λ (n : ℕ). n % w) e ∙ sym (mod-add-mod (to + (w - from)) w i)

  module _ (from to k : ℕ) (fits : from < w) where
    same_number : (a : ℕ) → distance w a to ≡ distance w a ((from + distance w from to) % w)
    unfolding distance
    same_number a =
        let e : from + (to + (w - from)) ≡ to + w = omega arith in
        sym (mod-add-mod to w (w - a))
        ∙ ap (λ (n : ℕ). (n + (w - a)) % w)
        (sym (add-mod-mod from (to + (w - from)) w ∙ ap (λ (n : ℕ). n % w) e ∙ add-mod_right to w))

    -- a start k further on, that does not pass `to`, is nearer to it by k
    pub distance-nearer : k ≤ distance w from to → distance w (advance w from k) to ≡ distance w from to - k
    unfolding advance
    distance-nearer h =
        let d : distance w from to < w = distance-lt from to in
        same_number ((from + k) % w)
        ∙ distance-ahead (from + k) (from + distance w from to) (omega arith) (omega arith) ∙ omega arith

    -- and one that passes it has it behind
    pub distance-passed : distance w from to < k → k ≤ w
        → distance w (advance w from k) to ≡ w - (k - distance w from to)
    unfolding advance
    distance-passed h m =
        same_number ((from + k) % w)
        ∙ distance-behind (from + k) (from + distance w from to) (omega arith) (omega arith) ∙ omega arith

  -- ---- ranges of numbers

  -- the i-th number from the start on is in the range
  pub in-range : (start count i : ℕ) → start < w → count ≤ w → i < count
      → in_range w start count (advance w start i) ≡ true
  in-range start count i l h k = rw (distance-advance start i l (omega arith)) (lt-ltb i count k)

  -- and there is no other: a number in the range is the start, advanced by its distance, which is below the count
  pub range-in : (start count n : ℕ) → start < w → n < w → in_range w start count n ≡ true
      → (distance w start n < count) × (n ≡ advance w start (distance w start n))
  range-in start count n l h e = (ltb-true _ _ e, sym (advance-distance start n l h))

  -- The i-th number from `base` on is in a range that starts d past `base`: it lies in the run of `count` from d on, or
  -- in what of that run wraps to `base`.
  pub range-from : (base start count i : ℕ) → base < w → start < w → count ≤ w → i < w
      → in_range w start count (advance w base i)
      ≡ ((leb (distance w base start) i && ltb i (distance w base start + count))
      || ltb (i + w) (distance w base start + count))
  unfolding advance
  range-from base start count i b s c h = go (dec_le d i)
    where
      d : ℕ
      d = distance w base start

      d-low : d < w
      d-low = distance-lt base start

      start_is : start ≡ (base + d) % w
      start_is = sym (advance-distance base start b s)

      -- how far the number lies past the start
      away : (m k : ℕ) → base + i + m * w ≡ base + d + k → k < w → distance w start ((base + i) % w) ≡ k
      away m k e l = ap (λ (n : ℕ). distance w n ((base + i) % w)) start_is ∙ distance_is (base + d) (base + i) m k e l

      test : (a n : ℕ) → ltb a count ≡ ltb (a + n) (n + count)
      test a n = which (dec_lt a count)
        where
          which : Dec (a < count) → ltb a count ≡ ltb (a + n) (n + count)
          which (yes l) = rw (lt-ltb a count l, lt-ltb (a + n) (n + count) (omega arith))
          which (no l) = rw (le-ltb a count (omega arith), le-ltb (a + n) (n + count) (omega arith))

      or-false : (x : Bool) → x ≡ (x || false)
      or-false true = refl
      or-false false = refl

      go : Dec (d ≤ i) → ltb (distance w start ((base + i) % w)) count
          ≡ ((leb d i && ltb i (d + count)) || ltb (i + w) (d + count))
      go (yes l) =
          let e : i - d + d ≡ i = omega arith in
          rw (away 0 (i - d) (omega arith) (omega arith), le-leb d i l, le-ltb (i + w) (d + count) (omega arith))
          (test (i - d) d ∙ ap (λ (n : ℕ). ltb n (d + count)) e ∙ or-false (ltb i (d + count)))
      go (no l) =
          let e : w - (d - i) + d ≡ i + w = omega (arith, d-low) in
          rw (away 1 (w - (d - i)) (omega (arith, d-low)) (omega arith), lt-leb d i (omega arith))
          (test (w - (d - i)) d ∙ ap (λ (n : ℕ). ltb n (d + count)) e)

  -- ---- how the two sides read a number

  -- The host waits for the frame of count n. One of a count c before n, at most `late` before it, has a number whose
  -- distance is in the top `late` numbers of the space.
  pub host-late : (late n c : ℕ) → late ≤ w → c < n → n ≤ c + late → w - late ≤ distance w (n % w) (c % w)
  host-late late n c m l h = omega (arith, distance-behind n c l (omega arith))

  -- From n on, within the window, the distance says which place of the window the frame has.
  pub host-window : (window n c : ℕ) → window ≤ w → n ≤ c → c < n + window → distance w (n % w) (c % w) ≡ c - n
  host-window window n c m l h = distance-ahead n c l (omega arith)

  -- The card reads a range of n numbers, from that of count c on: it covers the i-th frame from the lowest one not
  -- released, r, just where the range of counts does.
  module _ (window late r c i n : ℕ) (in_time : r ≤ c + late) (near : c < r + window) (in_window : i < window)
      (turn : late + window ≤ w) (most : n + window ≤ w) where
    pub ack-covers : distance w (c % w) (advance w (r % w) i) < n → (c ≤ r + i) × (r + i < c + n)
    unfolding advance
    ack-covers h = go (dec_le c (r + i))
      where
        k : distance w (c % w) ((r + i) % w) < n
        k = rw (mod-add-mod r w i) at h

        go : Dec (c ≤ r + i) → (c ≤ r + i) × (r + i < c + n)
        go (yes p) = (p, omega (arith, k, distance-ahead c (r + i) p (omega arith)))
        go (no q) = absurd (omega (arith, k, distance-behind c (r + i) (omega arith) (omega arith)))

    pub covers-ack : c ≤ r + i → r + i < c + n → distance w (c % w) (advance w (r % w) i) < n
    unfolding advance
    covers-ack l h = rw (mod-add-mod r w i) (omega (arith, distance-ahead c (r + i) l (omega arith)))
