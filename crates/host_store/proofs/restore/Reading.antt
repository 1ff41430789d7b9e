-- Characters read one by one, and the numbers and conditions of a line.
-- Assumes nothing.
use mathlib.Core.Path.{◌≡◌, refl, sym, ◌∙◌, ap}
use mathlib.Core.Logic.{◌≢◌}
use mathlib.Core.Bool.{Bool, true, false, cond, not, and-false}
use mathlib.Core.List.{List, [], ◌∷◌, ◌++◌, append_assoc, append-nil}
use mathlib.Core.Option.{Option, none, some}
use Prim.Native.Nat.{ℕ, suc, ◌+◌, ◌-◌, ◌*◌, ◌^◌, ◌≤◌, ◌<◌}
use native.Mathlib.Nat.{add-zero, sub-zero, pow-suc, pow-le-pow_right, lt_of_lt_of_le}
use native.Mathlib.Numerals.{add-one}
use native.Mathlib.Omega.{arith}
use borrow.Author.Tests.{le-leb, lt-leb, lt-ltb, le-ltb, eq-eqb, ne_eqb}
use lib.Dec.{eqb, leb, ltb}
use lib.ListN.{length, take, drop, get_or, set, length-set}
use lib.Seq.{get_or-drop, drop-drop, take-suc-set, take_all}
use Rattle.octets.specs.Octets.{field}
use Rattle.octets.proofs.Octets.{field-suc, field-zero}
use Rattle.seq.specs.Ring.{distance, trans_space}
use Rattle.bitmap.specs.Marks.{mark}
use Rattle.host.specs.declared.Open.{Open}
use Rattle.hexadecimal.specs.Fields.{value_of, joined, unhex, numbers_from}
use Rattle.host_words.specs.declared.Head.{Head}
use Rattle.host_words.specs.Words.{head_part, joined as joined_pair}
use Rattle.host_stored.specs.Form.{head_widths, open_widths, open_in, pair_in, head_fine, open_fine}

-- ---- the value of a digit

module _ (c : ℕ) where
  pub below-digits : c < 48 → (16 ≡ value_of c) × (16 ≤ 16)
  unfolding value_of
  below-digits h = (rw (lt-leb 48 c h, lt-leb 97 c (omega arith)), omega arith)

  pub a-digit : 48 ≤ c → c ≤ 57 → (c - 48 ≡ value_of c) × (c - 48 ≤ 16)
  unfolding value_of
  a-digit h k = (rw (le-leb 48 c h, le-leb c 57 k), omega arith)

  pub between : 57 < c → c < 97 → (16 ≡ value_of c) × (16 ≤ 16)
  unfolding value_of
  between h k = (rw (le-leb 48 c (omega arith), lt-leb c 57 h, lt-leb 97 c k), omega arith)

  pub a-letter : 97 ≤ c → c ≤ 102 → (c - 87 ≡ value_of c) × (c - 87 ≤ 16)
  unfolding value_of
  a-letter h k = (rw (le-leb 48 c (omega arith), lt-leb c 57 (omega arith), le-leb 97 c h, le-leb c 102 k), omega arith)

  pub above-letters : 102 < c → (16 ≡ value_of c) × (16 ≤ 16)
  unfolding value_of
  above-letters h = (
    rw (le-leb 48 c (omega arith), lt-leb c 57 (omega arith), le-leb 97 c (omega arith), lt-leb c 102 h),
    omega
        arith,
  )

-- ---- bytes

-- bytes that stand before what is read
abbrev before : List ℕ → Option (List ℕ) → Option (List ℕ)
before xs none = none
before xs (some ys) = some (xs ++ ys)

before-nil : (o : Option (List ℕ)) → before [] o ≡ o
before-nil none = refl
before-nil (some ys) = refl

before-before : (xs ys : List ℕ) (o : Option (List ℕ)) → before xs (before ys o) ≡ before (xs ++ ys) o
before-before xs ys none = refl
before-before xs ys (some zs) = ap some (sym (append_assoc xs ys zs))

joined-good : (h l : ℕ) (o : Option (List ℕ)) → h ≤ 15 → l ≤ 15 → joined h l o ≡ before ((h * 16 + l) ∷ []) o
joined-good h l none a b = refl
joined-good h l (some r) a b = rw (lt-ltb h 16 (omega arith), lt-ltb l 16 (omega arith))

joined-high : (h l : ℕ) (o : Option (List ℕ)) → 15 < h → joined h l o ≡ none
joined-high h l none a = refl
joined-high h l (some r) a = rw (le-ltb h 16 (omega arith))

joined-low : (h l : ℕ) (o : Option (List ℕ)) → 15 < l → joined h l o ≡ none
joined-low h l none a = refl
joined-low h l (some r) a = rw (le-ltb l 16 (omega arith), and-false (ltb h 16))

pub record Taken (text : List ℕ) (at n : ℕ) (bytes : List ℕ) (from i : ℕ) : Type 0 where
  pub range : i ≤ n
  pub from_is : from ≡ at + 2 * i
  pub size : length bytes ≡ n
  pub is : unhex n (drop at text) ≡ before (take i bytes) (unhex (n - i) (drop from text))

pub taken_start : (text : List ℕ) (at : ℕ) (bytes : List ℕ) → Taken text at (length bytes) bytes at 0
taken_start text at bytes = record {
  range = omega arith;
  from_is = omega arith;
  size = refl;
  is = rw sub-zero (sym (before-nil (unhex (length bytes) (drop at text))));
}

pub taken-begun : (text : List ℕ) (at n : ℕ) (bytes : List ℕ) → length bytes ≡ n → Taken text at n bytes at 0
taken-begun text at n bytes e = rw (← e) (taken_start text at bytes)

module _ {text : List ℕ} {at n : ℕ} {bytes : List ℕ} {from i : ℕ} (t : Taken text at n bytes from i) where
  -- one pair of characters
  pair : i < n → unhex (n - i) (drop from text)
      ≡ joined (value_of (get_or text from 0)) (value_of (get_or text (from + 1) 0))
      (unhex (n - (i + 1)) (drop (from + 2) text))
  unfolding unhex
  pair l =
      let d : n - i ≡ suc (n - (i + 1)) = omega arith in
      let a : get_or (drop from text) 0 0 ≡ get_or text from 0 = get_or-drop from text 0 0 ∙ rw add-zero in
      rw (d, a, get_or-drop from text 1 0, drop-drop 2 from text)

  module _ (high low : ℕ) (l : i < n) (h : (high ≡ value_of (get_or text from 0)) × (high ≤ 16))
      (k : (low ≡ value_of (get_or text (from + 1) 0)) × (low ≤ 16)) where
    pub taken-high : 15 < high → unhex n (drop at text) ≡ none
    taken-high b =
        let w : unhex (n - i) (drop from text) ≡ none =
        pair l ∙ rw (← h.0)
        (joined-high high (value_of (get_or text (from + 1) 0)) (unhex (n - (i + 1)) (drop (from + 2) text)) b) in
        t.is ∙ ap (before (take i bytes)) w

    pub taken-low : 15 < low → unhex n (drop at text) ≡ none
    taken-low b =
        let w : unhex (n - i) (drop from text) ≡ none =
        pair l ∙ rw (← k.0)
        (joined-low (value_of (get_or text from 0)) low (unhex (n - (i + 1)) (drop (from + 2) text)) b) in
        t.is ∙ ap (before (take i bytes)) w

    pub taken-turn : high ≤ 15 → low ≤ 15 → Taken text at n (set bytes i (high * 16 + low)) (from + 2) (i + 1)
    taken-turn a b =
        let s : take (i + 1) (set bytes i (high * 16 + low)) ≡ take i bytes ++ ((high * 16 + low) ∷ []) =
        rw add-one (take-suc-set bytes i (high * 16 + low) (omega (arith, t.size))) in
        let w : unhex (n - i) (drop from text) ≡ before ((high * 16 + low) ∷ [])
        (unhex (n - (i + 1)) (drop (from + 2) text)) =
        pair l ∙ rw (← h.0, ← k.0) (joined-good high low (unhex (n - (i + 1)) (drop (from + 2) text)) a b) in
        record {
          range = omega arith;
          from_is = omega (arith, t.from_is);
          size = simp length-set t.size;
          is =
              t.is
              ∙ ap (before (take i bytes)) w
              ∙ before-before (take i bytes) ((high * 16 + low) ∷ []) (unhex (n - (i + 1)) (drop (from + 2) text))
              ∙ rw s;
        }

  pub taken-end : n ≤ i → unhex n (drop at text) ≡ cond (eqb (get_or text from 0) 10) (some bytes) none
  unfolding unhex
  taken-end l =
      let z : n - i ≡ 0 = omega arith in
      let a : get_or (drop from text) 0 0 ≡ get_or text from 0 = get_or-drop from text 0 0 ∙ rw add-zero in
      let w : take i bytes ≡ bytes = take_all i bytes (omega (arith, t.size)) in
      t.is ∙ rw (z, a, w) (last (eqb (get_or text from 0) 10))
    where
      last : (b : Bool) → before bytes (cond b (some []) none) ≡ cond b (some bytes) none
      last true = ap some (append-nil bytes)
      last false = refl

-- ---- numbers

-- the number in the last bytes, from the i-th on
pub record Numbered (bytes : List ℕ) (at size x i : ℕ) : Type 0 where
  pub range : i ≤ size
  pub is : x ≡ field bytes (at + i) (size - i)
  pub small : x < 256 ^ (size - i)

pub numbered-start : (bytes : List ℕ) (at size : ℕ) → Numbered bytes at size 0 size
numbered-start bytes at size =
    let z : size - size ≡ 0 = omega arith in
    record { range = omega arith; is = rw (z, field-zero bytes (at + size)); small = rw z (omega arith) }

module _ {bytes : List ℕ} {at size x i : ℕ} (w : Numbered bytes at size x i) (short : size ≤ 8) (l : 0 < i) where
  -- one byte more leaves room in 64 bits
  pub numbered-room : x < 256 ^ 7
  numbered-room =
      let few : size - i ≤ 7 = omega (arith, w.range) in
      let k : 256 ^ (size - i) ≤ 256 ^ 7 = pow-le-pow_right (omega arith) few in
      lt_of_lt_of_le w.small k

  pub numbered-turn : (b j : ℕ) → j ≡ i - 1 → b ≡ get_or bytes (at + j) 0 → b < 256
      → Numbered bytes at size (x * 256 + b) j
  numbered-turn b j e q h =
      let d : size - j ≡ suc (size - i) = omega (arith, w.range) in
      let n : suc (at + j) ≡ at + i = omega arith in
      record {
        range = omega (arith, w.range);
        is = rw (d, field-suc bytes (at + j) (size - i), n, ← w.is, ← q) (omega arith);
        small = rw d (omega (arith, w.small, pow-suc 256 (size - i)));
      }

pub numbered-end : {bytes : List ℕ} {at size x i : ℕ} → Numbered bytes at size x i → i ≤ 0
    → (x ≡ field bytes at size) × (x < 256 ^ size)
numbered-end {bytes} {at} {size} {x} {i} w l =
    let z : i ≡ 0 = omega arith in
    let n : size - i ≡ size = omega arith in
    let a : at + i ≡ at = omega arith in
    (w.is ∙ rw (n, a), rw n at w.small)

-- the numbers of a line, each where it stands
pub head-numbers : (bytes : List ℕ) (h : Head) → h.own ≡ field bytes 1 2 → h.peer ≡ field bytes 3 2
    → h.next.0 ≡ field bytes 5 2 → h.marks ≡ field bytes 7 8 → h.lowest.0 ≡ field bytes 15 4
    → h.closed ≡ field bytes 19 4 → h ≡ head_part (pair_in (numbers_from 0 head_widths bytes) [])
unfolding numbers_from
head-numbers bytes h o p n m l c = rw (o, p, n, m, l, c)

pub open-numbers : (bytes : List ℕ) (o : Open) → o.address ≡ field bytes 4 4 → o.value ≡ field bytes 8 4
    → o.count ≡ field bytes 12 2 → o.received ≡ field bytes 14 2 → o ≡ open_in (numbers_from 0 open_widths bytes)
unfolding numbers_from
open-numbers bytes o t v c r = rw (t, v, c, r)

-- ---- the conditions of the first line, in their order

module _ (h : Head) where
  pub own-zero : h.own ≡ 0 → false ≡ head_fine (joined_pair h [])
  unfolding head_fine
  own-zero e = rw (eq-eqb h.own 0 e)

  module _ (own : h.own ≢ 0) where
    pub peer-zero : h.peer ≡ 0 → false ≡ head_fine (joined_pair h [])
    unfolding head_fine
    peer-zero e = rw (ne_eqb h.own 0 own, eq-eqb h.peer 0 e)

    module _ (peer : h.peer ≢ 0) (t : Bool) (m : t ≡ mark h.marks 0) where
      pub next-accepted : t ≡ true → false ≡ head_fine (joined_pair h [])
      unfolding head_fine
      next-accepted e = rw (ne_eqb h.own 0 own, ne_eqb h.peer 0 peer, ← m, e)

      pub lowest-closed : (u : Bool) → t ≡ false → u ≡ mark h.closed 0 → not u ≡ head_fine (joined_pair h [])
      unfolding head_fine
      lowest-closed u e c = rw (ne_eqb h.own 0 own, ne_eqb h.peer 0 peer, ← m, e, c)

-- ---- the conditions of an open transaction's line, in their order

module _ (lowest closed least number : ℕ) (o : Open) where
  pub none-received : o.received ≡ 0 → false ≡ open_fine lowest closed least number o
  unfolding open_fine
  none-received e = rw (e, lt-leb 1 0 (omega arith))

  module _ (some-received : o.received ≢ 0) where
    pub none-to-come : o.count ≤ o.received → false ≡ open_fine lowest closed least number o
    unfolding open_fine
    none-to-come h =
        rw (le-leb 1 o.received (omega arith), lt-leb o.received (o.count - 1) (omega arith))

    module _ (some-to-come : o.received < o.count) (d : ℕ) (q : d ≡ distance trans_space lowest number) where
      pub outside : 32 ≤ d → false ≡ open_fine lowest closed least number o
      unfolding open_fine
      outside h =
          rw
          (le-leb 1 o.received (omega arith), le-leb o.received (o.count - 1) (omega arith), ← q, le-ltb d 32 h)

      module _ (inside : d < 32) (t : Bool) (m : t ≡ mark closed d) where
        pub is-closed : t ≡ true → false ≡ open_fine lowest closed least number o
        unfolding open_fine
        is-closed e =
            rw (
              le-leb 1 o.received (omega arith),
              le-leb o.received (o.count - 1) (omega arith),
              ← q,
              lt-ltb d 32
                  inside,
              ← m,
              e,
            )

        pub by_order : t ≡ false → leb least d ≡ open_fine lowest closed least number o
        unfolding open_fine
        by_order e =
            rw (
              le-leb 1 o.received (omega arith),
              le-leb o.received (o.count - 1) (omega arith),
              ← q,
              lt-ltb d 32
                  inside,
              ← m,
              e,
            )
