-- Laws of words: what is read past the end, and numbers of any width in a word: read from it, made into one, and one
-- put in the place of another.
-- Assumes nothing.
use mathlib.Core.Path.{◌≡◌, refl, sym, ap, ◌∙◌}
use mathlib.Core.Logic.{◌≢◌}
use mathlib.Core.List.{List, [], ◌∷◌}
use Prim.Native.Nat.{ℕ, zero, suc, ◌+◌, ◌-◌, ◌*◌, ◌/◌, ◌%◌, ◌^◌, ◌≤◌, ◌<◌, zero-le}
use native.Mathlib.Nat.{
  not-suc-le-zero,
  lt_of_lt_of_le,
  zero-add,
  mul-zero,
  mul-suc,
  mul-add,
  mul_left_comm,
  mul-le-mul_left,
  mul-le-mul_right,
  mul-lt-mul_of_pos_right,
  zero-mod,
  mod-lt,
  mod-le,
  mod-eq_of_lt,
  mod-add-div,
  div-one,
  div-eq_of_lt,
  div-mul-le_self,
  mul-div-le,
  add-mul-div_left,
  add-mul-mod_self_left,
}
use native.Mathlib.Decide.{dec_lt}
use native.Mathlib.Omega.{arith}
use lib.ListN.{length, get_or, set, length-set}
use lib.Pow.{pow_pos, pow_mono, pow-add, shr-shr}
use lib.Seq.{get_or-set_same, get_or-set_other, set_out}
use Rattle.words.specs.Words.{part, parts, of_parts, Narrow, quarter, half, of_quarters, of_halves, with_quarter}

-- The definitions at work, by computation: 1, 2, 3 and 4 as one word, and its parts.
pub edges : (of_quarters 1 2 3 4 ≡ 1125912791875585) × (quarter 1125912791875585 0 ≡ 1)
    × (quarter 1125912791875585 3 ≡ 4) × (quarter 1125912791875585 4 ≡ 0) × (half 1125912791875585 0 ≡ 131073)
    × (half 1125912791875585 1 ≡ 262147) × (of_halves 131073 262147 ≡ 1125912791875585)
    × (with_quarter 1125912791875585 1 7 ≡ 1125912792203265) × (with_quarter 1125912791875585 4 7 ≡ 1125912791875585)
unfolding part parts of_parts
edges = (refl, refl, refl, refl, refl, refl, refl, refl, refl)

-- past the end there is 0
pub get_or-out : (w : List ℕ) (i : ℕ) → length w ≤ i → get_or w i 0 ≡ 0
get_or-out [] i h = refl
get_or-out (x ∷ xs) zero h = absurd (not-suc-le-zero h)
get_or-out (x ∷ xs) (suc i) h = get_or-out xs i (omega arith)

-- ---- parts of a word

pub part-lt : (width x j : ℕ) → part width x j < 2 ^ width
unfolding part
part-lt width x j = mod-lt (x / 2 ^ (width * j)) (pow_pos width)

-- a power of two, one width further
pow-width : (width j : ℕ) → 2 ^ (width * suc j) ≡ 2 ^ width * 2 ^ (width * j)
pow-width width j =
    let e : width * suc j ≡ width + width * j = omega (arith, mul-suc width j) in
    ap (λ (n : ℕ). 2 ^ n) e ∙ pow-add 2 width (width * j)

pow-none : (width : ℕ) → 2 ^ (width * 0) ≡ 1
pow-none width = ap (λ (n : ℕ). 2 ^ n) (mul-zero width)

-- the first part is in the word's lowest bits, and the others are those of the bits above
part-zero : (width x : ℕ) → part width x 0 ≡ x % 2 ^ width
unfolding part
part-zero width x = ap (λ (n : ℕ). x / n % 2 ^ width) (pow-none width) ∙ ap (λ (n : ℕ). n % 2 ^ width) (div-one x)

part-suc : (width x j : ℕ) → part width x (suc j) ≡ part width (x / 2 ^ width) j
unfolding part
part-suc width x j =
    let e : width * suc j ≡ width + width * j = omega (arith, mul-suc width j) in
    ap (λ (n : ℕ). x / 2 ^ n % 2 ^ width) e ∙ ap (λ (n : ℕ). n % 2 ^ width) (sym (shr-shr x width (width * j)))

-- a word of n parts has no more
pub part-past : (width n x j : ℕ) → x < 2 ^ (width * n) → n ≤ j → part width x j ≡ 0
unfolding part
part-past width n x j h l =
    let most : 2 ^ (width * n) ≤ 2 ^ (width * j) = pow_mono (mul-le-mul_left width l) in
    ap (λ (k : ℕ). k % 2 ^ width) (div-eq_of_lt (lt_of_lt_of_le h most)) ∙ zero-mod (2 ^ width)

-- the word shifted to part j, where a shift that is too long for a word is one by k, too long as well
pub shifted_to : (width x j k r : ℕ) → x < 2 ^ 64 → (k < 64 → k ≡ width * j) → (64 ≤ k → 64 ≤ width * j)
    → (k < 64 → r ≡ x / 2 ^ k) → (64 ≤ k → r ≡ 0) → r ≡ x / 2 ^ (width * j)
shifted_to width x j k r h near far some none = go (dec_lt k 64)
  where
    go : Dec (k < 64) → r ≡ x / 2 ^ (width * j)
    go (yes l) = some l ∙ ap (λ (n : ℕ). x / 2 ^ n) (near l)
    go (no l) = none (omega arith) ∙ sym (div-eq_of_lt (lt_of_lt_of_le h (pow_mono (far (omega arith)))))

pub part_none : (width j : ℕ) → part width 0 j ≡ 0
part_none width j = part-past width 0 0 j (pow_pos (width * 0)) zero-le

pub parts_at : (width n x j : ℕ) → j < n → get_or (parts width n x) j 0 ≡ part width x j
unfolding parts
parts_at width zero x j h = absurd (not-suc-le-zero h)
parts_at width (suc n) x zero h = sym (part-zero width x)
parts_at width (suc n) x (suc j) h = parts_at width n (x / 2 ^ width) j (omega arith) ∙ sym (part-suc width x j)

length-parts : (width n x : ℕ) → length (parts width n x) ≡ n
unfolding parts
length-parts width zero x = refl
length-parts width (suc n) x = ap suc (length-parts width n (x / 2 ^ width))

narrow-parts : (width n x : ℕ) → Narrow width (parts width n x)
unfolding parts
narrow-parts width zero x = tt
narrow-parts width (suc n) x = (mod-lt x (pow_pos width), narrow-parts width n (x / 2 ^ width))

narrow-set : (width : ℕ) (ps : List ℕ) (j v : ℕ) → Narrow width ps → v < 2 ^ width → Narrow width (set ps j v)
narrow-set width [] j v n h = tt
narrow-set width (p ∷ ps) zero v n h = (h, n.1)
narrow-set width (p ∷ ps) (suc j) v n h = (n.0, narrow-set width ps j v n.1 h)

-- ---- a word made of parts

-- its parts are those that it was made of
pub part-word : (width : ℕ) (ps : List ℕ) (j : ℕ) → Narrow width ps → part width (of_parts width ps) j ≡ get_or ps j 0
unfolding of_parts
part-word width [] j n = part_none width j
part-word width (p ∷ ps) zero n =
    part-zero width (p + 2 ^ width * of_parts width ps)
    ∙ add-mul-mod_self_left p (2 ^ width) (of_parts width ps)
    ∙ mod-eq_of_lt n.0
part-word width (p ∷ ps) (suc j) n =
    let rest : (p + 2 ^ width * of_parts width ps) / 2 ^ width ≡ of_parts width ps =
    add-mul-div_left p (of_parts width ps) (pow_pos width)
    ∙ ap (λ (k : ℕ). k + of_parts width ps) (div-eq_of_lt n.0)
    ∙ zero-add (of_parts width ps) in
    part-suc width (p + 2 ^ width * of_parts width ps) j
    ∙ ap (λ (k : ℕ). part width k j) rest
    ∙ part-word width ps j n.1

-- and it is the word of its parts
above : (width n x : ℕ) → x < 2 ^ (width * suc n) → x / 2 ^ width < 2 ^ (width * n)
above width n x h = go (dec_lt (x / 2 ^ width) (2 ^ (width * n)))
  where
    go : Dec (x / 2 ^ width < 2 ^ (width * n)) → x / 2 ^ width < 2 ^ (width * n)
    go (yes l) = l
    go (no l) =
        let most : 2 ^ (width * n) ≤ x / 2 ^ width = omega arith in
        absurd (omega (arith, mul-le-mul_left (2 ^ width) most, mul-div-le x (2 ^ width), pow-width width n))

pub word-parts : (width n x : ℕ) → x < 2 ^ (width * n) → of_parts width (parts width n x) ≡ x
unfolding parts of_parts
word-parts width zero x h = omega (arith, h, pow-none width)
word-parts width (suc n) x h =
    let rest : of_parts width (parts width n (x / 2 ^ width)) ≡ x / 2 ^ width =
    word-parts width n (x / 2 ^ width) (above width n x h) in
    ap (λ (k : ℕ). x % 2 ^ width + 2 ^ width * k) rest ∙ mod-add-div x (2 ^ width)

-- it has as many bits as they have together
word_lt : (width : ℕ) (ps : List ℕ) → Narrow width ps → of_parts width ps < 2 ^ (width * length ps)
unfolding of_parts
word_lt width [] n = pow_pos (width * 0)
word_lt width (p ∷ ps) n =
    let rest : of_parts width ps < 2 ^ (width * length ps) = word_lt width ps n.1 in
    let high = mul-le-mul_left (2 ^ width) rest in
    omega (arith, n.0, high, mul-suc (2 ^ width) (of_parts width ps), pow-width width (length ps))

-- four quarters and two halves
pub record Quartered (x a b c d : ℕ) : Type 0 where
  pub first : quarter x 0 ≡ a
  pub second : quarter x 1 ≡ b
  pub third : quarter x 2 ≡ c
  pub fourth : quarter x 3 ≡ d

pub record Halved (x a b : ℕ) : Type 0 where
  pub first : half x 0 ≡ a
  pub second : half x 1 ≡ b

pub quartered : (a b c d : ℕ) → a < 65536 → b < 65536 → c < 65536 → d < 65536
    → Quartered (of_quarters a b c d) a b c d
quartered a b c d p q r s =
    let n : Narrow 16 (a ∷ b ∷ c ∷ d ∷ []) = (p, (q, (r, (s, tt)))) in
    let at : (j : ℕ) → quarter (of_quarters a b c d) j ≡ get_or (a ∷ b ∷ c ∷ d ∷ []) j 0 = λ j.
    part-word 16 (a ∷ b ∷ c ∷ d ∷ []) j n in
    record { first = at 0; second = at 1; third = at 2; fourth = at 3 }

pub halved : (a b : ℕ) → a < 4294967296 → b < 4294967296 → Halved (of_halves a b) a b
halved a b p q =
    let n : Narrow 32 (a ∷ b ∷ []) = (p, (q, tt)) in
    record { first = part-word 32 (a ∷ b ∷ []) 0 n; second = part-word 32 (a ∷ b ∷ []) 1 n }

-- ---- one part in the place of another

narrow-put : (width n x j v : ℕ) → v < 2 ^ width → Narrow width (set (parts width n x) j v)
narrow-put width n x j v l = narrow-set width (parts width n x) j v (narrow-parts width n x) l

-- by how much the word changes
set_word : (width : ℕ) (ps : List ℕ) (j v : ℕ) → j < length ps
    → of_parts width (set ps j v) + get_or ps j 0 * 2 ^ (width * j) ≡ of_parts width ps + v * 2 ^ (width * j)
unfolding of_parts
set_word width [] j v h = absurd (not-suc-le-zero h)
set_word width (p ∷ ps) zero v h = rw (pow-none width) (omega arith)
set_word width (p ∷ ps) (suc j) v h =
    let rest = ap (λ (k : ℕ). 2 ^ width * k) (set_word width ps j v (omega arith)) in
    rw (pow-width width j)
    (omega (
      arith,
      rest,
      mul-add (2 ^ width) (of_parts width (set ps j v)) (get_or ps j 0 * 2 ^ (width * j)),
      mul-add (2 ^ width) (of_parts width ps) (v * 2 ^ (width * j)),
      mul_left_comm (get_or ps j 0) (2 ^ width) (2 ^ (width * j)),
      mul_left_comm v (2 ^ width) (2 ^ (width * j)),
    ))

-- a number is taken out of a word of n parts, and v put in: both are shifted to their place, and lose nothing by it
pub record Replaced (width n x j v : ℕ) : Type 0 where
  pub out-fits : part width x j * 2 ^ (width * j) % 2 ^ (width * n) ≤ x
  pub is : x - part width x j * 2 ^ (width * j) % 2 ^ (width * n) + v * 2 ^ (width * j) % 2 ^ (width * n)
      ≡ of_parts width (set (parts width n x) j v)
  pub is-fits : of_parts width (set (parts width n x) j v) < 2 ^ (width * n)

module _ (width n x j v : ℕ) (f : x < 2 ^ (width * n)) (h : j < n) (l : v < 2 ^ width) where
  out : part width x j * 2 ^ (width * j) ≤ x
  unfolding part
  out =
      let low : x / 2 ^ (width * j) % 2 ^ width ≤ x / 2 ^ (width * j) = mod-le (x / 2 ^ (width * j)) (2 ^ width) in
      omega (arith, mul-le-mul_right (2 ^ (width * j)) low, div-mul-le_self x (2 ^ (width * j)))

  into : v * 2 ^ (width * j) < 2 ^ (width * n)
  into =
      let most : 2 ^ (width * suc j) ≤ 2 ^ (width * n) = pow_mono (mul-le-mul_left width h) in
      omega (arith, most, pow-width width j, mul-lt-mul_of_pos_right l (pow_pos (width * j)))

  pub replaced : Replaced width n x j v
  replaced =
      let out-is : part width x j * 2 ^ (width * j) % 2 ^ (width * n) ≡ part width x j * 2 ^ (width * j) =
      mod-eq_of_lt (omega (arith, out, f)) in
      let in_is : v * 2 ^ (width * j) % 2 ^ (width * n) ≡ v * 2 ^ (width * j) = mod-eq_of_lt into in
      let long : length (set (parts width n x) j v) ≡ n = length-set (parts width n x) j v ∙ length-parts width n x in
      let changed = set_word width (parts width n x) j v (omega (arith, h, length-parts width n x)) in
      record {
        out-fits = rw out-is out;
        is = rw (out-is, in_is) (omega (arith, out, rw (parts_at width n x j h, word-parts width n x f) at changed));
        is-fits = rw long at (word_lt width (set (parts width n x) j v) (narrow-put width n x j v l));
      }

-- past the last part nothing changes
pub put-past : (width n x j v : ℕ) → x < 2 ^ (width * n) → n ≤ j → of_parts width (set (parts width n x) j v) ≡ x
put-past width n x j v f h =
    ap (of_parts width) (set_out (parts width n x) j v (omega (arith, h, length-parts width n x)))
    ∙ word-parts width n x f

-- it is read where it was put, and the others as they were
pub part_same : (width n x j v : ℕ) → j < n → v < 2 ^ width
    → part width (of_parts width (set (parts width n x) j v)) j ≡ v
part_same width n x j v h l =
    part-word width (set (parts width n x) j v) j (narrow-put width n x j v l)
    ∙ get_or-set_same (parts width n x) j v 0 (omega (arith, h, length-parts width n x))

pub part-other : (width n x j v i : ℕ) → i < n → v < 2 ^ width → i ≢ j
    → part width (of_parts width (set (parts width n x) j v)) i ≡ part width x i
part-other width n x j v i h l ne =
    part-word width (set (parts width n x) j v) i (narrow-put width n x j v l)
    ∙ get_or-set_other (parts width n x) j i v 0 ne
    ∙ parts_at width n x i h
