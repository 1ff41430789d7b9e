-- The loops over the 32 transactions from the lowest on.
-- Assumes nothing.
use mathlib.Core.Path.{◌≡◌, refl, sym, ◌∙◌, ap}
use mathlib.Core.Logic.{inl, inr}
use mathlib.Core.Bool.{Bool, true, false, cond}
use mathlib.Core.List.{List, [], ◌++◌, append_assoc, append-nil}
use Prim.Native.Nat.{ℕ, suc, ◌+◌, ◌-◌, ◌*◌, ◌≤◌, ◌<◌}
use native.Mathlib.Nat.{add-zero, zero-add}
use native.Mathlib.Numerals.{add-one}
use native.Mathlib.Omega.{arith}
use lib.ListN.{length, replicate, length-append}
use lib.Seq.{sets, length-sets}
use Rattle.octets.proofs.Octets.{sets-append}
use Rattle.host.specs.declared.Pair.{Pair}
use Rattle.host_words.specs.Describing.{
  number_at,
  entry_at,
  is_open,
  five,
  open_words,
  open_count,
  head_words,
  PutsOpen,
  description,
}

-- ---- how many there are: counted so far and to be counted

count_none : (j : ℕ) (p : Pair) → open_count 0 j p ≡ 0
unfolding open_count
count_none j p = refl

count-more : (n j : ℕ) (p : Pair)
    → open_count (suc n) j p ≡ cond (is_open p j) (suc (open_count n (suc j) p)) (open_count n (suc j) p)
unfolding open_count
count-more n j p = refl

pub record Counting (p : Pair) (count j : ℕ) : Type 0 where
  pub most : j ≤ 32
  pub low : count ≤ j
  pub is : open_count 32 0 p ≡ count + open_count (32 - j) j p

pub counting-start : (p : Pair) → Counting p 0 0
counting-start p = record { most = omega arith; low = omega arith; is = sym (zero-add (open_count 32 0 p)) }

module _ {p : Pair} {count j : ℕ} (g : Counting p count j) where
  pub counting-turn : (new : ℕ) → j < 32 → new ≡ cond (is_open p j) (count + 1) count → Counting p new (j + 1)
  counting-turn new l e = go (is_open p j) refl
    where
      one : 32 - j ≡ suc (32 - suc j)
      one = omega arith

      opened : open_count 32 0 p
          ≡ count + cond (is_open p j) (suc (open_count (32 - suc j) (suc j) p)) (open_count (32 - suc j) (suc j) p)
      opened =
          g.is ∙ ap (λ (n : ℕ). count + open_count n j p) one
          ∙ ap (λ (n : ℕ). count + n) (count-more (32 - suc j) j p)

      go : (b : Bool) → is_open p j ≡ b → Counting p new (j + 1)
      go true z =
          let n : new ≡ count + 1 = rw z at e in
          let q : open_count 32 0 p ≡ count + suc (open_count (32 - suc j) (suc j) p) = rw z at opened in
          record { most = omega arith; low = omega (arith, n, g.low); is = rw (add-one j) (omega (arith, n, q)) }
      go false z =
          let n : new ≡ count = rw z at e in
          let q : open_count 32 0 p ≡ count + open_count (32 - suc j) (suc j) p = rw z at opened in
          record { most = omega arith; low = omega (arith, n, g.low); is = rw (add-one j) (omega (arith, n, q)) }

  pub counting-done : 32 ≤ j → count ≡ open_count 32 0 p
  counting-done h =
      let z : 32 - j ≡ 0 = omega (arith, h) in
      sym (g.is ∙ ap (λ (n : ℕ). count + open_count n j p) z ∙ ap (λ (n : ℕ). count + n) (count_none j p)
      ∙ add-zero count)

-- ---- the words: those stored so far, and those to come

pub record Storing (p : Pair) (out : List ℕ) (at j : ℕ) : Type 0 where
  pub stored : List ℕ
  pub most : j ≤ 32
  pub low : at ≤ 7 + 5 * j
  pub long : length out ≡ 167
  pub ends : length stored ≡ at
  pub out-is : out ≡ sets (replicate 167 0) 0 stored
  pub is : head_words p (open_count 32 0 p) ++ open_words 32 0 p ≡ stored ++ open_words (32 - j) j p

pub storing-start : (p : Pair) (out : List ℕ) (count : ℕ) → count ≡ open_count 32 0 p
    → out ≡ sets (replicate 167 0) 0 (head_words p count) → Storing p out 7 0
storing-start p out count c e =
    record {
      stored = head_words p (open_count 32 0 p);
      most = omega arith;
      low = omega arith;
      long = ap length e ∙ length-sets (replicate 167 0) 0 (head_words p count);
      ends = refl;
      out-is = e ∙ rw c;
      is = refl;
    }

module _ {p : Pair} {out : List ℕ} {at j : ℕ} (g : Storing p out at j) where
  opened : j < 32 → head_words p (open_count 32 0 p) ++ open_words 32 0 p
      ≡ g.stored ++ (cond (is_open p j) (five (number_at p j) (entry_at p j)) [] ++ open_words (32 - (j + 1)) (j + 1) p)
  unfolding open_words
  opened l =
      let one : 32 - j ≡ suc (32 - (j + 1)) = omega arith in
      g.is ∙ ap (λ (n : ℕ). g.stored ++ open_words n j p) one ∙ rw (add-one j)

  pub storing-open : (left : List ℕ) → j < 32 → is_open p j ≡ true
      → left ≡ sets out at (five (number_at p j) (entry_at p j))
      → Storing p left (at + 5) (j + 1)
  storing-open left l z e =
      record {
        stored = g.stored ++ five (number_at p j) (entry_at p j);
        most = omega arith;
        low = omega (arith, g.low);
        long = ap length e ∙ length-sets out at (five (number_at p j) (entry_at p j)) ∙ g.long;
        ends = length-append g.stored (five (number_at p j) (entry_at p j)) ∙ ap (λ (n : ℕ). n + 5) g.ends;
        out-is =
            e ∙ ap (λ (l : List ℕ). sets l at (five (number_at p j) (entry_at p j))) g.out-is
            ∙ ap (λ (n : ℕ). sets (sets (replicate 167 0) 0 g.stored) n (five (number_at p j) (entry_at p j)))
            (sym (zero-add (length g.stored) ∙ g.ends))
            ∙ sym (sets-append (replicate 167 0) g.stored (five (number_at p j) (entry_at p j)) 0);
        is = (rw z at (opened l)) ∙ sym (append_assoc g.stored (five (number_at p j) (entry_at p j)) _);
      }

  pub storing-none : j < 32 → is_open p j ≡ false → Storing p out at (j + 1)
  storing-none l z =
      record {
        stored = g.stored;
        most = omega arith;
        low = omega (arith, g.low);
        long = g.long;
        ends = g.ends;
        out-is = g.out-is;
        is = rw z at (opened l);
      }

  pub storing-turn : (left : List ℕ) (r : ℕ) → j < 32 → PutsOpen out at p j left r → Storing p left r (j + 1)
  storing-turn left r l (inl (z, e, q)) = rw q (storing-open left l z e)
  storing-turn left r l (inr (z, e, q)) = rw (e, q) (storing-none l z)

  pub storing-done : 32 ≤ j → out ≡ description p
  unfolding open_words
  storing-done h =
      let z : 32 - j ≡ 0 = omega (arith, h) in
      g.out-is
      ∙ ap (sets (replicate 167 0) 0)
      (sym (g.is ∙ ap (λ (n : ℕ). g.stored ++ open_words n j p) z ∙ append-nil g.stored))
