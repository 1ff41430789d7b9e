-- The loop over the 16 places: the words stored so far, and those to come.
-- Assumes nothing.
use mathlib.Core.Path.{◌≡◌, refl, sym, ◌∙◌, ap}
use mathlib.Core.List.{List, [], ◌∷◌, ◌++◌, append_assoc, append-nil}
use Prim.Native.Nat.{ℕ, suc, ◌+◌, ◌-◌, ◌*◌, ◌≤◌, ◌<◌}
use native.Mathlib.Nat.{zero-add}
use native.Mathlib.Numerals.{add-one}
use native.Mathlib.Omega.{arith}
use lib.ListN.{length, drop, replicate, set, length-append}
use lib.Seq.{sets, sets-eq, length-sets}
use Rattle.octets.proofs.Octets.{sets-append}
use Rattle.words.specs.Words.{listed}
use Rattle.table.specs.Reachable.{place}
use Rattle.table_words.specs.TableWords.{entry_at, table_of}
use Rattle.table_words.specs.TableDescribing.{three, threes, table_description}
use Rattle.table_words.proofs.Laws.{table_at}

pub record Storing (w out : List ℕ) (k : ℕ) : Type 0 where
  pub stored : List ℕ
  pub most : k ≤ 16
  pub long : length out ≡ 49
  pub ends : length stored ≡ 1 + 3 * k
  pub out-is : out ≡ sets (replicate 49 0) 0 stored
  pub is : table_description (table_of w) ≡ stored ++ threes (listed (entry_at w) k (16 - k))

pub storing-start : (w out : List ℕ) (own : ℕ) → own ≡ (table_of w).own → out ≡ set (replicate 49 0) 0 own
    → Storing w out 0
unfolding table_of
storing-start w out own o e = record {
  stored = own ∷ [];
  most = omega arith;
  long = ap length e;
  ends = refl;
  out-is = e;
  is = rw o;
}

module _ {w out : List ℕ} {k : ℕ} (g : Storing w out k) where
  next : k < 16 → table_description (table_of w)
      ≡ g.stored ++ (three (place (table_of w) k) ++ threes (listed (entry_at w) (k + 1) (16 - (k + 1))))
  unfolding threes listed
  next l =
      let one : 16 - k ≡ suc (16 - (k + 1)) = omega arith in
      g.is ∙ ap (λ (n : ℕ). g.stored ++ threes (listed (entry_at w) k n)) one ∙ rw (add-one k, table_at w k l)

  pub storing-turn : (left : List ℕ) → k < 16 → left ≡ sets out (1 + 3 * k) (three (place (table_of w) k))
      → Storing w left (k + 1)
  storing-turn left l e =
      let t = three (place (table_of w) k) in
      record {
        stored = g.stored ++ t;
        most = omega arith;
        long = ap length e ∙ length-sets out (1 + 3 * k) t ∙ g.long;
        ends = length-append g.stored t ∙ omega (arith, g.ends);
        out-is =
            e ∙ ap (λ (l : List ℕ). sets l (1 + 3 * k) t) g.out-is
            ∙ ap (λ (n : ℕ). sets (sets (replicate 49 0) 0 g.stored) n t)
            (sym (zero-add (length g.stored) ∙ g.ends))
            ∙ sym (sets-append (replicate 49 0) g.stored t 0);
        is = next l ∙ sym (append_assoc g.stored t _);
      }

  pub storing-done : 16 ≤ k → out ≡ table_description (table_of w)
  unfolding threes listed
  storing-done h =
      let z : 16 - k ≡ 0 = omega (arith, h) in
      let whole : table_description (table_of w) ≡ g.stored =
      g.is ∙ ap (λ (n : ℕ). g.stored ++ threes (listed (entry_at w) k n)) z ∙ append-nil g.stored in
      let full : length g.stored ≡ 49 = omega (arith, g.ends, g.most) in
      let past : drop (0 + length g.stored) (replicate {A = ℕ} 49 0) ≡ [] = rw full refl in
      g.out-is ∙ sets-eq g.stored (replicate 49 0) 0 (omega (arith, full)) ∙ rw past (append-nil g.stored)
      ∙ sym whole
