-- Laws of a table in words: what stands at a place, overlapping, and what stores leave of a table.
-- Assumes nothing.
use Prim.Native.Nat.{ℕ, zero, suc, ◌+◌, ◌%◌, ◌≤◌, ◌<◌}
use native.Mathlib.Decide.{ℕ_discrete, dec_lt}
use native.Mathlib.Numerals.{add-one}
use native.Mathlib.Omega.{arith}
use mathlib.Core.Path.{◌≡◌, refl, sym, ◌∙◌, ap}
use mathlib.Core.Logic.{◌≢◌}
use mathlib.Core.Bool.{Bool, true, false, not}
use mathlib.Core.List.{List, ◌++◌, append_assoc}
use borrow.Author.Tests.{not-true, not-false, lt-ltb, le-ltb}
use borrow.Rule.Slice.PartMut.{put_mid}
use lib.Dec.{ltb}
use lib.ListN.{length, get_or, take, drop, set, length-set, get_or-eq_default}
use lib.Seq.{sets, sets-eq, drop-drop, ext_get_or, get_or-set_same, get_or-set_other}
use Rattle.std.specs.Prelude.{if◌then◌else◌}
use Rattle.words.specs.Words.{listed}
use Rattle.words.proofs.Listed.{length-listed, listed_at}
use Rattle.table.specs.Table.{Entry, no_entry, overlaps, overlaps_any, with_entry}
use Rattle.table.specs.Reachable.{place}
use Rattle.table_words.specs.TableWords.{entry_at, table_of}

-- ---- what stands at a place

pub table-long : (w : List ℕ) → length (table_of w).entries ≡ 16
unfolding table_of
table-long w = length-listed (entry_at w) 0 16

pub table_at : (w : List ℕ) (k : ℕ) → k < 16 → get_or (table_of w).entries k no_entry ≡ entry_at w k
unfolding table_of
table_at w k h =
    let e : 0 + k ≡ k = omega arith in
    listed_at (entry_at w) no_entry 16 0 k h ∙ ap (entry_at w) e

pub first-is : (w : List ℕ) (k : ℕ) → k < 16 → (x : ℕ) → x ≡ (place (table_of w) k).first → x ≡ (entry_at w k).first
first-is w k h x q = q ∙ ap (λ (e : Entry). e.first) (table_at w k h)

pub size_is : (w : List ℕ) (k : ℕ) → k < 16 → (x : ℕ) → x ≡ (place (table_of w) k).size → x ≡ (entry_at w k).size
size_is w k h x q = q ∙ ap (λ (e : Entry). e.size) (table_at w k h)

-- past the sixteenth place there is none
pub table-past : (w : List ℕ) (k : ℕ) → 16 ≤ k → place (table_of w) k ≡ no_entry
table-past w k h = get_or-eq_default (table_of w).entries no_entry {n = k} (rw (table-long w) h)

-- what is read of a place's words, by the test that the code makes
module _ (w : List ℕ) (k : ℕ) where
  abbrev pub word-at : ℕ → ℕ
  word-at from = if ltb k 16 then get_or w (from + k) 0 else 0

  pub place-words : ((place (table_of w) k).source ≡ word-at 1 % 65536) × ((place (table_of w) k).first ≡ word-at 17)
      × ((place (table_of w) k).size ≡ word-at 33)
  place-words = go (dec_lt k 16)
    where
      go : Dec (k < 16)
          → ((place (table_of w) k).source ≡ word-at 1 % 65536) × ((place (table_of w) k).first ≡ word-at 17)
          × ((place (table_of w) k).size ≡ word-at 33)
      go (yes h) = rw (table_at w k h, lt-ltb k 16 h) (refl, refl, refl)
      go (no h) = rw (table-past w k (omega arith), le-ltb k 16 (omega arith)) (refl, refl, refl)

-- ---- overlapping

pub overlap-no : (first size a n : ℕ) (e : Entry) (x : Bool) → a ≡ e.first → n ≡ e.size → x ≡ ltb first (a + n)
    → not x ≡ true → false ≡ overlaps first size e
unfolding overlaps
overlap-no first size a n e x p q r h = rw (← p, ← q, ← r, not-true x h)

pub overlap-rest : (first size a n : ℕ) (e : Entry) (x y : Bool) → a ≡ e.first → n ≡ e.size → x ≡ ltb first (a + n)
    → not x ≡ false → y ≡ ltb a (first + size) → y ≡ overlaps first size e
unfolding overlaps
overlap-rest first size a n e x y p q r h z = rw (← p, ← q, ← r, not-false x h, z)

-- The first k places do not overlap it.
pub record Clear (w : List ℕ) (first size k : ℕ) : Type 0 where
  pub left : ℕ
  pub sum : k + left ≡ 16
  pub is : overlaps_any first size (table_of w).entries ≡ overlaps_any first size (listed (entry_at w) k left)

pub clear-start : (w : List ℕ) (first size : ℕ) → Clear w first size 0
unfolding table_of
clear-start w first size = record { left = 16; sum = refl; is = refl }

pub clear-turn : {w : List ℕ} {first size k : ℕ} (x : Bool) → k < 16 → Clear w first size k
    → x ≡ overlaps first size (place (table_of w) k) → x ≡ false → Clear w first size (k + 1)
unfolding overlaps_any listed
clear-turn {w} {first} {size} {k} x h l f q = go l.left l.sum l.is
  where
    e : x ≡ overlaps first size (entry_at w k)
    e = f ∙ ap (overlaps first size) (table_at w k h)

    go : (n : ℕ) → k + n ≡ 16
        → overlaps_any first size (table_of w).entries ≡ overlaps_any first size (listed (entry_at w) k n)
        → Clear w first size (k + 1)
    go zero z i = absurd (omega arith)
    go (suc n) z i =
        record { left = n; sum = omega arith; is = rw add-one (i ∙ rw (sym e ∙ q) refl) }

pub clear-found : {w : List ℕ} {first size k : ℕ} (x : Bool) → k < 16 → Clear w first size k
    → x ≡ overlaps first size (place (table_of w) k) → x ≡ true → true ≡ overlaps_any first size (table_of w).entries
unfolding overlaps_any listed
clear-found {w} {first} {size} {k} x h l f q = go l.left l.sum l.is
  where
    e : x ≡ overlaps first size (entry_at w k)
    e = f ∙ ap (overlaps first size) (table_at w k h)

    go : (n : ℕ) → k + n ≡ 16
        → overlaps_any first size (table_of w).entries ≡ overlaps_any first size (listed (entry_at w) k n)
        → true ≡ overlaps_any first size (table_of w).entries
    go zero z i = absurd (omega arith)
    go (suc n) z i = sym (i ∙ rw (sym e ∙ q) refl)

pub clear-done : {w : List ℕ} {first size k : ℕ} → 16 ≤ k → Clear w first size k
    → false ≡ overlaps_any first size (table_of w).entries
unfolding overlaps_any listed
clear-done {w} {first} {size} {k} h l = go l.left l.sum l.is
  where
    go : (n : ℕ) → k + n ≡ 16
        → overlaps_any first size (table_of w).entries ≡ overlaps_any first size (listed (entry_at w) k n)
        → false ≡ overlaps_any first size (table_of w).entries
    go zero z i = sym i
    go (suc n) z i = absurd (omega arith)

-- ---- one entry changed

pub table-set : (w left : List ℕ) (k : ℕ) (e : Entry) → k < 16 → get_or left 0 0 ≡ get_or w 0 0 → entry_at left k ≡ e
    → ((j : ℕ) → j < 16 → j ≢ k → entry_at left j ≡ entry_at w j) → table_of left ≡ with_entry (table_of w) k e
unfolding table_of
table-set w left k e h o at others =
    let es : listed (entry_at left) 0 16 ≡ set (listed (entry_at w) 0 16) k e =
    ext_get_or no_entry (listed (entry_at left) 0 16) (set (listed (entry_at w) 0 16) k e)
    (length-listed (entry_at left) 0 16
    ∙ sym (length-set (listed (entry_at w) 0 16) k e ∙ length-listed (entry_at w) 0 16)) each in
    rw (o, es) refl
  where
    each : (i : ℕ) → i < length (listed (entry_at left) 0 16)
        → get_or (listed (entry_at left) 0 16) i no_entry ≡ get_or (set (listed (entry_at w) 0 16) k e) i no_entry
    each i l = go (ℕ_discrete i k)
      where
        small : i < 16
        small = omega (arith, length-listed (entry_at left) 0 16)

        go : Dec (i ≡ k)
            → get_or (listed (entry_at left) 0 16) i no_entry ≡ get_or (set (listed (entry_at w) 0 16) k e) i no_entry
        go (yes q) =
            rw q (table_at left k h ∙ at
            ∙ sym (get_or-set_same (listed (entry_at w) 0 16) k e no_entry
            (omega (arith, length-listed (entry_at w) 0 16))))
        go (no q) =
            table_at left i small ∙ others i small q ∙ sym (table_at w i small)
            ∙ sym (get_or-set_other (listed (entry_at w) 0 16) k i e no_entry q)

-- ---- parts of words

-- a part that comes back is a run of stores
pub part-sets : (a k : ℕ) (xs ys : List ℕ) → length ys ≡ k → a + k ≤ length xs → put_mid a k xs ys ≡ sets xs a ys
part-sets a k xs ys e h =
    let d : drop k (drop a xs) ≡ drop (a + length ys) xs = rw e (drop-drop k a xs) in
    ap (λ (l : List ℕ). take a xs ++ (ys ++ l)) d
    ∙ sym (sets-eq ys xs a (omega arith) ∙ append_assoc (take a xs) ys (drop (a + length ys) xs))
