-- The index of a source among the words that hold sources, and that it is the source's place.
-- Assumes nothing.
use Rattle.table.proofs.Regions.{region-length}
use Prim.Native.Nat.{ℕ, zero, suc, ◌+◌, ◌%◌, ◌≤◌, ◌<◌}
use native.Mathlib.Omega.{arith}
use mathlib.Core.Path.{◌≡◌, refl, sym, ◌∙◌, ap}
use mathlib.Core.Bool.{Bool, true, false, cond, not}
use mathlib.Core.List.{List, [], ◌∷◌}
use borrow.Author.Tests.{lt-ltb, le-ltb}
use lib.Dec.{eqb, ltb}
use native.Mathlib.Decide.{dec_lt}
use Rattle.std.specs.Prelude.{Option, Some, None, unwrap_or}
use Rattle.std.specs.List.{position, position_or_len}
use Rattle.std.proofs.lemmas.List.Sums.{prefix_len-le-length}
use lib.ListN.{length, get_or, take, drop}
use lib.Seq.{drop-cons}
use Rattle.words.specs.Words.{listed}
use Rattle.table.specs.Table.{place_of}
use Rattle.table_words.specs.TableWords.{entry_at, index_of, table_of}

from-len : (m n : ℕ) → m ≤ n → unwrap_or (cond (ltb m n) (Some m) None) n ≡ m
from-len m n h = go (dec_lt m n)
  where
    go : Dec (m < n) → unwrap_or (cond (ltb m n) (Some m) None) n ≡ m
    go (yes l) = rw (lt-ltb m n l)
    go (no l) = rw (le-ltb m n (omega arith)) (omega arith)

one_more : (x s m : ℕ) (xs : List ℕ) → position_or_len (λ x. eqb (x % 65536) s) xs ≡ m
    → position_or_len (λ x. eqb (x % 65536) s) (x ∷ xs) ≡ cond (eqb (x % 65536) s) 0 (suc m)
one_more x s m xs h = go (eqb (x % 65536) s) refl
  where
    go : (b : Bool) → eqb (x % 65536) s ≡ b
        → position_or_len (λ x. eqb (x % 65536) s) (x ∷ xs) ≡ cond (eqb (x % 65536) s) 0 (suc m)
    go true e = rw e
    go false e = rw (e, h) (omega arith)

counted : (xs : List ℕ) (s : ℕ) → position_or_len (λ x. eqb (x % 65536) s) xs ≡ index_of xs s
unfolding index_of
counted [] s = refl
counted (x ∷ xs) s = one_more x s (index_of xs s) xs (counted xs s)

-- what the library's search finds is the index, and nothing where that is the number of words
pub found_at : (xs : List ℕ) (s : ℕ) → unwrap_or (position (λ x. eqb (x % 65536) s) xs) (length xs) ≡ index_of xs s
found_at xs s =
    from-len _ _ (prefix_len-le-length (λ x. not (eqb (x % 65536) s)) xs) ∙ counted xs s

-- ---- the place

index-from : (w : List ℕ) (s n k : ℕ) → 1 + k + n ≤ length w
    → index_of (take n (drop (1 + k) w)) s ≡ place_of (listed (entry_at w) k n) s
unfolding index_of place_of listed
index-from w s zero k h = refl
index-from w s (suc n) k h =
    let one : suc (1 + k) ≡ 1 + suc k = omega arith in
    rw (drop-cons w (1 + k) 0 (omega arith), one)
    (ap (λ (m : ℕ). cond (eqb (get_or w (1 + k) 0 % 65536) s) 0 (suc m)) (index-from w s n (suc k) (omega arith)))

pub index-is-place : (w : List ℕ) (s : ℕ) → 17 ≤ length w
    → index_of (take 16 (drop 1 w)) s ≡ place_of (table_of w).entries s
unfolding table_of
index-is-place w s h = index-from w s 16 0 (omega arith)

below : (m n k : ℕ) → Some k ≡ cond (ltb m n) (Some m) None → k < n
below m n k e = go (dec_lt m n)
  where
    go : Dec (m < n) → k < n
    go (yes l) = let q : ◌≡◌ {A = Option ℕ} (Some k) (Some m) = rw (lt-ltb m n l) at e in let z : k ≡ m = cc in omega arith
    go (no l) = let q : ◌≡◌ {A = Option ℕ} (Some k) None = rw (le-ltb m n (omega arith)) at e in absurd cc

module _ (w : List ℕ) (s : ℕ) (l : 17 ≤ length w) where
  sixteen : length (take 16 (drop 1 w)) ≡ 16
  sixteen = region-length 1 16 w (omega arith)

  pub place-found : (k : ℕ) → Some k ≡ position (λ x. eqb (x % 65536) s) (take 16 (drop 1 w))
      → (k ≡ place_of (table_of w).entries s) × (k < 16)
  place-found k e = (
    ap (λ (o : Option ℕ). unwrap_or o (length (take 16 (drop 1 w)))) e ∙ found_at _ s ∙ index-is-place w s l,
    omega (arith, sixteen, below _ _ k e),
  )

  pub place_missing : None ≡ position (λ x. eqb (x % 65536) s) (take 16 (drop 1 w))
      → place_of (table_of w).entries s ≡ 16
  place_missing e =
      sym (index-is-place w s l) ∙ sym (found_at _ s)
      ∙ sym (ap (λ (o : Option ℕ). unwrap_or o (length (take 16 (drop 1 w)))) e) ∙ sixteen
