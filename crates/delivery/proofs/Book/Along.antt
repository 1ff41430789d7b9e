-- Two lists of one length whose elements stand in a relation, one by one; and the last of a list.
-- Assumes nothing.
use Prim.Native.Nat.{ℕ, zero, suc}
use native.Mathlib.Omega.{arith}
use mathlib.Core.Path.{◌≡◌, refl}
use mathlib.Core.Logic.{◌⊎◌, inl, inr}
use mathlib.Core.List.{List, [], ◌∷◌, ◌++◌, map, Memᴰ}
use mathlib.Core.Option.{none, some}
use lib.ListN.{get_or, get_elem?}

module _ {A B : Type 0} (R : A → B → Type 0) where
  abbrev pub Along : List A → List B → Type 0
  Along [] [] = Unit {0}
  Along [] (y ∷ ys) = ⊥
  Along (x ∷ xs) [] = ⊥
  Along (x ∷ xs) (y ∷ ys) = R x y × Along xs ys

  pub along-more : (xs : List A) (ys : List B) (x : A) (y : B) → Along xs ys → R x y
      → Along (xs ++ (x ∷ [])) (ys ++ (y ∷ []))
  along-more [] [] x y a k = (k, tt)
  along-more [] (v ∷ vs) x y a k = absurd a
  along-more (u ∷ us) [] x y a k = absurd a
  along-more (u ∷ us) (v ∷ vs) x y a k = (a.0, along-more us vs x y a.1 k)

  -- What stands at index k, if anything does; d is read past the end.
  abbrev pub Found : A → List A → List B → ℕ → Type 0
  Found d xs ys k =
      ((get_elem? ys k ≡ none) × (get_or xs k d ≡ d))
      ⊎ ((y : B) × (get_elem? ys k ≡ some y) × Memᴰ y ys × R (get_or xs k d) y)

  pub along-at : (d : A) (xs : List A) (ys : List B) → Along xs ys → (k : ℕ) → Found d xs ys k
  along-at d [] [] a k = inl (refl, refl)
  along-at d [] (y ∷ ys) a k = absurd a
  along-at d (x ∷ xs) [] a k = absurd a
  along-at d (x ∷ xs) (y ∷ ys) a zero = inr (y, refl, Memᴰ.head refl, a.0)
  along-at d (x ∷ xs) (y ∷ ys) a (suc k) = go (along-at d xs ys a.1 k)
    where
      go : Found d xs ys k → Found d (x ∷ xs) (y ∷ ys) (suc k)
      go (inl p) = inl p
      go (inr p) = inr (p.0, p.1, Memᴰ.tail p.2, p.3)

-- a relation that follows at every index
pub along-alike : {A B : Type 0} (R S : A → B → Type 0) (xs : List A) (ys : List B)
    → ((y : B) → Memᴰ y ys → (x : A) → R x y → S x y) → Along R xs ys → Along S xs ys
along-alike R S [] [] h a = tt
along-alike R S [] (y ∷ ys) h a = a
along-alike R S (x ∷ xs) [] h a = a
along-alike R S (x ∷ xs) (y ∷ ys) h a =
    (h y (Memᴰ.head refl) x a.0, along-alike R S xs ys (λ z m. h z (Memᴰ.tail m)) a.1)

-- What stands in a list still stands there with more after it.
pub still-at : {A : Type 0} (xs ys : List A) (k : ℕ) (x : A) → get_elem? xs k ≡ some x → get_elem? (xs ++ ys) k ≡ some x
still-at [] ys k x q = absurd (let z : ◌≡◌ {A = ℕ} 0 1 = cc in omega arith)
still-at (y ∷ xs) ys zero x q = q
still-at (y ∷ xs) ys (suc k) x q = still-at xs ys k x q

-- The last of a list, d where it is empty.
unfoldable pub last : {A : Type 0} → A → List A → A
last d [] = d
last d (x ∷ xs) = last x xs

pub last-is : {A B : Type 0} (g : A → B) (xs : List A) (x : A) (d : B) → last d (map g (xs ++ (x ∷ []))) ≡ g x
unfolding last
last-is g [] x d = refl
last-is g (y ∷ xs) x d = last-is g xs x (g y)

pub last-plain : {A : Type 0} (xs : List A) (x d : A) → last d (xs ++ (x ∷ [])) ≡ x
unfolding last
last-plain [] x d = refl
last-plain (y ∷ xs) x d = last-plain xs x y
