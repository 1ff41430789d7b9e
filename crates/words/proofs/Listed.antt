-- The list of what a function gives from an index on, element by element.
-- Assumes nothing.
use mathlib.Core.Path.{◌≡◌, refl, ◌∙◌, ap}
use mathlib.Core.Logic.{◌≢◌}
use mathlib.Core.List.{List, [], ◌∷◌}
use Prim.Native.Nat.{ℕ, zero, suc, ◌+◌, ◌≤◌, ◌<◌}
use native.Mathlib.Nat.{not-suc-le-zero}
use native.Mathlib.Omega.{arith}
use lib.ListN.{length, get_or, set, replicate}
use Rattle.words.specs.Words.{listed}

pub length-listed : {A : Type 0} (f : ℕ → A) (k n : ℕ) → length (listed f k n) ≡ n
unfolding listed
length-listed f k zero = refl
length-listed f k (suc n) = ap suc (length-listed f (suc k) n)

pub listed_at : {A : Type 0} (f : ℕ → A) (d : A) (n k j : ℕ) → j < n → get_or (listed f k n) j d ≡ f (k + j)
unfolding listed
listed_at f d zero k j h = absurd (not-suc-le-zero h)
listed_at f d (suc n) k zero h = ap f (omega arith)
listed_at f d (suc n) k (suc j) h =
    let e : suc k + j ≡ k + suc j = omega arith in
    listed_at f d n (suc k) j (omega arith) ∙ ap f e

pub listed_same : {A : Type 0} (f g : ℕ → A) (n k : ℕ) → ((j : ℕ) → k ≤ j → j < k + n → g j ≡ f j)
    → listed g k n ≡ listed f k n
unfolding listed
listed_same f g zero k h = refl
listed_same f g (suc n) k h =
    let rest : listed g (suc k) n ≡ listed f (suc k) n =
    listed_same f g n (suc k) (λ j l m. h j (omega arith) (omega arith)) in
    rw (h k (omega arith) (omega arith), rest)

-- a list is known element by element
pub listed-is : {A : Type 0} (f : ℕ → A) (d : A) (n k : ℕ) (l : List A) → length l ≡ n
    → ((j : ℕ) → j < n → get_or l j d ≡ f (k + j)) → l ≡ listed f k n
unfolding listed
listed-is f d zero k [] e h = refl
listed-is f d zero k (x ∷ xs) e h = absurd (omega arith)
listed-is f d (suc n) k [] e h = absurd (omega arith)
listed-is f d (suc n) k (x ∷ xs) e h =
    let first : x ≡ f k = h 0 (omega arith) ∙ ap f (omega arith) in
    let rest : xs ≡ listed f (suc k) n =
    listed-is f d n (suc k) xs (omega arith) (λ j l. h (suc j) (omega arith) ∙ ap f (omega arith)) in
    rw (first, rest)

-- one element is another
listed-put : {A : Type 0} (f g : ℕ → A) (v : A) (n k s : ℕ) → s < n → g (k + s) ≡ v
    → ((j : ℕ) → k ≤ j → j < k + n → j ≢ k + s → g j ≡ f j) → listed g k n ≡ set (listed f k n) s v
unfolding listed
listed-put f g v zero k s l e h = absurd (not-suc-le-zero l)
listed-put f g v (suc n) k zero l e h =
    let none : k + 0 ≡ k = omega arith in
    let first : g k ≡ v = rw none at e in
    let rest : listed g (suc k) n ≡ listed f (suc k) n =
    listed_same f g n (suc k) (λ j x y. h j (omega arith) (omega arith) (λ q. omega arith)) in
    rw (first, rest)
listed-put f g v (suc n) k (suc s) l e h =
    let on : k + suc s ≡ suc k + s = omega arith in
    let first : g k ≡ f k = h k (omega arith) (omega arith) (λ q. omega arith) in
    let rest : listed g (suc k) n ≡ set (listed f (suc k) n) s v =
    listed-put f g v n (suc k) s (omega arith) (rw on at e)
    (λ j x y q. h j (omega arith) (omega arith) (λ p. q (omega arith))) in
    rw (first, rest)

pub listed-set : {A : Type 0} (f g : ℕ → A) (v : A) (n s : ℕ) → s < n → g s ≡ v
    → ((j : ℕ) → j < n → j ≢ s → g j ≡ f j) → listed g 0 n ≡ set (listed f 0 n) s v
listed-set f g v n s l e h =
    let z : 0 + s ≡ s = omega arith in
    listed-put f g v n 0 s l (ap g z ∙ e) (λ j x y q. h j (omega arith) (λ p. q (omega arith)))

-- all are the same
pub listed-all : {A : Type 0} (f : ℕ → A) (v : A) (n k : ℕ) → ((j : ℕ) → f j ≡ v) → listed f k n ≡ replicate n v
unfolding listed
listed-all f v zero k h = refl
listed-all f v (suc n) k h = rw (h k, listed-all f v n (suc k) h)
