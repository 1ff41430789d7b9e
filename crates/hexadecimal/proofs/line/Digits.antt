-- Which characters are digits, and the value of each.
-- Assumes nothing.
use mathlib.Core.Path.{◌≡◌, refl, sym, ◌∙◌, ap}
use mathlib.Core.Bool.{Bool, true, false, cond}
use mathlib.Core.List.{List}
use mathlib.Core.Logic.{◌≢◌}
use mathlib.Core.Option.{none, some}
use Prim.Native.Nat.{ℕ, zero, suc, ◌+◌, ◌-◌, ◌≤◌, ◌<◌}
use native.Mathlib.Nat.{add-zero, zero-add}
use native.Mathlib.Omega.{arith}
use borrow.Author.Tests.{leb-true}
use lib.Dec.{leb}
use lib.ListN.{get_or}
use Rattle.hexadecimal.specs.Line.{within, digit}
use Rattle.hexadecimal.specs.Taking.{value_or16}
use Rattle.hexadecimal.specs.Walking.{values_from, digit_values}

in-range : (low high c : ℕ) → within low high c ≡ true → (low ≤ c) × (c ≤ high)
unfolding within
in-range low high c e = go (leb low c) refl e
  where
    go : (b : Bool) → leb low c ≡ b → cond b (leb c high) false ≡ true → (low ≤ c) × (c ≤ high)
    go true q z = (leb-true low c q, leb-true c high z)
    go false q z = let w : ◌≡◌ {A = ℕ} 0 1 = cc in absurd (omega arith)

-- a digit's value is below 16, so 16 can stand for none
pub data Valued (c : ℕ) : Type 0 where
  is_digit : (d : ℕ) → digit c ≡ some d → d < 16 → Valued c
  no_digit : digit c ≡ none → Valued c

pub valued : (c : ℕ) → Valued c
unfolding digit
valued c = go (within 48 57 c) refl (within 97 102 c) refl (within 65 70 c) refl
  where
    go : (n : Bool) → within 48 57 c ≡ n → (s : Bool) → within 97 102 c ≡ s → (k : Bool) → within 65 70 c ≡ k → Valued c
    go true n s s' k k' =
        let r = in-range 48 57 c n in
        is_digit (c - 48) (rw n) (omega (arith, r.0, r.1))
    go false n true s k k' =
        let r = in-range 97 102 c s in
        is_digit (c - 97 + 10) (rw (n, s)) (omega (arith, r.0, r.1))
    go false n false s true k =
        let r = in-range 65 70 c k in
        is_digit (c - 65 + 10) (rw (n, s, k)) (omega (arith, r.0, r.1))
    go false n false s false k = no_digit (rw (n, s, k))

pub value-is : (c v : ℕ) → v ≡ value_or16 (digit c) → v ≤ 15 → digit c ≡ some v
value-is c v e h = go (valued c)
  where
    go : Valued c → digit c ≡ some v
    go (is_digit d q l) =
        let w : v ≡ d = e ∙ rw q in
        rw w q
    go (no_digit q) =
        let w : v ≡ 16 = e ∙ rw q in
        absurd (omega arith)

pub value_none : (c v : ℕ) → v ≡ value_or16 (digit c) → 15 < v → digit c ≡ none
value_none c v e h = go (valued c)
  where
    go : Valued c → digit c ≡ none
    go (is_digit d q l) =
        let w : v ≡ d = e ∙ rw q in
        absurd (omega arith)
    go (no_digit q) = q

-- the newline is none
pub not-newline : (c d : ℕ) → digit c ≡ some d → c ≢ 10
unfolding digit within
not-newline c d e n =
    let z : digit 10 ≡ some d = sym (ap digit n) ∙ e in
    let q : ◌≡◌ {A = ℕ} 0 1 = cc in
    absurd (omega arith)

-- the table has at each character its value
entry : (n i k : ℕ) → k < n → get_or (values_from n i) k 0 ≡ value_or16 (digit (i + k))
unfolding values_from
entry zero i k h = absurd (omega arith)
entry (suc n) i zero h = rw (add-zero i)
entry (suc n) i (suc k) h =
    let e : i + suc k ≡ suc i + k = omega arith in
    rw e (entry n (suc i) k (omega arith))

pub value-at : (c : ℕ) → c < 256 → get_or digit_values c 0 ≡ value_or16 (digit c)
unfolding digit_values
value-at c h = entry 256 0 c h ∙ rw (zero-add c)

pub looked-up : (values : List ℕ) (c v : ℕ) → values ≡ digit_values → (v ≡ get_or values c 0) × (c < 256)
    → v ≡ value_or16 (digit c)
looked-up values c v e f = f.0 ∙ rw e (value-at c f.1)
