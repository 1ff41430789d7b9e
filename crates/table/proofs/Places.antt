-- Places of a table: where a source is, and what one changed place leaves of the others.
-- Assumes nothing.
use Prim.Native.Nat.{ℕ, zero, suc, ◌+◌, ◌≤◌, ◌<◌}
use native.Mathlib.Decide.{dec_lt}
use native.Mathlib.Omega.{arith}
use mathlib.Core.Path.{◌≡◌, refl, sym, ◌∙◌, ap}
use mathlib.Core.Logic.{◌≢◌, ◌⊎◌, inl, inr}
use mathlib.Core.Bool.{Bool, true, false, cond, not, ◌||◌, and-eq-true_iff, true≢false}
use mathlib.Core.List.{List, [], ◌∷◌}
use borrow.Author.Tests.{eqb-true, eqb-false, eq-eqb, ne_eqb, ltb-true, lt-ltb, not-true, not-false}
use lib.Dec.{eqb, ltb}
use lib.ListN.{length, get_or, set, get_or-eq_default}
use Rattle.table.specs.Table.{Entry, no_entry, Table, place_of, entry_of, registered, is_full, overlaps, overlaps_any}
use Rattle.table.specs.Reachable.{place}

-- ---- where a source is

pub place-source : (es : List Entry) (s : ℕ) → place_of es s < length es → (get_or es (place_of es s) no_entry).source ≡ s
unfolding place_of
place-source [] s h = absurd (omega arith)
place-source (e ∷ es) s h = go (place-source es s) (eqb e.source s) refl h
  where
    go : (place_of es s < length es → (get_or es (place_of es s) no_entry).source ≡ s) → (b : Bool) → eqb e.source s ≡ b
        → cond b 0 (suc (place_of es s)) < suc (length es)
        → (get_or (e ∷ es) (cond b 0 (suc (place_of es s))) no_entry).source ≡ s
    go ih true z q = eqb-true e.source s z
    go ih false z q = ih (omega arith)

-- it is the first one
pub place-first : (es : List Entry) (s k : ℕ) → k < length es → (get_or es k no_entry).source ≡ s → place_of es s ≤ k
unfolding place_of
place-first [] s k h e = absurd (omega arith)
place-first (x ∷ es) s zero h e = rw (eq-eqb x.source s e) (omega arith)
place-first (x ∷ es) s (suc k) h e = go (place-first es s k (omega arith) e) (eqb x.source s)
  where
    go : place_of es s ≤ k → (b : Bool) → cond b 0 (suc (place_of es s)) ≤ suc k
    go ih true = omega arith
    go ih false = omega arith

-- it stays where it is put
pub place_set : (es : List Entry) (s : ℕ) (e : Entry) → e.source ≡ s
    → place_of (set es (place_of es s) e) s ≡ place_of es s
unfolding place_of
place_set [] s e q = refl
place_set (x ∷ es) s e q = go (place_set es s e q) (eqb x.source s) refl
  where
    go : place_of (set es (place_of es s) e) s ≡ place_of es s → (b : Bool) → eqb x.source s ≡ b
        → place_of (set (x ∷ es) (cond b 0 (suc (place_of es s))) e) s ≡ cond b 0 (suc (place_of es s))
    go ih true z = rw (eq-eqb e.source s q)
    go ih false z = rw (z, ih)

module _ (t : Table) (s : ℕ) where
  pub registered-place : registered t s ≡ true → (s ≢ 0) × (place_of t.entries s < length t.entries)
  unfolding registered
  registered-place e =
      let q = (and-eq-true_iff (not (eqb s 0)) (ltb (place_of t.entries s) (length t.entries))).0 e in
      (eqb-false s 0 (not-true (eqb s 0) q.0), ltb-true _ _ q.1)

  pub place-registered : s ≢ 0 → place_of t.entries s < length t.entries → registered t s ≡ true
  unfolding registered
  place-registered ne h = rw (ne_eqb s 0 ne, lt-ltb _ _ h)

  pub registered-source : registered t s ≡ true → (entry_of t s).source ≡ s
  registered-source e = place-source t.entries s (registered-place e).1

  -- no place has a source that is not registered
  pub unregistered : registered t s ≡ false → s ≢ 0 → (k : ℕ) → (place t k).source ≢ s
  unregistered e ne k q = go (dec_lt k (length t.entries))
    where
      go : Dec (k < length t.entries) → ⊥
      go (yes h) =
          let r = place-registered ne (omega (arith, place-first t.entries s k h q)) in
          true≢false (sym r ∙ e)
      go (no h) =
          let z : 0 ≡ s = ap (λ (x : Entry). x.source) (sym
          (get_or-eq_default t.entries no_entry {n = k} (omega arith))) ∙ q in
          ne (sym z)

pub free-place : (t : Table) → is_full t ≡ false → place_of t.entries 0 < length t.entries
unfolding is_full
free-place t e = ltb-true _ _ (not-false _ e)

-- ---- regions that overlap

-- none of the table overlaps
pub overlaps-none : (first size : ℕ) (es : List Entry) → overlaps_any first size es ≡ false → (k : ℕ) → k < length es
    → overlaps first size (get_or es k no_entry) ≡ false
unfolding overlaps_any
overlaps-none first size [] e k h = absurd (omega arith)
overlaps-none first size (x ∷ es) e zero h = go (overlaps first size x) e
  where
    go : (b : Bool) → (b || overlaps_any first size es) ≡ false → b ≡ false
    go true q = q
    go false q = refl
overlaps-none first size (x ∷ es) e (suc k) h = overlaps-none first size es (go (overlaps first size x) e) k
    (omega arith)
  where
    go : (b : Bool) → (b || overlaps_any first size es) ≡ false → overlaps_any first size es ≡ false
    go true q = absurd (true≢false q)
    go false q = q

-- "overlaps" says that two regions have a byte in common, where none is empty
pub overlaps-common : (first size : ℕ) (e : Entry) → 1 ≤ size → 1 ≤ e.size → overlaps first size e ≡ true
    → (x : ℕ) × (first ≤ x) × (x < first + size) × (e.first ≤ x) × (x < e.first + e.size)
unfolding overlaps
overlaps-common first size e h k q = go (dec_lt first e.first)
  where
    both : (first < e.first + e.size) × (e.first < first + size)
    both =
        let z = (and-eq-true_iff (ltb first (e.first + e.size)) (ltb e.first (first + size))).0 q in
        (ltb-true _ _ z.0, ltb-true _ _ z.1)

    go : Dec (first < e.first) → (x : ℕ) × (first ≤ x) × (x < first + size) × (e.first ≤ x) × (x < e.first + e.size)
    go (yes l) = (e.first, omega arith, omega (arith, both), omega arith, omega arith)
    go (no l) = (first, omega arith, omega arith, omega arith, omega (arith, both))

pub overlaps-apart : (first size : ℕ) (e : Entry) → overlaps first size e ≡ false
    → (first + size ≤ e.first) ⊎ (e.first + e.size ≤ first)
unfolding overlaps
overlaps-apart first size e q = go (dec_lt first (e.first + e.size)) (dec_lt e.first (first + size))
  where
    go : Dec (first < e.first + e.size) → Dec (e.first < first + size)
        → (first + size ≤ e.first) ⊎ (e.first + e.size ≤ first)
    go (no h) k = inr (omega arith)
    go (yes h) (no k) = inl (omega arith)
    go (yes h) (yes k) = absurd (true≢false (sym (rw (lt-ltb _ _ h, lt-ltb _ _ k) refl) ∙ q))
