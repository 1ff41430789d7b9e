-- What a table finds: regions that have no byte in common with any of it, and a source where it is. Assumes nothing.
use Prim.Native.Nat.{ℕ, suc, ◌+◌, ◌<◌}
use native.Mathlib.Decide.{dec_lt}
use native.Mathlib.Omega.{arith}
use mathlib.Core.Path.{◌≡◌, refl, sym, ◌∙◌, ap}
use mathlib.Core.Logic.{◌≢◌, inl, inr}
use mathlib.Core.Bool.{Bool, true, false, ◌&&◌}
use mathlib.Core.List.{List, [], ◌∷◌}
use borrow.Author.Tests.{le-ltb}
use lib.Dec.{ltb}
use lib.ListN.{length, get_or, get_or-eq_default}
use Rattle.host.specs.Host.{fresh}
use Rattle.table.specs.Table.{Entry, no_entry, Table, place_of, entry_of, registered, overlaps, overlaps_any}
use Rattle.table.specs.Reachable.{place, Separate, ReachableTable}
use Rattle.table.proofs.Places.{place-source, place-first, place-registered}

pub overlaps-not : (first size : ℕ) (e : Entry)
    → Separate (record { source = 0; first = first; size = size; pair = fresh 0 0 }) e
    → overlaps first size e ≡ false
unfolding overlaps
overlaps-not first size e (inl h) = go (ltb first (e.first + e.size))
  where
    go : (b : Bool) → (b && ltb e.first (first + size)) ≡ false
    go true = rw (le-ltb e.first (first + size) h)
    go false = refl
overlaps-not first size e (inr h) = rw (le-ltb first (e.first + e.size) h)

pub overlaps-nowhere : (first size : ℕ) (es : List Entry)
    → ((k : ℕ) → k < length es → overlaps first size (get_or es k no_entry) ≡ false) → overlaps_any first size es ≡ false
unfolding overlaps_any
overlaps-nowhere first size [] h = refl
overlaps-nowhere first size (e ∷ es) h =
    let z : overlaps first size e ≡ false = h 0 (omega arith) in
    let rest : overlaps_any first size es ≡ false = overlaps-nowhere first size es (λ k l. h (suc k) (omega arith)) in
    rw (z, rest)

-- where a reachable table has a source, it finds it
module _ (most : ℕ) (t : Table) (r : ReachableTable most t) (s k : ℕ) (some : s ≢ 0)
    (at : (place t k).source ≡ s) where
  within : k < length t.entries
  within = go (dec_lt k (length t.entries))
    where
      go : Dec (k < length t.entries) → k < length t.entries
      go (yes l) = l
      go (no l) =
          let e : place t k ≡ no_entry = get_or-eq_default t.entries no_entry (omega arith) in
          absurd (some (sym at ∙ ap (λ (x : Entry). x.source) e))

  found : place_of t.entries s ≡ k
  found =
      let p = place_of t.entries s in
      let l : p < length t.entries = omega (arith, place-first t.entries s k within at, within) in
      let e : (place t p).source ≡ s = place-source t.entries s l in
      r.distinct p k (λ z. some (sym e ∙ z)) (e ∙ sym at)

  pub is-there : registered t s ≡ true
  is-there = place-registered t s some (omega (arith, found, within))

  pub its-entry : entry_of t s ≡ place t k
  its-entry = ap (place t) found
