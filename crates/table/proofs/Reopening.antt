-- A table opened anew with the cards of another has the same cards. Assumes nothing.
use Prim.Native.Nat.{ℕ, zero, suc, ◌+◌, ◌≤◌, ◌<◌}
use native.Mathlib.Decide.{ℕ_discrete}
use native.Mathlib.Omega.{arith}
use mathlib.Core.Path.{◌≡◌, refl, sym, ◌∙◌, ap, subst}
use mathlib.Core.Logic.{◌≢◌, ◌⊎◌, inl, inr}
use mathlib.Core.Bool.{Bool, true, false, true≢false}
use mathlib.Core.List.{◌∷◌}
use borrow.Author.Tests.{eq-eqb, ne_eqb, lt-ltb, le-ltb}
use lib.ListN.{length, get_or, drop, replicate, drop_of_length-le}
use lib.Seq.{drop-cons, get_or-set_same, get_or-set_other}
use Rattle.table.specs.Table.{
  Entry,
  no_entry,
  Table,
  TableStep,
  open_table,
  place_of,
  entry_of,
  registered,
  is_full,
  with_entry,
  overlaps,
  overlaps_any,
  register_refusal,
}
use Rattle.table.specs.Reachable.{Registered, place, ReachableTable}
use Rattle.table.specs.Adopting.{adopt_refusal, adopt, SameCards}
use Rattle.table.specs.Reopening.{adopt_all, reopened_with, AllBack}
use Rattle.table.proofs.Places.{place-source, place-first, registered-place, registered-source}
use Rattle.table.proofs.Reachable.{open-reachable}
use Rattle.table.proofs.Adopting.{adopt-reachable}
use Rattle.table.proofs.Lookups.{overlaps-not, overlaps-nowhere, is-there, its-entry}

module _ (memory : ℕ) (t : Table) (r : ReachableTable memory t) where
  -- The cards of the first j places are in u, and no other; and u's places from j on are free.
  record Back (j : ℕ) (u : Table) : Type 0 where
    reach : ReachableTable memory u
    own : u.own ≡ t.own
    free-from : (i : ℕ) → j ≤ i → place u i ≡ no_entry
    from-t : (i : ℕ) → (place u i).source ≢ 0 → (k : ℕ) × (k < j) × (place u i ≡ place t k)
    to-u : (k : ℕ) → k < j → (place t k).source ≢ 0 → (i : ℕ) × (place u i ≡ place t k)

  nothing : (n i : ℕ) → get_or (replicate n no_entry) i no_entry ≡ no_entry
  nothing zero i = refl
  nothing (suc n) zero = refl
  nothing (suc n) (suc i) = nothing n i

  starts : Back 0 (open_table t.own).table
  unfolding open_table
  starts = record {
    reach = open-reachable t.own memory;
    own = refl;
    free-from = λ i h. nothing 16 i;
    from-t = λ i ne. absurd (ne (ap (λ (x : Entry). x.source) (nothing 16 i)));
    to-u = λ k h ne. absurd (omega arith);
  }

  -- ---- one place

  module _ (j : ℕ) (inside : j < 16) (u : Table) (b : Back j u) where
    abbrev e : Entry
    e = place t j

    -- it is free
    passed : e.source ≡ 0 → Back (suc j) u
    passed z = record {
      reach = b.reach;
      own = b.own;
      free-from = λ i h. b.free-from i (omega arith);
      from-t = λ i ne.
          let q = b.from-t i ne in
          (q.0, omega (arith, q.1), q.2);
      to-u = λ k h ne. go k h ne (ℕ_discrete k j);
    }
      where
        go : (k : ℕ) → k < suc j → (place t k).source ≢ 0 → Dec (k ≡ j) → (i : ℕ) × (place u i ≡ place t k)
        go k h ne (yes q) = absurd (ne (ap (λ (x : ℕ). (place t x).source) q ∙ z))
        go k h ne (no q) = b.to-u k (omega (arith, q)) ne

    -- it holds a card
    module _ (ne : e.source ≢ 0) where
      card : Registered t.own memory e
      card = go (r.each j)
        where
          go : (e ≡ no_entry) ⊎ Registered t.own memory e → Registered t.own memory e
          go (inl q) = absurd (ne (ap (λ (x : Entry). x.source) q))
          go (inr g) = g

      j-there : j < length u.entries
      j-there = omega (arith, b.reach.places)

      abbrev p : ℕ
      p = place_of u.entries 0

      p-early : p ≤ j
      p-early =
          place-first u.entries 0 j j-there (ap (λ (x : Entry). x.source) (b.free-from j (omega arith)))

      room : p < length u.entries
      room = omega (arith, p-early, j-there)

      p-free : (place u p).source ≡ 0
      p-free = place-source u.entries 0 room

      new : registered u e.source ≡ false
      new = go (registered u e.source) refl
        where
          go : (x : Bool) → registered u e.source ≡ x → registered u e.source ≡ false
          go false z = z
          go true z =
              let i = place_of u.entries e.source in
              let at : (place u i).source ≡ e.source = registered-source u e.source z in
              let q = b.from-t i (λ y. ne (sym at ∙ y)) in
              let same : (place t q.0).source ≡ e.source = ap (λ (x : Entry). x.source) (sym q.2) ∙ at in
              let is : q.0 ≡ j = r.distinct q.0 j (λ y. ne (sym same ∙ y)) same in
              absurd (omega (arith, q.1, is))

      apart : overlaps_any e.first e.size u.entries ≡ false
      apart = overlaps-nowhere e.first e.size u.entries (λ i l. one i (b.reach.each i))
        where
          one : (i : ℕ) → (place u i ≡ no_entry) ⊎ Registered u.own memory (place u i)
              → overlaps e.first e.size (place u i) ≡ false
          one i (inl q) = rw q (overlaps-not e.first e.size no_entry (inr (omega arith)))
          one i (inr g) =
              let q = b.from-t i g.source-some in
              rw q.2 (overlaps-not e.first e.size (place t q.0)
              (r.separate j q.0 (λ y. omega (arith, q.1, y))))

      not-refused : adopt_refusal u e.pair e.first e.size memory ≡ 0
      unfolding adopt_refusal register_refusal is_full
      not-refused =
          rw (
            eq-eqb e.pair.own u.own (card.pair-own ∙ sym b.own),
            card.pair-peer,
            ne_eqb u.own 0 (λ z. card.own-some (sym b.own ∙ z)),
            ne_eqb e.source 0 ne,
            new,
            ne_eqb e.size 0 (λ z. omega (arith, card.not-empty)),
            le-ltb memory (e.first + e.size) card.inside,
            apart,
            lt-ltb (place_of u.entries 0) (length u.entries) room,
          )

      none-refused : (adopt u e.pair e.first e.size memory).refusal ≡ 0
      unfolding adopt
      none-refused = not-refused

      abbrev v : Table
      v = with_entry u p e

      adopted-is : (adopt u e.pair e.first e.size memory).table ≡ v
      unfolding adopt
      adopted-is =
          rw (eq-eqb (adopt_refusal u e.pair e.first e.size memory) 0 not-refused)
          (ap (with_entry u p) (rw card.pair-peer))

      there : place v p ≡ e
      there = get_or-set_same u.entries p e no_entry room

      elsewhere : (i : ℕ) → i ≢ p → place v i ≡ place u i
      elsewhere i q = get_or-set_other u.entries p i e no_entry q

      adopts : Back (suc j) v
      adopts = record {
        reach = subst (ReachableTable memory) adopted-is
            (adopt-reachable memory u e.pair e.first e.size memory b.reach (omega arith));
        own = b.own;
        free-from = λ i h. elsewhere i (λ q. omega (arith, p-early, q)) ∙ b.free-from i (omega arith);
        from-t = λ i q. from i q (ℕ_discrete i p);
        to-u = λ k h q. to k h q (ℕ_discrete k j);
      }
        where
          from : (i : ℕ) → (place v i).source ≢ 0 → Dec (i ≡ p)
              → (k : ℕ) × (k < suc j) × (place v i ≡ place t k)
          from i q (yes z) = (j, omega arith, ap (place v) z ∙ there)
          from i q (no z) =
              let x = b.from-t i (λ y. q (ap (λ (d : Entry). d.source) (elsewhere i z) ∙ y)) in
              (x.0, omega (arith, x.1), elsewhere i z ∙ x.2)

          to : (k : ℕ) → k < suc j → (place t k).source ≢ 0 → Dec (k ≡ j) → (i : ℕ) × (place v i ≡ place t k)
          to k h q (yes z) = (p, there ∙ ap (place t) (sym z))
          to k h q (no z) =
              let x = b.to-u k (omega (arith, z)) q in
              let far : x.0 ≢ p = λ y. q (ap (λ (d : Entry). d.source) (sym x.1)
              ∙ ap (λ (i : ℕ). (place u i).source) y ∙ p-free) in
              (x.0, elsewhere x.0 far ∙ x.1)

  -- ---- all places

  abbrev Done : TableStep → Type 0
  Done s = (s.refusal ≡ 0) × Back 16 s.table

  from_place : (n j : ℕ) → n + j ≡ 16 → (u : Table) → Back j u → Done (adopt_all u (drop j t.entries) memory)
  unfolding adopt_all
  from_place zero j q u b =
      rw (drop_of_length-le t.entries {i = j} (omega (arith, r.places, q)))
      (refl, subst (λ (i : ℕ). Back i u) (omega (arith, q)) b)
  from_place (suc n) j q u b = go (from_place n (suc j) (omega (arith, q))) (ℕ_discrete (place t j).source 0)
    where
      inside : j < 16
      inside = omega (arith, q)

      split : drop j t.entries ≡ place t j ∷ drop (suc j) t.entries
      split = drop-cons t.entries j no_entry (omega (arith, r.places, inside))

      go : ((u : Table) → Back (suc j) u → Done (adopt_all u (drop (suc j) t.entries) memory))
          → Dec ((place t j).source ≡ 0) → Done (adopt_all u (drop j t.entries) memory)
      go ih (yes z) = rw (split, eq-eqb (place t j).source 0 z) (ih u (passed j inside u b z))
      go ih (no z) =
          rw (
            split,
            ne_eqb (place t j).source 0 z,
            none-refused j inside u b z,
            adopted-is j inside u b z,
          ) (ih (v j inside u b z) (adopts j inside u b z))

  -- ---- the same cards

  module _ (u : Table) (b : Back 16 u) where
    back-there : (x : ℕ) → registered t x ≡ true → (registered u x ≡ true) × (entry_of t x ≡ entry_of u x)
    back-there x z =
        let g = registered-place t x z in
        let k = place_of t.entries x in
        let from : (place t k).source ≡ x = registered-source t x z in
        let q = b.to-u k (omega (arith, g.1, r.places)) (λ y. g.0 (sym from ∙ y)) in
        let at : (place u q.0).source ≡ x = ap (λ (d : Entry). d.source) q.1 ∙ from in (
          is-there memory u b.reach x q.0 g.0 at,
          sym (its-entry memory u b.reach x q.0 g.0 at ∙ q.1),
        )

    was-there : (x : ℕ) → registered u x ≡ true → registered t x ≡ true
    was-there x z =
        let some = (registered-place u x z).0 in
        let i = place_of u.entries x in
        let from : (place u i).source ≡ x = registered-source u x z in
        let q = b.from-t i (λ y. some (sym from ∙ y)) in
        is-there memory t r x q.0 some (ap (λ (d : Entry). d.source) (sym q.2) ∙ from)

    same-cards : SameCards t u
    same-cards = record {
      own_same = sym b.own;
      sources-same = λ x. go x (registered t x) refl (registered u x) refl;
      entries-same = λ x z. (back-there x z).1;
    }
      where
        go : (x : ℕ) (m : Bool) → registered t x ≡ m → (n : Bool) → registered u x ≡ n
            → registered t x ≡ registered u x
        go x true q n w = q ∙ sym (back-there x q).0
        go x false q true w = absurd (true≢false (sym (was-there x w) ∙ q))
        go x false q false w = q ∙ sym w

pub all_back : AllBack
all_back memory t r =
    let d = from_place memory t r 16 0 (omega arith) (open_table t.own).table (starts memory t r) in
    (d.0, same-cards memory t r (reopened_with t t.entries memory).table d.1)
