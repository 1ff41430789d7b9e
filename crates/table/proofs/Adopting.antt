-- Registering is adopting a fresh pair; adopting keeps a table reachable; and a pair taken out and adopted with the
-- region that it had is back where it was. Assumes nothing.
use Prim.Native.Nat.{ℕ, ◌+◌, ◌≤◌, ◌<◌}
use native.Mathlib.Decide.{ℕ_discrete, dec_lt}
use native.Mathlib.Omega.{arith}
use mathlib.Core.Path.{◌≡◌, refl, sym, ◌∙◌, ap}
use mathlib.Core.Logic.{◌≢◌, inl, inr}
use mathlib.Core.Bool.{Bool, true, false, cond, not, true≢false}
use borrow.Author.Tests.{eq-eqb, ne_eqb, lt-ltb, le-ltb, eqb-true}
use lib.Dec.{eqb}
use lib.ListN.{length, length-set, get_or-eq_default}
use lib.Seq.{get_or-set_same, get_or-set_other}
use Rattle.host.specs.declared.Pair.{Pair}
use Rattle.host.specs.Host.{fresh}
use Rattle.host.specs.Reachable.{Reachable}
use Rattle.table.specs.Table.{
  Entry,
  no_entry,
  Table,
  place_of,
  entry_of,
  registered,
  is_full,
  with_entry,
  overlaps,
  overlaps_any,
  register_refusal,
  register,
  remove,
}
use Rattle.table.specs.Reachable.{Registered, place, Separate, ReachableTable, PairsReachable}
use Rattle.table.specs.Adopting.{take_out, adopt_refusal, adopted, adopt, SameCards, taken_and_back}
use Rattle.table.proofs.Places.{
  place-source,
  place-first,
  registered-place,
  registered-source,
  unregistered,
  free-place,
  overlaps-none,
  overlaps-apart,
}
use Rattle.table.proofs.Reachable.{
  Registerable,
  registerable,
  set-reachable,
  registered-entry,
  none-reachable,
  set-pairs,
}
use Rattle.table.proofs.Lookups.{overlaps-not, overlaps-nowhere, is-there, its-entry}

-- ---- registering

pub register-adopts : (t : Table) (s first size memory : ℕ)
    → register t s first size memory ≡ adopt t (fresh t.own s) first size memory
unfolding register adopt adopt_refusal fresh
register-adopts t s first size memory = rw (eq-eqb t.own t.own refl)

-- ---- adopting

-- what it means that nothing is refused
pub adoptable : (t : Table) (p : Pair) (first size memory : ℕ) → adopt_refusal t p first size memory ≡ 0
    → (p.own ≡ t.own) × (register_refusal t p.peer first size memory ≡ 0)
unfolding adopt_refusal
adoptable t p first size memory = go (eqb p.own t.own) refl
  where
    go : (b : Bool) → eqb p.own t.own ≡ b
        → cond (not b) 13 (register_refusal t p.peer first size memory) ≡ 0
        → (p.own ≡ t.own) × (register_refusal t p.peer first size memory ≡ 0)
    go true z q = (eqb-true p.own t.own z, q)
    go false z q = absurd (omega arith)

aside : (t : Table) (s first size memory : ℕ) (p : Pair) → Registerable t s first size memory → (k : ℕ)
    → Dec (k < length t.entries) → Separate (record { source = s; first = first; size = size; pair = p }) (place t k)
aside t s first size memory p g k (yes l) =
    overlaps-apart first size (place t k) (overlaps-none first size t.entries g.overlaps-no k l)
aside t s first size memory p g k (no l) =
    rw (get_or-eq_default t.entries no_entry {n = k} (omega arith)) (inr (omega arith))

pub adopt-reachable : (most : ℕ) (t : Table) (p : Pair) (first size memory : ℕ) → ReachableTable most t
    → memory ≤ most → ReachableTable most (adopt t p first size memory).table
unfolding adopt
adopt-reachable most t p first size memory r h = go (eqb (adopt_refusal t p first size memory) 0) refl
  where
    go : (b : Bool) → eqb (adopt_refusal t p first size memory) 0 ≡ b
        → ReachableTable most (cond b (with_entry t (place_of t.entries 0) (adopted p first size)) t)
    go false z = r
    go true z =
        let q = adoptable t p first size memory (eqb-true _ 0 z) in
        let g = registerable t p.peer first size memory q.1 in
        let fine : Registered t.own most (adopted p first size) = record {
          own-some = g.own-some;
          source-some = g.source-some;
          not-empty = g.not-empty;
          inside = omega (arith, g.inside);
          pair-own = q.0;
          pair-peer = refl;
        } in
        set-reachable most t r (place_of t.entries 0) (free-place t g.room) (adopted p first size) (inr fine)
        (λ k ne n x. unregistered t p.peer g.source-new g.source-some k (sym x))
        (λ k ne. aside t p.peer first size memory p g k (dec_lt k (length t.entries)))

-- ---- the pairs

-- what is taken out is as the host's own rules leave it, so that it can be stored and read back
pub taken-reachable : (t : Table) → PairsReachable t → (s : ℕ) → Reachable (take_out t s).pair
unfolding take_out
taken-reachable t r s = go (registered t s)
  where
    go : (b : Bool) → Reachable (cond b (entry_of t s).pair (fresh 0 0))
    go true = r (place_of t.entries s)
    go false = none-reachable t r

-- and what is adopted so leaves all pairs so
pub adopt-pairs : (t : Table) → PairsReachable t → (p : Pair) → Reachable p → (first size memory : ℕ)
    → PairsReachable (adopt t p first size memory).table
unfolding adopt
adopt-pairs t r p g first size memory = go (eqb (adopt_refusal t p first size memory) 0)
  where
    go : (b : Bool) → PairsReachable (cond b (with_entry t (place_of t.entries 0) (adopted p first size)) t)
    go true = set-pairs t r (place_of t.entries 0) (adopted p first size) g
    go false = r

-- ---- taken out and adopted

module _ (most : ℕ) (t : Table) (r : ReachableTable most t) (s : ℕ) (known : registered t s ≡ true) where
  abbrev e : Entry
  e = entry_of t s

  abbrev k : ℕ
  k = place_of t.entries s

  abbrev u : Table
  u = with_entry t k no_entry

  entry : Registered t.own most e
  entry = registered-entry most t s r known

  some : s ≢ 0
  some = (registered-place t s known).0

  k-inside : k < length t.entries
  k-inside = (registered-place t s known).1

  source_is : e.source ≡ s
  source_is = registered-source t s known

  pub taken-pair : (take_out t s).pair ≡ e.pair
  unfolding take_out
  taken-pair = rw known

  pub taken-refusal : (take_out t s).refusal ≡ 0
  unfolding take_out
  taken-refusal = rw known

  removed-is : (remove t s).table ≡ u
  unfolding remove
  removed-is = rw known

  removed-reachable : ReachableTable most u
  removed-reachable =
      set-reachable most t r k k-inside no_entry (inl refl) (λ i ne n q. n refl) (λ i ne. inl (omega arith))

  freed : place u k ≡ no_entry
  freed = get_or-set_same t.entries k no_entry no_entry k-inside

  kept : (i : ℕ) → i ≢ k → place u i ≡ place t i
  kept i ne = get_or-set_other t.entries k i no_entry no_entry ne

  u-long : length u.entries ≡ length t.entries
  u-long = length-set t.entries k no_entry

  -- nothing is refused
  gone : registered u s ≡ false
  gone = go (registered u s) refl
    where
      go : (b : Bool) → registered u s ≡ b → registered u s ≡ false
      go false z = z
      go true z =
          let i = place_of u.entries s in
          let q : (place u i).source ≡ s = registered-source u s z in
          absurd (by i q (ℕ_discrete i k))
        where
          by : (i : ℕ) → (place u i).source ≡ s → Dec (i ≡ k) → ⊥
          by i q (yes x) = some (sym q ∙ ap (λ (y : Entry). y.source) (ap (place u) x ∙ freed))
          by i q (no x) =
              let w : (place t i).source ≡ s = ap (λ (y : Entry). y.source) (sym (kept i x)) ∙ q in
              x (r.distinct i k (λ z. some (sym w ∙ z)) (w ∙ sym source_is))

  room : place_of u.entries 0 < length u.entries
  room =
      let at : (place u k).source ≡ 0 = ap (λ (y : Entry). y.source) freed in
      omega (arith, place-first u.entries 0 k (omega (arith, u-long, k-inside)) at, u-long, k-inside)

  apart-all : overlaps_any e.first e.size u.entries ≡ false
  apart-all = overlaps-nowhere e.first e.size u.entries (λ i l. one i (ℕ_discrete i k))
    where
      one : (i : ℕ) → Dec (i ≡ k) → overlaps e.first e.size (place u i) ≡ false
      one i (yes x) =
          ap (overlaps e.first e.size) (ap (place u) x ∙ freed)
          ∙ overlaps-not e.first e.size no_entry (inr (omega arith))
      one i (no x) =
          ap (overlaps e.first e.size) (kept i x)
          ∙ overlaps-not e.first e.size (place t i) (r.separate k i (λ z. x (sym z)))

  module _ (memory : ℕ) (lent : e.first + e.size ≤ memory) where
    pub not-refused : adopt_refusal u e.pair e.first e.size memory ≡ 0
    unfolding adopt_refusal register_refusal is_full
    not-refused =
        rw (
          eq-eqb e.pair.own t.own entry.pair-own,
          entry.pair-peer ∙ source_is,
          ne_eqb t.own 0 entry.own-some,
          ne_eqb s 0 some,
          gone,
          ne_eqb e.size 0 (λ z. omega (arith, entry.not-empty)),
          le-ltb memory (e.first + e.size) lent,
          apart-all,
          lt-ltb (place_of u.entries 0) (length u.entries) room,
        )

    -- a removed source's place and region are free for any source that is not registered then
    pub free-again : (x : ℕ) → x ≢ 0 → registered (remove t s).table x ≡ false
        → register_refusal (remove t s).table x e.first e.size memory ≡ 0
    unfolding register_refusal is_full
    free-again x ne z =
        let new : registered u x ≡ false = rw removed-is at z in
        rw (
          removed-is,
          ne_eqb t.own 0 entry.own-some,
          ne_eqb x 0 ne,
          new,
          ne_eqb e.size 0 (λ i. omega (arith, entry.not-empty)),
          le-ltb memory (e.first + e.size) lent,
          apart-all,
          lt-ltb (place_of u.entries 0) (length u.entries) room,
        )

    abbrev p : ℕ
    p = place_of u.entries 0

    same-entry : adopted e.pair e.first e.size ≡ e
    same-entry = rw entry.pair-peer

    abbrev v : Table
    v = with_entry u p e

    adopted-is : (adopt u e.pair e.first e.size memory).table ≡ v
    unfolding adopt
    adopted-is =
        rw (eq-eqb (adopt_refusal u e.pair e.first e.size memory) 0 not-refused)
        (ap (with_entry u p) same-entry)

    free-there : (place u p).source ≡ 0
    free-there = place-source u.entries 0 room

    v-reachable : ReachableTable most v
    v-reachable =
        set-reachable most u removed-reachable p room e (inr entry)
        (λ i ne n q. unregistered u s gone some i (sym q ∙ source_is))
        (λ i ne. separate i (ℕ_discrete i k))
      where
        separate : (i : ℕ) → Dec (i ≡ k) → Separate e (place u i)
        separate i (yes x) = rw (x, freed) (inr (omega arith))
        separate i (no x) = rw (kept i x) (r.separate k i (λ z. x (sym z)))

    there : place v p ≡ e
    there = get_or-set_same u.entries p e no_entry room

    elsewhere : (i : ℕ) → i ≢ p → place v i ≡ place u i
    elsewhere i ne = get_or-set_other u.entries p i e no_entry ne

    back-there : (x : ℕ) → registered t x ≡ true → (registered v x ≡ true) × (entry_of t x ≡ entry_of v x)
    back-there x z = go (ℕ_discrete x s)
      where
        some-x : x ≢ 0
        some-x = (registered-place t x z).0

        go : Dec (x ≡ s) → (registered v x ≡ true) × (entry_of t x ≡ entry_of v x)
        go (yes q) =
            let at : (place v p).source ≡ s = ap (λ (y : Entry). y.source) there ∙ source_is in
            rw q (
              is-there most v v-reachable s p some at,
              sym (its-entry most v v-reachable s p some at ∙ there),
            )
        go (no q) =
            let j = place_of t.entries x in
            let from : (place t j).source ≡ x = registered-source t x z in
            let not-k : j ≢ k = λ h. q (sym from ∙ ap (λ (i : ℕ). (place t i).source) h ∙ source_is) in
            let in-u : place u j ≡ place t j = kept j not-k in
            let not-p : j ≢ p = λ h. some-x (sym from ∙ ap (λ (y : Entry). y.source) (sym in-u)
            ∙ ap (λ (i : ℕ). (place u i).source) h ∙ free-there) in
            let in-v : place v j ≡ place t j = elsewhere j not-p ∙ in-u in
            let at : (place v j).source ≡ x = ap (λ (y : Entry). y.source) in-v ∙ from in (
              is-there most v v-reachable x j some-x at,
              sym (its-entry most v v-reachable x j some-x at ∙ in-v),
            )

    was-there : (x : ℕ) → registered v x ≡ true → registered t x ≡ true
    was-there x z = go (ℕ_discrete j p) (ℕ_discrete j k)
      where
        j : ℕ
        j = place_of v.entries x

        some-x : x ≢ 0
        some-x = (registered-place v x z).0

        from : (place v j).source ≡ x
        from = registered-source v x z

        go : Dec (j ≡ p) → Dec (j ≡ k) → registered t x ≡ true
        go (yes q) w =
            let is : x ≡ s = sym from ∙ ap (λ (i : ℕ). (place v i).source) q ∙ ap (λ (y : Entry). y.source) there
            ∙ source_is in
            rw is known
        go (no q) (yes w) =
            absurd (some-x (sym from ∙ ap (λ (y : Entry). y.source) (elsewhere j q ∙ ap (place u) w ∙ freed)))
        go (no q) (no w) =
            is-there most t r x j some-x
            (ap (λ (y : Entry). y.source) (sym (elsewhere j q ∙ kept j w)) ∙ from)

    same-cards : SameCards t v
    same-cards = record {
      own_same = refl;
      sources-same = λ x. go x (registered t x) refl (registered v x) refl;
      entries-same = λ x z. (back-there x z).1;
    }
      where
        go : (x : ℕ) (a : Bool) → registered t x ≡ a → (b : Bool) → registered v x ≡ b
            → registered t x ≡ registered v x
        go x true q b w = q ∙ sym (back-there x q).0
        go x false q true w = absurd (true≢false (sym (was-there x w) ∙ q))
        go x false q false w = q ∙ sym w

    -- taken out and adopted: nothing is refused, and the table has the same cards
    pub back-again : ((taken_and_back t s memory).refusal ≡ 0) × SameCards t (taken_and_back t s memory).table
    unfolding adopt
    back-again =
        rw (removed-is, taken-pair)
        (refusal, rw adopted-is same-cards)
      where
        refusal : (adopt u e.pair e.first e.size memory).refusal ≡ 0
        refusal = not-refused
