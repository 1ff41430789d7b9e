-- A table opened anew with the cards of another, read back from their texts, has the same cards. Assumes nothing.
use Prim.Native.Nat.{ℕ, suc, ◌<◌}
use native.Mathlib.Decide.{ℕ_discrete}
use native.Mathlib.Omega.{arith}
use mathlib.Core.Path.{◌≡◌, refl, sym, ◌∙◌, ap}
use mathlib.Core.Logic.{◌≢◌, ◌⊎◌, inl, inr}
use mathlib.Core.Bool.{true}
use mathlib.Core.List.{List, [], ◌∷◌, map}
use borrow.Author.Tests.{eq-eqb}
use lib.ListN.{length, get_or}
use Rattle.host.specs.declared.Pair.{Pair}
use Rattle.delivery_restarts.specs.Restarts.{Store, text_left, specified_store}
use Rattle.delivery_restarts.proofs.Restarting.{KeepsPairs, read_back}
use Rattle.table.specs.Table.{Entry, no_entry, Table, open_table, registered, with_pair}
use Rattle.table.specs.Reachable.{Registered, place, ReachableTable, PairsReachable}
use Rattle.table.specs.Adopting.{take_out, adopt}
use Rattle.table.specs.Reopening.{adopt_all, reopened_with}
use Rattle.table.proofs.Lookups.{is-there, its-entry}
use Rattle.table.proofs.Adopting.{taken-pair}
use Rattle.table.proofs.Reopening.{all_back}
use Rattle.table.specs.Calls.{open_site, site_after}
use Rattle.table.proofs.Reachable.{open-reachable}
use Rattle.table.proofs.Calls.{calls-length, calls-reachable}
use Rattle.table.proofs.Pairs.{pairs-after}
use Rattle.delivery_table.specs.WholeTable.{through_text, WholeTableFor, WholeTable, WholeTableAfter}

-- cards that are as they were are adopted as they were
same-all : (f : Entry → Entry) → ((e : Entry) → (f e).source ≡ e.source) → (es : List Entry)
    → ((k : ℕ) → k < length es → (get_or es k no_entry).source ≢ 0 → f (get_or es k no_entry) ≡ get_or es k no_entry)
    → (u : Table) (memory : ℕ) → adopt_all u (map f es) memory ≡ adopt_all u es memory
unfolding adopt_all
same-all f s [] h u memory = refl
same-all f s (e ∷ es) h u memory =
    go (same-all f s es (λ k l. h (suc k) (omega arith))) (ℕ_discrete e.source 0)
  where
    go : ((u : Table) (memory : ℕ) → adopt_all u (map f es) memory ≡ adopt_all u es memory) → Dec (e.source ≡ 0)
        → adopt_all u (map f (e ∷ es)) memory ≡ adopt_all u (e ∷ es) memory
    go ih (yes z) = rw (eq-eqb (f e).source 0 (s e ∙ z), eq-eqb e.source 0 z) (ih u memory)
    go ih (no z) =
        let same : f e ≡ e = h 0 (omega arith) z in
        rw (same, ih u memory, ih (adopt u e.pair e.first e.size memory).table memory)

module _ (keep : Store) (back : KeepsPairs keep) (memory : ℕ) (t : Table) (buffers : ℕ → List ℕ)
    (r : ReachableTable memory t) (pairs : PairsReachable t)
    (stored : (x : ℕ) → registered t x ≡ true → (keep.storing (take_out t x).pair (buffers x)).refusal ≡ 0) where
  as_it_was : (k : ℕ) → (place t k).source ≢ 0
      → through_text keep t (buffers (place t k).source) (place t k) ≡ place t k
  unfolding through_text
  as_it_was k ne = go (r.each k)
    where
      s : ℕ
      s = (place t k).source

      known : registered t s ≡ true
      known = is-there memory t r s k ne refl

      taken : (take_out t s).pair ≡ (place t k).pair
      taken = taken-pair memory t r s known ∙ ap (λ (e : Entry). e.pair) (its-entry memory t r s k ne refl)

      reads : (p : Pair) → p ≡ (place t k).pair → (place t k).pair.own ≢ 0 → (place t k).pair.peer ≢ 0
          → (keep.storing p (buffers s)).refusal ≡ 0
          → (keep.restoring (text_left keep p (buffers s))).pair ≡ (place t k).pair
      reads p q own peer z = rw q (back (place t k).pair (buffers s) (pairs k) own peer (rw q at z))

      go : (place t k ≡ no_entry) ⊎ Registered t.own memory (place t k)
          → with_pair (place t k) (keep.restoring (text_left keep (take_out t s).pair (buffers s))).pair ≡ place t k
      go (inl q) = absurd (ne (ap (λ (e : Entry). e.source) q))
      go (inr g) =
          ap (with_pair (place t k))
          (reads (take_out t s).pair taken (λ z. g.own-some (sym g.pair-own ∙ z))
          (λ z. g.source-some (sym g.pair-peer ∙ z)) (stored s known))

  through : Entry → Entry
  through e = through_text keep t (buffers e.source) e

  same_source : (e : Entry) → (through e).source ≡ e.source
  unfolding through through_text
  same_source e = refl

  all_same : reopened_with t (map (λ e. through_text keep t (buffers e.source) e) t.entries) memory
      ≡ reopened_with t t.entries memory
  unfolding through
  all_same = same-all through same_source t.entries (λ k l ne. as_it_was k ne) _ memory

-- With any store that keeps pairs.
pub whole-table-by : (keep : Store) → KeepsPairs keep → WholeTableFor keep
whole-table-by keep back memory t buffers r pairs stored =
    rw (all_same keep back memory t buffers r pairs stored) (all_back memory t r)

pub whole-table : WholeTable
whole-table = whole-table-by specified_store read_back

pub whole-table-after : WholeTableAfter
unfolding open_table
whole-table-after own memory xs buffers h ty stored =
    let w = site_after (open_site own memory) xs in
    let r : ReachableTable (length memory) w.table =
    rw (← calls-length (open_site own memory) xs)
    (calls-reachable (open_site own memory) xs (open-reachable own (length memory))) in
    whole-table (length memory) w.table buffers r (pairs-after own memory xs h ty) stored
