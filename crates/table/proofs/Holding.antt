-- Between a source's registering and its removal: what a call leaves of its entry and of its region.
-- Assumes nothing.
use Prim.Native.Nat.{ℕ, ◌<◌}
use native.Mathlib.Decide.{ℕ_discrete, dec_lt}
use native.Mathlib.Omega.{arith}
use mathlib.Core.Path.{◌≡◌, refl, sym, ◌∙◌, ap}
use mathlib.Core.Logic.{◌≢◌}
use mathlib.Core.Bool.{Bool, true, false}
use mathlib.Core.List.{List}
use borrow.Author.Tests.{eqb-false}
use lib.ListN.{length, get_or-eq_default}
use lib.Seq.{get_or-set_same, get_or-set_other}
use Rattle.wire.specs.Reading.{source}
use Rattle.host.specs.declared.Pair.{Pair}
use Rattle.host.specs.Host.{receive_of}
use Rattle.table.specs.Table.{
  Entry,
  no_entry,
  place_of,
  entry_of,
  registered,
  with_entry,
  register_refusal,
  region,
  with_pair,
}
use Rattle.table.specs.Reachable.{place}
use Rattle.table.specs.Calls.{
  Call,
  registers,
  adopts,
  removes,
  comes,
  Site,
  lent_length,
  site_step,
  is_from,
  is_removal,
}
use Rattle.table.proofs.Regions.{sets-apart, sets_same}
use Rattle.table.proofs.Places.{
  place-source,
  place-first,
  place_set,
  place-registered,
  registered-source,
  free-place,
}
use Rattle.table.proofs.View.{other-source}
use Rattle.table.specs.Adopting.{adopt_refusal, adopted}
use Rattle.table.proofs.Adopting.{adoptable}
use Rattle.table.proofs.Reachable.{registerable}
use Rattle.table.proofs.Calls.{
  from-source,
  at_pair,
  refusal_of,
  refused-table,
  refused-memory,
  reaches,
  region-fits,
  pair-length,
  reached-table,
  reached-memory,
  ReachableSite,
  call-reachable,
  new_entry,
  registered-table,
  unregistered-table,
  adopted-table,
  unadopted-table,
  removed-table,
  unremoved-table,
}

-- s is registered, with the region of k bytes from a on, at place `at`.
pub record Holds (s a k : ℕ) (w : Site) : Type 0 where
  pub reachable : ReachableSite w
  pub some : s ≢ 0
  pub at : ℕ
  pub source_is : (place w.table at).source ≡ s
  pub first-is : (place w.table at).first ≡ a
  pub size_is : (place w.table at).size ≡ k

module _ (s a k : ℕ) (w : Site) (h : Holds s a k w) where
  pub at-inside : h.at < length w.table.entries
  at-inside = go (dec_lt h.at (length w.table.entries))
    where
      go : Dec (h.at < length w.table.entries) → h.at < length w.table.entries
      go (yes l) = l
      go (no l) =
          let e : place w.table h.at ≡ no_entry = get_or-eq_default w.table.entries no_entry (omega arith) in
          absurd (h.some (sym h.source_is ∙ ap (λ (x : Entry). x.source) e))

  -- it is found there
  pub found : place_of w.table.entries s ≡ h.at
  found =
      let p = place_of w.table.entries s in
      let l : p < length w.table.entries =
      omega (arith, place-first w.table.entries s h.at at-inside h.source_is, at-inside) in
      let e : (place w.table p).source ≡ s = place-source w.table.entries s l in
      h.reachable.distinct p h.at (λ z. h.some (sym e ∙ z)) (e ∙ sym h.source_is)

  pub found-entry : entry_of w.table s ≡ place w.table h.at
  found-entry = ap (place w.table) found

  pub held-registered : registered w.table s ≡ true
  unfolding registered
  held-registered =
      place-registered w.table s h.some (omega (arith, found, at-inside))

  -- where another source is, it is not
  pub elsewhere : (r i : ℕ) → (place w.table i).source ≡ r → r ≢ s → h.at ≢ i
  elsewhere r i e ne q = ne (sym e ∙ ap (λ (j : ℕ). (place w.table j).source) (sym q) ∙ h.source_is)

-- One call, from there on.
module _ (s a k : ℕ) (w : Site) (h : Holds s a k w) where
  -- it is still registered, and its entry is as it was
  abbrev pub Undisturbed : Call → Type 0
  Undisturbed x = Holds s a k (site_step w x) × (entry_of (site_step w x).table s ≡ entry_of w.table s)

  undisturbed : (x : Call) → place (site_step w x).table h.at ≡ place w.table h.at → Undisturbed x
  undisturbed x q =
      let still : Holds s a k (site_step w x) = record {
        reachable = call-reachable w x h.reachable;
        some = h.some;
        at = h.at;
        source_is = rw q h.source_is;
        first-is = rw q h.first-is;
        size_is = rw q h.size_is;
      } in
      (still, found-entry s a k (site_step w x) still ∙ q ∙ sym (found-entry s a k w h))

  -- nothing changed, or one other place
  undisturbed-same : (x : Call) → (site_step w x).table ≡ w.table → Undisturbed x
  undisturbed-same x q = undisturbed x (rw q refl)

  undisturbed-set : (x : Call) (i : ℕ) (e : Entry) → (site_step w x).table ≡ with_entry w.table i e → h.at ≢ i
      → Undisturbed x
  undisturbed-set x i e q ne = undisturbed x (rw q (get_or-set_other w.table.entries i h.at e no_entry ne))

  pub registers-leave : (r first size lent : ℕ) → Undisturbed (registers r first size lent)
  registers-leave r first size lent = go (ℕ_discrete (register_refusal w.table r first size (lent_length w lent)) 0)
    where
      p : ℕ
      p = place_of w.table.entries 0

      go : Dec (register_refusal w.table r first size (lent_length w lent) ≡ 0)
          → Undisturbed (registers r first size lent)
      go (no z) = undisturbed-same (registers r first size lent) (unregistered-table w r first size lent z)
      go (yes z) =
          let g = registerable w.table r first size (lent_length w lent) z in
          let e = place-source w.table.entries 0 (free-place w.table g.room) in
          undisturbed-set (registers r first size lent) p (new_entry w r first size)
          (registered-table w r first size lent z)
          (elsewhere s a k w h 0 p e (λ q. h.some (sym q)))

  pub adopts-leave : (p : Pair) (first size lent : ℕ) → Undisturbed (adopts p first size lent)
  adopts-leave p first size lent = go (ℕ_discrete (adopt_refusal w.table p first size (lent_length w lent)) 0)
    where
      i : ℕ
      i = place_of w.table.entries 0

      go : Dec (adopt_refusal w.table p first size (lent_length w lent) ≡ 0) → Undisturbed (adopts p first size lent)
      go (no z) = undisturbed-same (adopts p first size lent) (unadopted-table w p first size lent z)
      go (yes z) =
          let q = adoptable w.table p first size (lent_length w lent) z in
          let g = registerable w.table p.peer first size (lent_length w lent) q.1 in
          let e = place-source w.table.entries 0 (free-place w.table g.room) in
          undisturbed-set (adopts p first size lent) i (adopted p first size) (adopted-table w p first size lent z)
          (elsewhere s a k w h 0 i e (λ x. h.some (sym x)))

  pub removes-leave : (r : ℕ) → r ≢ s → Undisturbed (removes r)
  removes-leave r ne = go (registered w.table r) refl
    where
      go : (b : Bool) → registered w.table r ≡ b → Undisturbed (removes r)
      go false z = undisturbed-same (removes r) (unremoved-table w r z)
      go true z =
          undisturbed-set (removes r) (place_of w.table.entries r) no_entry (removed-table w r z)
          (elsewhere s a k w h r (place_of w.table.entries r) (registered-source w.table r z) ne)

  -- a frame that is refused, or comes from another source
  pub others-leave : (f : List ℕ) (lent : ℕ) → is_from s f ≡ false → Undisturbed (comes f lent)
  others-leave f lent o = go (ℕ_discrete (refusal_of w f lent) 0)
    where
      i : ℕ
      i = place_of w.table.entries (source f)

      go : Dec (refusal_of w f lent ≡ 0) → Undisturbed (comes f lent)
      go (no z) = undisturbed-same (comes f lent) (refused-table w f lent z)
      go (yes z) =
          undisturbed-set (comes f lent) i (with_pair (place w.table i) (at_pair w f).pair) (reached-table w f lent z)
          (elsewhere s a k w h (source f) i (registered-source w.table (source f) (reaches w f lent z).known)
          (other-source s w.table f (lent_length w lent) o z))

  -- a frame of its own changes its pair
  pub own-entry : (f : List ℕ) (lent : ℕ) → source f ≡ s → refusal_of w f lent ≡ 0
      → entry_of (site_step w (comes f lent)).table s ≡ with_pair (entry_of w.table s) (at_pair w f).pair
  own-entry f lent from z =
      let i = place_of w.table.entries s in
      let e = with_pair (place w.table i) (at_pair w f).pair in
      let l : i < length w.table.entries = omega (arith, found s a k w h, at-inside s a k w h) in
      let t : (site_step w (comes f lent)).table ≡ with_entry w.table i e =
      reached-table w f lent z
      ∙ ap (λ (r : ℕ). with_entry w.table (place_of w.table.entries r)
      (with_pair (entry_of w.table r) (at_pair w f).pair)) from in
      rw (t, place_set w.table.entries s e (place-source w.table.entries s l))
      (get_or-set_same w.table.entries i e no_entry l)

  own-holds : (f : List ℕ) (lent : ℕ) → is_from s f ≡ true → Holds s a k (site_step w (comes f lent))
  own-holds f lent o = go (ℕ_discrete (refusal_of w f lent) 0)
    where
      go : Dec (refusal_of w f lent ≡ 0) → Holds s a k (site_step w (comes f lent))
      go (no z) = (undisturbed-same (comes f lent) (refused-table w f lent z)).0
      go (yes z) =
          let q = own-entry f lent (from-source s f o) z in
          let e = found-entry s a k w h in
          record {
            reachable = call-reachable w (comes f lent) h.reachable;
            some = h.some;
            at = place_of (site_step w (comes f lent)).table.entries s;
            source_is = ap (λ (x : Entry). x.source) (q ∙ ap (λ (x : Entry). with_pair x (at_pair w f).pair) e)
                ∙ h.source_is;
            first-is = ap (λ (x : Entry). x.first) (q ∙ ap (λ (x : Entry). with_pair x (at_pair w f).pair) e)
                ∙ h.first-is;
            size_is = ap (λ (x : Entry). x.size) (q ∙ ap (λ (x : Entry). with_pair x (at_pair w f).pair) e)
                ∙ h.size_is;
          }

  comes-holds : (f : List ℕ) (lent : ℕ) → Holds s a k (site_step w (comes f lent))
  comes-holds f lent = go (is_from s f) refl
    where
      go : (b : Bool) → is_from s f ≡ b → Holds s a k (site_step w (comes f lent))
      go true o = own-holds f lent o
      go false o = (others-leave f lent o).0

  -- every call but its removal keeps it registered
  pub holds-call : (x : Call) → is_removal s x ≡ false → Holds s a k (site_step w x)
  unfolding is_removal
  holds-call (registers r first size lent) o = (registers-leave r first size lent).0
  holds-call (adopts p first size lent) o = (adopts-leave p first size lent).0
  holds-call (removes r) o = (removes-leave r (eqb-false r s o)).0
  holds-call (comes f lent) o = comes-holds f lent

  -- a frame of another source leaves the region as it is
  pub other-region : (f : List ℕ) (lent : ℕ) → is_from s f ≡ false
      → region a k (site_step w (comes f lent)).memory ≡ region a k w.memory
  other-region f lent o = go (ℕ_discrete (refusal_of w f lent) 0)
    where
      i : ℕ
      i = place_of w.table.entries (source f)

      go : Dec (refusal_of w f lent ≡ 0) → region a k (site_step w (comes f lent)).memory ≡ region a k w.memory
      go (no z) = ap (region a k) (refused-memory w f lent z)
      go (yes z) =
          let d = reaches w f lent z in
          let ne = other-source s w.table f (lent_length w lent) o z in
          let far = elsewhere s a k w h (source f) i (registered-source w.table (source f) d.known) ne in
          let apart = h.reachable.separate h.at i far in
          ap (region a k) (reached-memory w f lent z)
          ∙ sets-apart a k (place w.table i).first (at_pair w f).memory w.memory
          (rw (pair-length w f lent z, ← h.first-is, ← h.size_is) apart)

  -- a frame of its own leaves there what the pair made of it
  pub own-region : (f : List ℕ) (lent : ℕ) → source f ≡ s → refusal_of w f lent ≡ 0
      → region a k (site_step w (comes f lent)).memory
      ≡ (receive_of (entry_of w.table s).pair f (region a k w.memory)).memory
  own-region f lent from z =
      let first-is : (entry_of w.table (source f)).first ≡ a =
      ap (λ (r : ℕ). (entry_of w.table r).first) from ∙ ap (λ (e : Entry). e.first) (found-entry s a k w h)
      ∙ h.first-is in
      let size_is : (entry_of w.table (source f)).size ≡ k =
      ap (λ (r : ℕ). (entry_of w.table r).size) from ∙ ap (λ (e : Entry). e.size) (found-entry s a k w h)
      ∙ h.size_is in
      let e = entry_of w.table (source f) in
      let is : region e.first e.size (site_step w (comes f lent)).memory ≡ (at_pair w f).memory =
      ap (region e.first e.size) (reached-memory w f lent z)
      ∙ sets_same e.first e.size (at_pair w f).memory w.memory (pair-length w f lent z)
      (region-fits w f lent z) in
      rw (first-is, size_is, from) at is

-- An adopting that is not refused.
pub adopts-new : (w : Site) (p : Pair) (first size lent : ℕ) → ReachableSite w
    → adopt_refusal w.table p first size (lent_length w lent) ≡ 0
    → Holds p.peer first size (site_step w (adopts p first size lent))
    × (entry_of (site_step w (adopts p first size lent)).table p.peer ≡ adopted p first size)
adopts-new w p first size lent r z =
    let q = adoptable w.table p first size (lent_length w lent) z in
    let g = registerable w.table p.peer first size (lent_length w lent) q.1 in
    let i = place_of w.table.entries 0 in
    let is : place (site_step w (adopts p first size lent)).table i ≡ adopted p first size =
    rw (adopted-table w p first size lent z)
    (get_or-set_same w.table.entries i (adopted p first size) no_entry (free-place w.table g.room)) in
    let holds : Holds p.peer first size (site_step w (adopts p first size lent)) = record {
      reachable = call-reachable w (adopts p first size lent) r;
      some = g.source-some;
      at = i;
      source_is = rw is refl;
      first-is = rw is refl;
      size_is = rw is refl;
    } in
    (holds, found-entry p.peer first size (site_step w (adopts p first size lent)) holds ∙ is)

-- A registering that is not refused.
pub registers-new : (w : Site) (s first size lent : ℕ) → ReachableSite w
    → register_refusal w.table s first size (lent_length w lent) ≡ 0
    → Holds s first size (site_step w (registers s first size lent))
    × (entry_of (site_step w (registers s first size lent)).table s ≡ new_entry w s first size)
registers-new w s first size lent r z =
    let g = registerable w.table s first size (lent_length w lent) z in
    let p = place_of w.table.entries 0 in
    let is : place (site_step w (registers s first size lent)).table p ≡ new_entry w s first size =
    rw (registered-table w s first size lent z)
    (get_or-set_same w.table.entries p (new_entry w s first size) no_entry (free-place w.table g.room)) in
    let holds : Holds s first size (site_step w (registers s first size lent)) = record {
      reachable = call-reachable w (registers s first size lent) r;
      some = g.source-some;
      at = p;
      source_is = rw is refl;
      first-is = rw is refl;
      size_is = rw is refl;
    } in
    (holds, found-entry s first size (site_step w (registers s first size lent)) holds ∙ is)
