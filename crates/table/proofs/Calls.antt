-- What one call leaves of table and memory.
-- Assumes nothing.
use Prim.Native.Nat.{ℕ, ◌+◌, ◌≤◌}
use native.Mathlib.Decide.{ℕ_discrete}
use native.Mathlib.Omega.{arith}
use mathlib.Core.Path.{◌≡◌, refl, ◌∙◌, ap}
use mathlib.Core.Logic.{◌≢◌}
use mathlib.Core.Bool.{Bool, true, false, cond, and-eq-true_iff}
use mathlib.Core.List.{List, [], ◌∷◌}
use borrow.Author.Tests.{eq-eqb, ne_eqb, eqb-true}
use lib.Dec.{eqb, leb}
use lib.ListN.{length, take, length-take, take-append-drop}
use lib.Seq.{sets, length-sets}
use Rattle.wire.specs.Reading.{source}
use Rattle.host.specs.declared.Pair.{Pair}
use Rattle.host.specs.Host.{Received, fresh, receive_of, refused}
use Rattle.table.specs.Table.{
  Entry,
  no_entry,
  Table,
  place_of,
  entry_of,
  registered,
  with_entry,
  register_refusal,
  register,
  remove,
  region,
  table_refusal,
  with_pair,
  received,
  table_receive,
}
use Rattle.table.specs.Reachable.{ReachableTable}
use Rattle.table.specs.Calls.{
  Call,
  registers,
  adopts,
  removes,
  comes,
  Site,
  lent_length,
  receiving,
  site_step,
  site_after,
  is_from,
  site_step_for,
  site_after_for,
}
use Rattle.table.proofs.Hosting.{receive-keeps}
use Rattle.table.proofs.Regions.{region-length, region-lent, sets-lent}
use Rattle.table.specs.Adopting.{adopt_refusal, adopted, adopt}
use Rattle.table.proofs.Adopting.{adopt-reachable}
use Rattle.table.proofs.Reachable.{
  Deliverable,
  deliverable,
  register-reachable,
  remove-reachable,
  receive-reachable-table,
}

-- ---- a frame

-- a frame of a card's own has its source
pub from-source : (s : ℕ) (f : List ℕ) → is_from s f ≡ true → source f ≡ s
unfolding is_from
from-source s f e = eqb-true (source f) s ((and-eq-true_iff (leb 4 (length f)) (eqb (source f) s)).0 e).1

-- what its source's pair makes of it, lent the region
abbrev pub at_pair : Site → List ℕ → Received
at_pair w f =
    let e = entry_of w.table (source f) in
    receive_of e.pair f (region e.first e.size w.memory)

abbrev pub refusal_of : Site → List ℕ → ℕ → ℕ
refusal_of w f lent = table_refusal w.table f (lent_length w lent)

module _ (w : Site) (f : List ℕ) (lent : ℕ) where
  abbrev e : Entry
  e = entry_of w.table (source f)

  -- it is refused, and nothing changes
  pub refused-answer : refusal_of w f lent ≢ 0 → (receiving w f lent).answer ≡ refused (refusal_of w f lent) 0
  unfolding table_receive
  refused-answer ne = rw (ne_eqb (refusal_of w f lent) 0 ne)

  pub refused-table : refusal_of w f lent ≢ 0 → (site_step w (comes f lent)).table ≡ w.table
  unfolding site_step_for table_receive
  refused-table ne = rw (ne_eqb (refusal_of w f lent) 0 ne)

  pub refused-memory : refusal_of w f lent ≢ 0 → (site_step w (comes f lent)).memory ≡ w.memory
  unfolding site_step_for table_receive
  refused-memory ne = rw (ne_eqb (refusal_of w f lent) 0 ne) (take-append-drop lent w.memory)

  -- or it reaches its source's pair
  module _ (z : refusal_of w f lent ≡ 0) where
    pub reaches : Deliverable w.table f (lent_length w lent)
    reaches = deliverable w.table f (lent_length w lent) z

    same-region : region e.first e.size (take lent w.memory) ≡ region e.first e.size w.memory
    same-region = region-lent e.first e.size lent w.memory reaches.inside

    pub region-fits : e.first + e.size ≤ length w.memory
    region-fits = omega (arith, reaches.inside, length-take lent w.memory)

    pub pair-length : length (at_pair w f).memory ≡ e.size
    pair-length =
        (receive-keeps e.pair (region e.first e.size w.memory) f).length-kept
        ∙ region-length e.first e.size w.memory region-fits

    pub reached-answer : (receiving w f lent).answer ≡ (at_pair w f).answer
    unfolding table_receive received
    reached-answer = rw (eq-eqb (refusal_of w f lent) 0 z, same-region)

    pub reached-table : (site_step w (comes f lent)).table
        ≡ with_entry w.table (place_of w.table.entries (source f)) (with_pair e (at_pair w f).pair)
    unfolding site_step_for table_receive received
    reached-table = rw (eq-eqb (refusal_of w f lent) 0 z, same-region)

    pub reached-memory : (site_step w (comes f lent)).memory ≡ sets w.memory e.first (at_pair w f).memory
    unfolding site_step_for table_receive received
    reached-memory =
        rw (eq-eqb (refusal_of w f lent) 0 z, same-region)
        (sets-lent e.first lent (at_pair w f).memory w.memory (omega (arith, reaches.inside, pair-length)))

-- ---- any call

pub call_length : (w : Site) (x : Call) → length (site_step w x).memory ≡ length w.memory
unfolding site_step_for
call_length w (registers s first size lent) = refl
call_length w (adopts p first size lent) = refl
call_length w (removes s) = refl
call_length w (comes f lent) = go (ℕ_discrete (refusal_of w f lent) 0)
  where
    go : Dec (refusal_of w f lent ≡ 0) → length (site_step w (comes f lent)).memory ≡ length w.memory
    go (yes z) =
        ap length (reached-memory w f lent z)
        ∙ length-sets w.memory (entry_of w.table (source f)).first (at_pair w f).memory
    go (no z) = ap length (refused-memory w f lent z)

pub calls-length : (w : Site) (xs : List Call) → length (site_after w xs).memory ≡ length w.memory
unfolding site_after_for
calls-length w [] = refl
calls-length w (x ∷ xs) = calls-length (site_step w x) xs ∙ call_length w x

pub call-own : (w : Site) (x : Call) → (site_step w x).table.own ≡ w.table.own
unfolding site_step_for register adopt remove table_receive received
call-own w (registers s first size lent) = go (eqb (register_refusal w.table s first size (lent_length w lent)) 0)
  where
    go : (b : Bool) → (cond b (with_entry w.table (place_of w.table.entries 0)
        (record { source = s; first = first; size = size; pair = fresh w.table.own s })) w.table).own
        ≡ w.table.own
    go true = refl
    go false = refl
call-own w (adopts p first size lent) = go (eqb (adopt_refusal w.table p first size (lent_length w lent)) 0)
  where
    go : (b : Bool) → (cond b (with_entry w.table (place_of w.table.entries 0) (adopted p first size)) w.table
        ).own ≡ w.table.own
    go true = refl
    go false = refl
call-own w (removes s) = go (registered w.table s)
  where
    go : (b : Bool)
        → (cond b (with_entry w.table (place_of w.table.entries s) no_entry) w.table).own ≡ w.table.own
    go true = refl
    go false = refl
call-own w (comes f lent) = go (ℕ_discrete (refusal_of w f lent) 0)
  where
    go : Dec (refusal_of w f lent ≡ 0) → (site_step w (comes f lent)).table.own ≡ w.table.own
    go (yes z) = ap (λ (t : Table). t.own) (reached-table w f lent z)
    go (no z) = ap (λ (t : Table). t.own) (refused-table w f lent z)

pub calls-own : (w : Site) (xs : List Call) → (site_after w xs).table.own ≡ w.table.own
unfolding site_after_for
calls-own w [] = refl
calls-own w (x ∷ xs) = calls-own (site_step w x) xs ∙ call-own w x

-- the table of a site is reachable with registerings in a memory no longer than the site's
abbrev pub ReachableSite : Site → Type 0
ReachableSite w = ReachableTable (length w.memory) w.table

call-reachable-in : (most : ℕ) (w : Site) (x : Call) → length w.memory ≤ most → ReachableTable most w.table
    → ReachableTable most (site_step w x).table
unfolding site_step_for
call-reachable-in most w (registers s first size lent) h r =
    register-reachable most w.table s first size (lent_length w lent) r (omega (arith, length-take lent w.memory))
call-reachable-in most w (adopts p first size lent) h r =
    adopt-reachable most w.table p first size (lent_length w lent) r (omega (arith, length-take lent w.memory))
call-reachable-in most w (removes s) h r = remove-reachable most w.table s r
call-reachable-in most w (comes f lent) h r = receive-reachable-table most w.table f (take lent w.memory) r

pub call-reachable : (w : Site) (x : Call) → ReachableSite w → ReachableSite (site_step w x)
call-reachable w x r = rw (call_length w x) (call-reachable-in (length w.memory) w x (omega arith) r)

pub calls-reachable : (w : Site) (xs : List Call) → ReachableSite w → ReachableSite (site_after w xs)
unfolding site_after_for
calls-reachable w [] r = r
calls-reachable w (x ∷ xs) r = calls-reachable (site_step w x) xs (call-reachable w x r)

-- ---- registering and removing

abbrev pub new_entry : Site → ℕ → ℕ → ℕ → Entry
new_entry w s first size = record { source = s; first = first; size = size; pair = fresh w.table.own s }

pub registered-table : (w : Site) (s first size lent : ℕ)
    → register_refusal w.table s first size (lent_length w lent) ≡ 0
    → (site_step w (registers s first size lent)).table
    ≡ with_entry w.table (place_of w.table.entries 0) (new_entry w s first size)
unfolding site_step_for register
registered-table w s first size lent z = rw (eq-eqb (register_refusal w.table s first size (lent_length w lent)) 0 z)

pub unregistered-table : (w : Site) (s first size lent : ℕ)
    → register_refusal w.table s first size (lent_length w lent) ≢ 0
    → (site_step w (registers s first size lent)).table ≡ w.table
unfolding site_step_for register
unregistered-table w s first size lent z = rw (ne_eqb (register_refusal w.table s first size (lent_length w lent)) 0 z)

pub adopted-table : (w : Site) (p : Pair) (first size lent : ℕ)
    → adopt_refusal w.table p first size (lent_length w lent) ≡ 0
    → (site_step w (adopts p first size lent)).table
    ≡ with_entry w.table (place_of w.table.entries 0) (adopted p first size)
unfolding site_step_for adopt
adopted-table w p first size lent z = rw (eq-eqb (adopt_refusal w.table p first size (lent_length w lent)) 0 z)

pub unadopted-table : (w : Site) (p : Pair) (first size lent : ℕ)
    → adopt_refusal w.table p first size (lent_length w lent) ≢ 0
    → (site_step w (adopts p first size lent)).table ≡ w.table
unfolding site_step_for adopt
unadopted-table w p first size lent z = rw (ne_eqb (adopt_refusal w.table p first size (lent_length w lent)) 0 z)

pub removed-table : (w : Site) (s : ℕ) → registered w.table s ≡ true
    → (site_step w (removes s)).table ≡ with_entry w.table (place_of w.table.entries s) no_entry
unfolding site_step_for remove
removed-table w s z = rw z

pub unremoved-table : (w : Site) (s : ℕ) → registered w.table s ≡ false → (site_step w (removes s)).table ≡ w.table
unfolding site_step_for remove
unremoved-table w s z = rw z
