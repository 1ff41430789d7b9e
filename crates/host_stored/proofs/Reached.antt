-- Which pairs can be stored: those that opening and receiving can reach, and no other, where the IDs are not 0.
-- Assumes nothing.
use mathlib.Core.Path.{◌≡◌}
use mathlib.Core.List.{List}
use mathlib.Core.Logic.{◌≢◌, ◌⊎◌, inl, inr}
use Prim.Native.Nat.{ℕ, ◌<◌}
use native.Mathlib.Omega.{arith}
use lib.ListN.{get_or}
use Rattle.host.specs.declared.Open.{Open}
use Rattle.host.specs.Terms.{free}
use Rattle.host.specs.declared.Pair.{Pair}
use Rattle.host.specs.Reachable.{Underway, Reachable}
use Rattle.host.proofs.Reachable.{entry-is}
use Rattle.host_stored.specs.Form.{text_as, reading, read_as}
use Rattle.host_stored.specs.Storable.{TypedOpen, Typed, Partly, Storable}
use Rattle.host_stored.proofs.OneText.{stored-reads, read-stored}

-- ---- every reachable pair

typed-each : (o : Open) → (o ≡ free) ⊎ Underway o → TypedOpen o
typed-each o (inl e) =
    rw e (record
    { address-fits = omega arith; value-fits = omega arith; count_fits = omega arith; received-fits = omega arith })
typed-each o (inr u) = record {
  address-fits = u.address-fits;
  value-fits = u.value-fits;
  count_fits = u.count_fits;
  received-fits = omega (arith, u.some-to-come, u.count_fits);
}

partly-each : (o : Open) → (o ≡ free) ⊎ Underway o → (o ≡ free) ⊎ Partly o
partly-each o (inl e) = inl e
partly-each o (inr u) =
    inr (record { some-received = u.some-received; some-to-come = omega (arith, u.some-to-come) })

underway-each : (o : Open) → TypedOpen o → (o ≡ free) ⊎ Partly o → (o ≡ free) ⊎ Underway o
underway-each o t (inl e) = inl e
underway-each o t (inr p) =
    inr
    (record {
      some-received = p.some-received;
      some-to-come = omega (arith, p.some-received, p.some-to-come);
      count_fits = t.count_fits;
      address-fits = t.address-fits;
      value-fits = t.value-fits;
    })

module _ (p : Pair) where
  pub reachable-typed : Reachable p → Typed p
  reachable-typed r =
      let o = r.transactions in
      record {
        own-fits = r.own-fits;
        peer-fits = r.peer-fits;
        next_fits = r.next_fits;
        marks-fit = r.marks-fit;
        lowest-fits = o.lowest-fits;
        closed-fits = o.closed-fits;
        entries = o.entries;
        opens-fit = λ k. typed-each (get_or p.table k free) (o.each k);
      }

  pub reachable-storable : Reachable p → p.own ≢ 0 → p.peer ≢ 0 → Storable p
  reachable-storable r own peer =
      let o = r.transactions in
      record {
        own-id = own;
        peer-id = peer;
        next-new = r.next-new;
        lowest-open = o.lowest-open;
        opens = record {
          each = λ k. partly-each (get_or p.table k free) (o.each k);
          closed-free = λ j h e. rw (entry-is p.lowest.0 j) (o.closed-free j h e);
        };
      }

  -- so what a text reads as is as good as what opening and receiving hand back
  pub storable-reachable : Typed p → Storable p → Reachable p
  storable-reachable t s = record {
    own-fits = t.own-fits;
    peer-fits = t.peer-fits;
    ids = inr (s.own-id, s.peer-id);
    next_fits = t.next_fits;
    marks-fit = t.marks-fit;
    next-new = s.next-new;
    transactions = record {
      lowest-fits = t.lowest-fits;
      closed-fits = t.closed-fits;
      entries = t.entries;
      lowest-open = s.lowest-open;
      each = λ k. underway-each (get_or p.table k free) (t.opens-fit k) (s.opens.each k);
      closed-free = λ j h e. rw (← entry-is p.lowest.0 j) (s.opens.closed-free j h e);
    };
  }

-- ---- over a restart

-- what a run reaches comes back from its text, and what comes back from any text a run could have reached
pub reachable-returns : (version : ℕ) → version < 256 → (p : Pair) → Reachable p → p.own ≢ 0 → p.peer ≢ 0
    → read_as version (text_as version p) ≡ reading p
reachable-returns version v p r own peer =
    stored-reads version v p (reachable-typed p r) (reachable-storable p r own peer)

pub returned-reachable : (version : ℕ) (text : List ℕ) (p : Pair) → read_as version text ≡ reading p → Reachable p
returned-reachable version text p e =
    let s = read-stored version text p e in
    storable-reachable p s.typed s.storable
