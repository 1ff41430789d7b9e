-- A scene and a system of delivery, tied: one action on the scene is one event of the system, or none. Assumes nothing.
use Prim.Native.Nat.{ℕ, ◌+◌, ◌≤◌}
use native.Mathlib.Decide.{ℕ_discrete}
use native.Mathlib.Omega.{arith}
use mathlib.Core.Path.{◌≡◌, refl, sym, ◌∙◌, ap, subst}
use mathlib.Core.Logic.{◌⊎◌, inl, inr}
use mathlib.Core.Bool.{true, and-eq-true_iff}
use mathlib.Core.List.{List, [], map}
use borrow.Author.Tests.{eqb-true, eqb-false, not-true}
use lib.Dec.{eqb}
use lib.ListN.{length, get_or, length-take}
use Rattle.wire.specs.Reading.{destination, source, addressed}
use Rattle.host.specs.declared.Pair.{Pair}
use Rattle.host.specs.declared.Answer.{Answer}
use Rattle.host.specs.Host.{Received, receive_of}
use Rattle.delivery.specs.System.{specified_card, specified_host, CardCall, System, acks_for, by_host, card_step, host_step}
use Rattle.delivery.specs.Demand3.{seen_as}
use Rattle.table.specs.Table.{Entry, place_of, entry_of, registered, remove, region}
use Rattle.table.specs.Reachable.{Registered, ReachableTable}
use Rattle.table.specs.Adopting.{take_out, taken_and_back}
use Rattle.table.specs.Calls.{
  Call,
  registers,
  adopts,
  removes,
  comes,
  lent_length,
  receiving,
  site_step,
  is_from,
  is_removal,
  site_step_for,
}
use Rattle.delivery_table.specs.PerCard.{
  Scene,
  card_side,
  on_card,
  acks_to,
  on_table,
  aside,
  rehoused_site,
  rehouse,
  leaves_alone,
  acks_to_for,
  on_table_for,
  rehoused_site_for,
}
use Rattle.table.proofs.Hosting.{Idle, receive-keeps, short-idle, size-idle}
use Rattle.table.proofs.Reachable.{registered-entry, remove-reachable}
use Rattle.table.proofs.Adopting.{adopt-reachable, back-again}
use Rattle.table.proofs.Calls.{at_pair, refusal_of, reached-answer}
use Rattle.table.proofs.Holding.{
  Holds,
  found-entry,
  held-registered,
  holds-call,
  registers-leave,
  adopts-leave,
  removes-leave,
  others-leave,
  other-region,
  own-entry,
  own-region,
}
use Rattle.delivery_table.proofs.Passing.{
  no-acks,
  seen_none,
  Passed,
  passed-refused,
  passed-short,
  acks-same,
  length-alone,
}
use Rattle.delivery_table.proofs.CardSide.{card_part, side_same, append-same, map_more, quiet, columns-card}

module _ (s a k : ℕ) where
  -- The card is the same, the host is its pair in the table, and the memory its region. Answers differ at most in what
  -- is said to frames without a message.
  pub record Tied (v : Scene) (w : System) : Type 0 where
    pub columns : card_side v ≡ card_part w
    pub holds : Holds s a k v.site
    pub pair_is : (entry_of v.site.table s).pair ≡ w.host
    pub bytes-are : region a k v.site.memory ≡ w.memory
    pub answers-are : map seen_as v.answers ≡ map seen_as w.answers

  -- ---- a frame of the card's

  module _ (v : Scene) (w : System) (t : Tied v w) (f : List ℕ) (lent : ℕ) where
    abbrev given : Answer
    given = (receiving v.site f lent).answer

    abbrev r : Received
    r = receive_of w.host f w.memory

    -- the table does what the pair does
    record Met : Type 0 where
      met_holds : Holds s a k (site_step v.site (comes f lent))
      met-pair : (entry_of (site_step v.site (comes f lent)).table s).pair ≡ r.pair
      met-bytes : region a k (site_step v.site (comes f lent)).memory ≡ r.memory
      met-seen : seen_as given ≡ seen_as r.answer
      met-acks : acks_to v.site.table f given ≡ acks_for specified_host r.pair r.answer

    known : registered v.site.table s ≡ true
    known = held-registered s a k v.site t.holds

    entry : Registered v.site.table.own (length v.site.memory) (entry_of v.site.table s)
    entry = registered-entry (length v.site.memory) v.site.table s t.holds.reachable known

    first-is : (entry_of v.site.table s).first ≡ a
    first-is = ap (λ (x : Entry). x.first) (found-entry s a k v.site t.holds) ∙ t.holds.first-is

    size_is : (entry_of v.site.table s).size ≡ k
    size_is = ap (λ (x : Entry). x.size) (found-entry s a k v.site t.holds) ∙ t.holds.size_is

    host-own : w.host.own ≡ v.site.table.own
    host-own = ap (λ (p : Pair). p.own) (sym t.pair_is) ∙ entry.pair-own

    pub host-peer : w.host.peer ≡ s
    host-peer =
        ap (λ (p : Pair). p.peer) (sym t.pair_is) ∙ entry.pair-peer
        ∙ ap (λ (e : Entry). e.source) (found-entry s a k v.site t.holds) ∙ t.holds.source_is

    -- neither does anything
    met-idle : Idle w.host w.memory r → Passed v.site f lent → Met
    unfolding acks_to_for acks_for is_removal
    met-idle i p = record {
      met_holds = holds-call s a k v.site t.holds (comes f lent) refl;
      met-pair = rw p.table_same (t.pair_is ∙ sym i.pair_same);
      met-bytes = rw p.memory-same (t.bytes-are ∙ sym i.memory-same);
      met-seen = seen_none given p.no-effect ∙ sym (seen_none r.answer i.no-effect);
      met-acks =
          rw (
            no-acks v.site.table.own (source f) given p.no-effect,
            no-acks r.pair.own r.pair.peer r.answer i.no-effect,
          );
    }

    -- the frame reaches the card's pair
    met-reached : source f ≡ s → refusal_of v.site f lent ≡ 0 → Met
    unfolding is_removal
    met-reached from z =
        let at : at_pair v.site f ≡ receive_of w.host f w.memory =
        rw (from, first-is, size_is, t.pair_is, t.bytes-are) refl in
        let said : (receiving v.site f lent).answer ≡ (receive_of w.host f w.memory).answer =
        reached-answer v.site f lent z ∙ ap (λ (x : Received). x.answer) at in
        let kept = receive-keeps w.host w.memory f in
        record {
          met_holds = holds-call s a k v.site t.holds (comes f lent) refl;
          met-pair =
              ap (λ (x : Entry). x.pair) (own-entry s a k v.site t.holds f lent from z)
              ∙ ap (λ (x : Received). x.pair) at;
          met-bytes =
              own-region s a k v.site t.holds f lent from z ∙ rw (t.pair_is, t.bytes-are) refl;
          met-seen = ap seen_as said;
          met-acks =
              acks-same v.site.table f r.pair given r.answer said (kept.own-kept ∙ host-own)
              (kept.peer-kept ∙ host-peer ∙ sym from);
        }

    met-ours : addressed w.host.own w.host.peer f ≡ true → a + k ≤ lent → Met
    unfolding addressed
    met-ours o l = go (ℕ_discrete (refusal_of v.site f lent) 0)
      where
        both : (eqb (destination f) w.host.own ≡ true) × (eqb (source f) w.host.peer ≡ true)
        both = (and-eq-true_iff (eqb (destination f) w.host.own) (eqb (source f) w.host.peer)).0 o

        from : source f ≡ s
        from = eqb-true (source f) w.host.peer both.1 ∙ host-peer

        fits : (entry_of v.site.table (source f)).first + (entry_of v.site.table (source f)).size ≤ lent_length
            v.site lent
        fits = rw (from, first-is, size_is) (omega
            (arith, entry.inside, first-is, size_is, length-take lent v.site.memory))

        go : Dec (refusal_of v.site f lent ≡ 0) → Met
        go (yes z) = met-reached from z
        go (no z) =
            met-idle (size-idle w.host w.memory f
            (length-alone v.site.table f (lent_length v.site lent)
            (eqb-true (destination f) w.host.own both.0 ∙ host-own) (rw from known) fits z))
            (passed-refused v.site f lent z)

    met : (addressed w.host.own w.host.peer f ≡ true) ⊎ (length f ≤ 10) → a + k ≤ lent → Met
    met (inl o) l = met-ours o l
    met (inr h) l = met-idle (short-idle w.host w.memory f h) (passed-short v.site f lent h)

  -- ---- one action

  module _ (v : Scene) (w : System) (t : Tied v w) where
    -- a call on the card
    pub tied-card : (x : CardCall) → Tied (on_card v x).scene (card_step specified_card w x).system
    unfolding on_card
    tied-card x =
        let q = quiet x w in
        record {
          columns = (columns-card v w x t.columns).0;
          holds = t.holds;
          pair_is = t.pair_is ∙ sym q.host-same;
          bytes-are = t.bytes-are ∙ sym q.memory-same;
          answers-are = t.answers-are ∙ ap (map seen_as) (sym q.answers-same);
        }

    -- the table receives what the card handed out
    pub tied-table : (j lent : ℕ) → a + k ≤ lent
        → (addressed w.host.own w.host.peer (get_or w.hand_outs j []) ≡ true)
        ⊎ (length (get_or w.hand_outs j []) ≤ 10)
        → Tied (on_table v j lent).scene (host_step specified_host w j).system
    unfolding on_table_for by_host
    tied-table j lent l p =
        let handed = ap (λ (u : System). u.hand_outs) t.columns in
        let same : get_or w.hand_outs j [] ≡ get_or v.hand_outs j [] = ap (λ (x : List (List ℕ)). get_or x j [])
        (sym handed) in
        let f = get_or v.hand_outs j [] in
        let m = met v w t f lent (rw same at p) l in
        rw same (record {
          columns =
              side_same (ap (λ (u : System). u.card) t.columns) (ap (λ (u : System). u.slots) t.columns) handed
              (append-same (ap (λ (u : System). u.acks) t.columns) m.met-acks);
          holds = m.met_holds;
          pair_is = m.met-pair;
          bytes-are = m.met-bytes;
          answers-are =
              map_more v.answers w.answers (receiving v.site f lent).answer
              (receive_of w.host f w.memory).answer t.answers-are m.met-seen;
        })

    -- anything else
    pub tied-aside : (c : Call) → leaves_alone s c ≡ true → Tied (aside v c) w
    unfolding leaves_alone site_step_for
    tied-aside (registers r first size lent) o =
        let u = registers-leave s a k v.site t.holds r first size lent in
        record {
          columns = t.columns;
          holds = u.0;
          pair_is = ap (λ (e : Entry). e.pair) u.1 ∙ t.pair_is;
          bytes-are = t.bytes-are;
          answers-are = t.answers-are;
        }
    tied-aside (adopts p first size lent) o =
        let u = adopts-leave s a k v.site t.holds p first size lent in
        record {
          columns = t.columns;
          holds = u.0;
          pair_is = ap (λ (e : Entry). e.pair) u.1 ∙ t.pair_is;
          bytes-are = t.bytes-are;
          answers-are = t.answers-are;
        }
    tied-aside (removes r) o =
        let u = removes-leave s a k v.site t.holds r (eqb-false r s (not-true (eqb r s) o)) in
        record {
          columns = t.columns;
          holds = u.0;
          pair_is = ap (λ (e : Entry). e.pair) u.1 ∙ t.pair_is;
          bytes-are = t.bytes-are;
          answers-are = t.answers-are;
        }
    tied-aside (comes f lent) o =
        let u = others-leave s a k v.site t.holds f lent (not-true (is_from s f) o) in
        record {
          columns = t.columns;
          holds = u.0;
          pair_is = ap (λ (e : Entry). e.pair) u.1 ∙ t.pair_is;
          bytes-are = other-region s a k v.site t.holds f lent (not-true (is_from s f) o) ∙ t.bytes-are;
          answers-are = t.answers-are;
        }

    -- taken out and adopted back
    pub tied-rehoused : (lent : ℕ) → v.card.own ≡ s → a + k ≤ lent → Tied (rehouse v lent) w
    unfolding rehoused_site_for
    tied-rehoused lent own l =
        let y = v.site in
        let most = length y.memory in
        let h = t.holds in
        let known : registered y.table s ≡ true = held-registered s a k y h in
        let is = found-entry s a k y h in
        let e = entry_of y.table s in
        let g : Registered y.table.own most e = registered-entry most y.table s h.reachable known in
        let first-is : e.first ≡ a = ap (λ (x : Entry). x.first) is ∙ h.first-is in
        let size_is : e.size ≡ k = ap (λ (x : Entry). x.size) is ∙ h.size_is in
        let enough : e.first + e.size ≤ lent_length y lent =
        omega (arith, g.inside, first-is, size_is, length-take lent y.memory) in
        let back = back-again most y.table h.reachable s known (lent_length y lent) enough in
        let now = (taken_and_back y.table s (lent_length y lent)).table in
        let same : entry_of now s ≡ e = sym (back.1.entries-same s known) in
        let reach : ReachableTable most now =
        adopt-reachable most (remove y.table s).table (take_out y.table s).pair e.first e.size
        (lent_length y lent) (remove-reachable most y.table s h.reachable)
        (omega (arith, length-take lent y.memory)) in
        subst (λ (x : ℕ). Tied (housed x) w) (sym own) (record {
          columns = t.columns;
          holds = record {
            reachable = reach;
            some = h.some;
            at = place_of now.entries s;
            source_is = ap (λ (x : Entry). x.source) (same ∙ is) ∙ h.source_is;
            first-is = ap (λ (x : Entry). x.first) same ∙ first-is;
            size_is = ap (λ (x : Entry). x.size) same ∙ size_is;
          };
          pair_is = ap (λ (x : Entry). x.pair) same ∙ t.pair_is;
          bytes-are = t.bytes-are;
          answers-are = t.answers-are;
        })
      where
        housed : ℕ → Scene
        housed x = record {
          card = v.card;
          slots = v.slots;
          hand_outs = v.hand_outs;
          acks = v.acks;
          answers = v.answers;
          site = rehoused_site x v.site lent;
        }
