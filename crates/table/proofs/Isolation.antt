-- Isolation: other cards' frames change neither a card's answers nor its region's bytes. Each call keeps two sites that
-- look the same to the card looking so (step consistency), and another card's frame changes nothing that it can see
-- (local respect); so a list comes to what its purge comes to, and two lists that agree have one purge.
-- Assumes nothing.
use Prim.Native.Nat.{ℕ}
use native.Mathlib.Decide.{ℕ_discrete}
use mathlib.Core.Path.{◌≡◌, refl, sym, ◌∙◌, ap}
use mathlib.Core.Bool.{Bool, true, false, cond, not, ◌&&◌, and-eq-true_iff}
use mathlib.Core.List.{List, [], ◌∷◌}
use borrow.Author.Tests.{not-true}
use lib.Dec.{eqb}
use lib.ListN.{length, take, length-take}
use Rattle.table.specs.Table.{register_refusal, region, table_refusal, register}
use Rattle.host.specs.declared.Pair.{Pair}
use Rattle.table.specs.Adopting.{adopt_refusal, adopt}
use Rattle.table.specs.Calls.{
  Call,
  registers,
  adopts,
  removes,
  comes,
  Site,
  open_site,
  lent_length,
  receiving,
  site_step,
  site_after,
  is_from,
  answering,
  told_to,
  is_removal,
  keeps_registered,
  site_step_for,
  site_after_for,
  told_to_for,
}
use Rattle.table.specs.Isolation.{purge, Agree, AnswersStay, Gives, BytesStay, Isolated}
use Rattle.table.proofs.Reachable.{open-reachable}
use Rattle.table.proofs.View.{
  view,
  register-same,
  refusal-same,
  adopt-same,
  adopt-refusal-same,
  remove-same,
  removal-same,
  frame-refusal-same,
  entry-same,
  receive-same,
  receive_other,
}
use Rattle.table.proofs.Calls.{
  from-source,
  refusal_of,
  refused-memory,
  call_length,
  ReachableSite,
  calls-reachable,
}
use Rattle.table.proofs.Holding.{Holds, holds-call, registers-new, adopts-new, other-region, own-region}

module _ (s : ℕ) where
  -- Two sites look the same to the card.
  pub record Seen (v w : Site) : Type 0 where
    pub tables : view s v.table ≡ view s w.table
    pub lengths : length v.memory ≡ length w.memory

  lent_same : (v w : Site) → Seen v w → (lent : ℕ) → lent_length v lent ≡ lent_length w lent
  lent_same v w q lent = simp (length-take, q.lengths)

  -- ---- one call

  seen_other : (v w : Site) → Seen v w → (f : List ℕ) (lent : ℕ) → is_from s f ≡ false
      → Seen (site_step v (comes f lent)) w
  unfolding site_step_for
  seen_other v w q f lent o = record {
    tables = receive_other s v.table f (take lent v.memory) o ∙ q.tables;
    lengths = call_length v (comes f lent) ∙ q.lengths;
  }

  seen-registers : (v w : Site) → Seen v w → (r first size lent : ℕ)
      → Seen (site_step v (registers r first size lent)) (site_step w (registers r first size lent))
  unfolding site_step_for
  seen-registers v w q r first size lent = record {
    tables = rw (lent_same v w q lent) (register-same s v.table w.table q.tables r first size
        (lent_length w lent));
    lengths = q.lengths;
  }

  seen-adopts : (v w : Site) → Seen v w → (p : Pair) (first size lent : ℕ)
      → Seen (site_step v (adopts p first size lent)) (site_step w (adopts p first size lent))
  unfolding site_step_for
  seen-adopts v w q p first size lent = record {
    tables =
        rw (lent_same v w q lent) (adopt-same s v.table w.table q.tables p first size (lent_length w lent));
    lengths = q.lengths;
  }

  seen-removes : (v w : Site) → Seen v w → (r : ℕ) → Seen (site_step v (removes r)) (site_step w (removes r))
  unfolding site_step_for
  seen-removes v w q r = record { tables = remove-same s v.table w.table q.tables r; lengths = q.lengths }

  seen-own : (v w : Site) → Seen v w → (f : List ℕ) (lent : ℕ) → is_from s f ≡ true
      → ((receiving v f lent).answer ≡ (receiving w f lent).answer)
      × Seen (site_step v (comes f lent)) (site_step w (comes f lent))
  unfolding site_step_for
  seen-own v w q f lent o =
      let r = receive-same s v.table w.table q.tables f (from-source s f o) (take lent v.memory)
      (take lent w.memory) (lent_same v w q lent) in (
        r.0,
        record {
          tables = r.1;
          lengths = call_length v (comes f lent) ∙ q.lengths ∙ sym (call_length w (comes f lent));
        },
      )

  -- ---- a list, and the same list without the others' frames

  answers-purge : (xs : List Call) (v w : Site) → Seen v w → told_to s v xs ≡ told_to s w (purge s xs)
  unfolding told_to_for purge register adopt
  answers-purge [] v w q = refl
  answers-purge (registers r first size lent ∷ xs) v w q =
      let told = refusal-same s v.table w.table q.tables r first size (lent_length v lent)
      ∙ ap (register_refusal w.table r first size) (lent_same v w q lent) in
      let rest = answers-purge xs (site_step v (registers r first size lent)) (site_step w (registers r first size lent))
      (seen-registers v w q r first size lent) in
      rw (told, rest)
  answers-purge (adopts p first size lent ∷ xs) v w q =
      let told = adopt-refusal-same s v.table w.table q.tables p first size (lent_length v lent)
      ∙ ap (adopt_refusal w.table p first size) (lent_same v w q lent) in
      let rest = answers-purge xs (site_step v (adopts p first size lent)) (site_step w (adopts p first size lent))
      (seen-adopts v w q p first size lent) in
      rw (told, rest)
  answers-purge (removes r ∷ xs) v w q =
      let told = removal-same s v.table w.table q.tables r in
      let rest = answers-purge xs (site_step v (removes r)) (site_step w (removes r)) (seen-removes v w q r) in
      rw (told, rest)
  answers-purge (comes f lent ∷ xs) v w q = go (answers-purge xs) (is_from s f) refl
    where
      Goal : Bool → Type 0
      Goal b =
          cond b (answering (receiving v f lent).answer ∷ told_to s (site_step v (comes f lent)) xs)
          (told_to s (site_step v (comes f lent)) xs)
          ≡ told_to s w (cond b (comes f lent ∷ purge s xs) (purge s xs))

      go : ((v w : Site) → Seen v w → told_to s v xs ≡ told_to s w (purge s xs)) → (b : Bool) → is_from s f ≡ b
          → Goal b
      go ih true o =
          let r = seen-own v w q f lent o in
          rw (o, r.0, ih (site_step v (comes f lent)) (site_step w (comes f lent)) r.1)
      go ih false o = ih (site_step v (comes f lent)) w (seen_other v w q f lent o)

  seen-purge : (xs : List Call) (v w : Site) → Seen v w → Seen (site_after v xs) (site_after w (purge s xs))
  unfolding site_after_for purge
  seen-purge [] v w q = q
  seen-purge (registers r first size lent ∷ xs) v w q =
      seen-purge xs (site_step v (registers r first size lent)) (site_step w (registers r first size lent))
      (seen-registers v w q r first size lent)
  seen-purge (adopts p first size lent ∷ xs) v w q =
      seen-purge xs (site_step v (adopts p first size lent)) (site_step w (adopts p first size lent))
      (seen-adopts v w q p first size lent)
  seen-purge (removes r ∷ xs) v w q =
      seen-purge xs (site_step v (removes r)) (site_step w (removes r)) (seen-removes v w q r)
  seen-purge (comes f lent ∷ xs) v w q = go (seen-purge xs) (is_from s f) refl
    where
      go : ((v w : Site) → Seen v w → Seen (site_after v xs) (site_after w (purge s xs))) → (b : Bool) → is_from s f ≡ b
          → Seen (site_after (site_step v (comes f lent)) xs)
          (site_after w (cond b (comes f lent ∷ purge s xs) (purge s xs)))
      go ih true o = ih (site_step v (comes f lent)) (site_step w (comes f lent)) (seen-own v w q f lent o).1
      go ih false o = ih (site_step v (comes f lent)) w (seen_other v w q f lent o)

  -- ---- the region

  module _ (a k : ℕ) where
    -- Two sites between the card's registering and its removal, with the same bytes in its region.
    record Both (v w : Site) : Type 0 where
      seen : Seen v w
      left : Holds s a k v
      right : Holds s a k w
      bytes : region a k v.memory ≡ region a k w.memory

    own-bytes : (v w : Site) → Both v w → (f : List ℕ) (lent : ℕ) → is_from s f ≡ true
        → region a k (site_step v (comes f lent)).memory ≡ region a k (site_step w (comes f lent)).memory
    own-bytes v w b f lent o = go (ℕ_discrete (refusal_of w f lent) 0)
      where
        same : refusal_of v f lent ≡ refusal_of w f lent
        same =
            frame-refusal-same s v.table w.table b.seen.tables f (lent_length v lent)
            ∙ ap (table_refusal w.table f) (lent_same v w b.seen lent)

        go : Dec (refusal_of w f lent ≡ 0)
            → region a k (site_step v (comes f lent)).memory ≡ region a k (site_step w (comes f lent)).memory
        go (yes z) =
            let e = entry-same s v.table w.table b.seen.tables in
            own-region s a k v b.left f lent (from-source s f o) (same ∙ z)
            ∙ rw (e, b.bytes) refl
            ∙ sym (own-region s a k w b.right f lent (from-source s f o) z)
        go (no z) =
            ap (region a k) (refused-memory v f lent (λ q. z (sym same ∙ q))) ∙ b.bytes
            ∙ ap (region a k) (sym (refused-memory w f lent z))

    both-other : (v w : Site) → Both v w → (f : List ℕ) (lent : ℕ) → is_from s f ≡ false
        → Both (site_step v (comes f lent)) w
    unfolding is_removal
    both-other v w b f lent o = record {
      seen = seen_other v w b.seen f lent o;
      left = holds-call s a k v b.left (comes f lent) refl;
      right = b.right;
      bytes = other-region s a k v b.left f lent o ∙ b.bytes;
    }

    both-same : (v w : Site) → Both v w → (x : Call) → is_removal s x ≡ false → Seen (site_step v x) (site_step w x)
        → region a k (site_step v x).memory ≡ region a k (site_step w x).memory → Both (site_step v x) (site_step w x)
    both-same v w b x o q e = record {
      seen = q;
      left = holds-call s a k v b.left x o;
      right = holds-call s a k w b.right x o;
      bytes = e;
    }

    bytes-purge : (xs : List Call) (v w : Site) → Both v w → keeps_registered s xs ≡ true
        → region a k (site_after v xs).memory ≡ region a k (site_after w (purge s xs)).memory
    unfolding site_after_for purge keeps_registered is_removal site_step_for
    bytes-purge [] v w b h = b.bytes
    bytes-purge (registers r first size lent ∷ xs) v w b h =
        bytes-purge xs (site_step v (registers r first size lent)) (site_step w (registers r first size lent))
        (both-same v w b (registers r first size lent) refl (seen-registers v w b.seen r first size lent)
        b.bytes) h
    bytes-purge (adopts p first size lent ∷ xs) v w b h =
        bytes-purge xs (site_step v (adopts p first size lent)) (site_step w (adopts p first size lent))
        (both-same v w b (adopts p first size lent) refl (seen-adopts v w b.seen p first size lent) b.bytes) h
    bytes-purge (removes r ∷ xs) v w b h =
        let n = (and-eq-true_iff (not (eqb r s)) (keeps_registered s xs)).0 h in
        bytes-purge xs (site_step v (removes r)) (site_step w (removes r))
        (both-same v w b (removes r) (not-true (eqb r s) n.0) (seen-removes v w b.seen r) b.bytes) n.1
    bytes-purge (comes f lent ∷ xs) v w b h =
        go (λ x y c. bytes-purge xs x y c h) (is_from s f) refl
      where
        go : ((v w : Site) → Both v w
            → region a k (site_after v xs).memory ≡ region a k (site_after w (purge s xs)).memory)
            → (c : Bool) → is_from s f ≡ c
            → region a k (site_after (site_step v (comes f lent)) xs).memory
            ≡ region a k (site_after w (cond c (comes f lent ∷ purge s xs) (purge s xs))).memory
        go ih true o =
            ih (site_step v (comes f lent)) (site_step w (comes f lent))
            (both-same v w b (comes f lent) refl (seen-own v w b.seen f lent o).1 (own-bytes v w b f lent o))
        go ih false o = ih (site_step v (comes f lent)) w (both-other v w b f lent o)

  keeps-purge : (xs : List Call) → keeps_registered s (purge s xs) ≡ keeps_registered s xs
  unfolding purge keeps_registered is_removal
  keeps-purge [] = refl
  keeps-purge (registers r first size lent ∷ xs) = keeps-purge xs
  keeps-purge (adopts p first size lent ∷ xs) = keeps-purge xs
  keeps-purge (removes r ∷ xs) = ap (λ (b : Bool). not (eqb r s) && b) (keeps-purge xs)
  keeps-purge (comes f lent ∷ xs) = go (keeps-purge xs) (is_from s f)
    where
      go : keeps_registered s (purge s xs) ≡ keeps_registered s xs → (b : Bool)
          → keeps_registered s (cond b (comes f lent ∷ purge s xs) (purge s xs)) ≡ keeps_registered s xs
      go ih true = ih
      go ih false = ih

-- ---- from the opening on

opened-seen : (s own : ℕ) (m n : List ℕ) → length m ≡ length n → Seen s (open_site own m) (open_site own n)
opened-seen s own m n e = record { tables = refl; lengths = e }

pub answers_stay : AnswersStay
answers_stay own s m n xs ys e q =
    answers-purge s xs (open_site own m) (open_site own n) (opened-seen s own m n e)
    ∙ ap (told_to s (open_site own n)) q
    ∙ sym (answers-purge s ys (open_site own n) (open_site own n) (opened-seen s own n n refl))

calls_seen : (s own : ℕ) (m n : List ℕ) (xs ys : List Call) → length m ≡ length n → Agree s xs ys
    → Seen s (site_after (open_site own m) xs) (site_after (open_site own n) ys)
calls_seen s own m n xs ys e q =
    let x = seen-purge s xs (open_site own m) (open_site own n) (opened-seen s own m n e) in
    let y = seen-purge s ys (open_site own n) (open_site own n) (opened-seen s own n n refl) in
    let z = ap (site_after (open_site own n)) q in
    record {
      tables = x.tables ∙ ap (λ (w : Site). view s w.table) z ∙ sym y.tables;
      lengths = x.lengths ∙ ap (λ (w : Site). length w.memory) z ∙ sym y.lengths;
    }

opened-reachable : (own : ℕ) (m : List ℕ) (xs : List Call) → ReachableSite (site_after (open_site own m) xs)
opened-reachable own m xs = calls-reachable (open_site own m) xs (open-reachable own (length m))

-- from a registering or an adopting on
module _ (s first size : ℕ) where
  gives-holds : (w : Site) (c : Call) → ReachableSite w → Gives s first size w c → Holds s first size (site_step w c)
  unfolding register adopt
  gives-holds w (registers r a k lent) h g = rw (← g.0, ← g.1, ← g.2) (registers-new w r a k lent h g.3).0
  gives-holds w (adopts p a k lent) h g = rw (← g.0, ← g.1, ← g.2) (adopts-new w p a k lent h g.3).0
  gives-holds w (removes r) h g = absurd g
  gives-holds w (comes f lent) h g = absurd g

  gives-memory : (w : Site) (c : Call) → Gives s first size w c → (site_step w c).memory ≡ w.memory
  unfolding site_step_for
  gives-memory w (registers r a k lent) g = refl
  gives-memory w (adopts p a k lent) g = refl
  gives-memory w (removes r) g = absurd g
  gives-memory w (comes f lent) g = absurd g

  module _ (v w : Site) (q : Seen s v w) where
    gives-seen : (c : Call) → Gives s first size v c → Seen s (site_step v c) (site_step w c)
    gives-seen (registers r a k lent) g = seen-registers s v w q r a k lent
    gives-seen (adopts p a k lent) g = seen-adopts s v w q p a k lent
    gives-seen (removes r) g = absurd g
    gives-seen (comes f lent) g = absurd g

    gives_same : (c : Call) → Gives s first size v c → Gives s first size w c
    unfolding register adopt
    gives_same (registers r a k lent) g = (
      g.0,
      g.1,
      g.2,
      ap (register_refusal w.table r a k) (sym (lent_same s v w q lent))
          ∙ sym (refusal-same s v.table w.table q.tables r a k (lent_length v lent)) ∙ g.3,
    )
    gives_same (adopts p a k lent) g = (
      g.0,
      g.1,
      g.2,
      ap (adopt_refusal w.table p a k) (sym (lent_same s v w q lent))
          ∙ sym (adopt-refusal-same s v.table w.table q.tables p a k (lent_length v lent)) ∙ g.3,
    )
    gives_same (removes r) g = absurd g
    gives_same (comes f lent) g = absurd g

module _ (s first size : ℕ) (c : Call) (v w : Site) (q : Seen s v w) (r : ReachableSite v) (t : ReachableSite w)
    (g : Gives s first size v c) (same : region first size v.memory ≡ region first size w.memory) where
  also : Gives s first size w c
  also = gives_same s first size v w q c g

  start : Both s first size (site_step v c) (site_step w c)
  start = record {
    seen = gives-seen s first size v w q c g;
    left = gives-holds s first size v c r g;
    right = gives-holds s first size w c t also;
    bytes = rw (gives-memory s first size v c g, gives-memory s first size w c also) same;
  }

  start-again : Both s first size (site_step w c) (site_step w c)
  start-again = record {
    seen = record { tables = refl; lengths = refl };
    left = start.right;
    right = start.right;
    bytes = refl;
  }

  stays : (xs ys : List Call) → Agree s xs ys → keeps_registered s xs ≡ true
      → region first size (site_after (site_step v c) xs).memory
      ≡ region first size (site_after (site_step w c) ys).memory
  stays xs ys a keeps =
      let kept : keeps_registered s ys ≡ true =
      sym (keeps-purge s ys) ∙ ap (keeps_registered s) (sym a) ∙ keeps-purge s xs ∙ keeps in
      bytes-purge s first size xs (site_step v c) (site_step w c) start keeps
      ∙ ap (λ (l : List Call). region first size (site_after (site_step w c) l).memory) a
      ∙ sym (bytes-purge s first size ys (site_step w c) (site_step w c) start-again kept)

pub bytes-stay : BytesStay
bytes-stay own s first size m n xs ys xs' ys' c e q q' g keeps same =
    stays s first size c (site_after (open_site own m) xs) (site_after (open_site own n) ys)
    (calls_seen s own m n xs ys e q) (opened-reachable own m xs) (opened-reachable own n ys) g same xs' ys' q' keeps

pub isolated : Isolated
isolated = (answers_stay, bytes-stay)
