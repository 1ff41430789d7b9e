-- Restarts: what was kept is the host's place and memory still, so long as nothing more is accepted; so a return that
-- the premise allows changes nothing. Assumes nothing.
use Prim.Native.Nat.{ℕ, zero, suc, ◌+◌, ◌≤◌, ◌<◌}
use native.Mathlib.Omega.{arith}
use mathlib.Core.Path.{◌≡◌, refl, sym, ap, ◌∙◌, subst}
use mathlib.Core.Logic.{◌≢◌, ◌⊎◌, inl, inr}
use mathlib.Core.Bool.{Bool, true, false, cond}
use mathlib.Core.List.{List, [], ◌∷◌, ◌++◌, append-nil, map, Memᴰ}
use mathlib.Core.Option.{Option, none, some}
use borrow.Author.Tests.{eqb-true}
use lib.Dec.{eqb, lit<}
use lib.ListN.{get_or, get_elem?}
use Rattle.seq.specs.Ring.{frame_space}
use Rattle.host.specs.declared.Pair.{Pair}
use Rattle.host.specs.declared.Opened.{Opened}
use Rattle.host.specs.declared.Answer.{Answer}
use Rattle.host.specs.Host.{receive_of}
use Rattle.host.specs.Reachable.{Reachable}
use Rattle.host_stored.proofs.OneText.{stored-returns}
use Rattle.host_stored.proofs.Reached.{reachable-typed, reachable-storable}
use Rattle.delivery.specs.System.{
  specified,
  Event,
  calls,
  receives,
  System,
  with_host_side,
  by_card,
  by_host,
  step,
}
use Rattle.delivery.specs.Book.{Book, book_step}
use Rattle.delivery.specs.Demand3.{typed, in_time, WritesAllowed, seen_as}
use Rattle.delivery.proofs.Book.Along.{Along, along-more, along-alike}
use Rattle.delivery.proofs.Agree.{SystemFor}
use Rattle.delivery.proofs.Demand.{step-any}
use Rattle.delivery_restarts.specs.Restarts.{Store, text_left, specified_store, Kept, kept_by, returned, Site}
use Rattle.delivery_restarts.specs.OverRestarts.{acceptances, nothing_since}
use Rattle.delivery_restarts.proofs.Accepting.{acceptance, unmoved, accepted-in, accepted-more}
use Rattle.delivery_restarts.proofs.Reaching.{receives-reachable}

-- ---- what stands at index k of both of two lists, if anything does

module _ {A B : Type 0} (R : A → B → Type 0) where
  abbrev Matched : List A → List B → ℕ → Type 0
  Matched xs ys k =
      ((get_elem? xs k ≡ none) × (get_elem? ys k ≡ none))
      ⊎ ((x : A) × (y : B) × (get_elem? xs k ≡ some x) × (get_elem? ys k ≡ some y) × R x y)

  along-find : (xs : List A) (ys : List B) → Along R xs ys → (k : ℕ) → Matched xs ys k
  along-find [] [] a k = inl (refl, refl)
  along-find [] (y ∷ ys) a k = absurd a
  along-find (x ∷ xs) [] a k = absurd a
  along-find (x ∷ xs) (y ∷ ys) a zero = inr (x, y, refl, refl, a.0)
  along-find (x ∷ xs) (y ∷ ys) a (suc k) = along-find xs ys a.1 k

-- ---- stores

-- A pair that a run can reach, with IDs that are not 0, is read back from the text that storing leaves.
abbrev pub KeepsPairs : Store → Type 0
KeepsPairs s = (p : Pair) (buffer : List ℕ) → Reachable p → p.own ≢ 0 → p.peer ≢ 0 → (s.storing p buffer).refusal ≡ 0
    → (s.restoring (text_left s p buffer)).pair ≡ p

pub read_back : KeepsPairs specified_store
read_back p buffer r own peer e =
    ap (λ (o : Opened). o.pair)
    (stored-returns 1 (lit< tt) p buffer (reachable-typed p r) (reachable-storable p r own peer) e)

-- ---- an ordinary call: it moves the host only where one arrival more is accepted

pub record HostEffect (w w' : System) (b b' : Book) : Type 0 where
  pub grows : acceptances b.expected ≤ acceptances b'.expected
  pub untouched : acceptances b'.expected ≡ acceptances b.expected
      → (w'.host ≡ w.host) × (w'.memory ≡ w.memory)
  pub keeps_reachable : Reachable w.host → Reachable w'.host

module _ (card_id host_id : ℕ) (card_fits : card_id < frame_space) (host_fits : host_id < frame_space) (keep : Store)
    (back : KeepsPairs keep) where
  abbrev For : System → Book → Type 0
  For = SystemFor card_id host_id

  -- the book's acceptances are the answers'
  counted : (w : System) (b : Book) → For w b → acceptances b.expected ≡ acceptances (map seen_as w.answers)
  counted w b f = accepted-in w.answers b.expected f.rest.traffic.matching

  effect_of : (w : System) (b b' : Book) (x : Event) → For w b → For (step specified w x).system b'
      → HostEffect w (step specified w x).system b b'
  unfolding step by_card by_host
  effect_of w b b' (calls x) f g =
      let same : acceptances b'.expected ≡ acceptances b.expected =
      counted (step specified w (calls x)).system b' g ∙ sym (counted w b f) in
      record { grows = omega (arith, same); untouched = λ z. (refl, refl); keeps_reachable = λ r. r }
  effect_of w b b' (receives k) f g =
      let frame = get_or w.hand_outs k [] in
      let a : Answer = (receive_of w.host frame w.memory).answer in
      let more : acceptances b'.expected ≡ acceptances b.expected + acceptance a =
      counted (step specified w (receives k)).system b' g ∙ accepted-more w.answers a
      ∙ ap (λ (n : ℕ). n + acceptance a) (sym (counted w b f)) in
      record {
        grows = omega (arith, more);
        untouched = λ z. unmoved w.host frame w.memory (omega (arith, more, z));
        keeps_reachable = receives-reachable card_id host_id card_fits host_fits w b f k;
      }

  -- ---- what is kept

  -- What was kept when n arrivals were accepted.
  abbrev KeptAt : System → Book → Kept → ℕ → Type 0
  KeptAt w b x n =
      (n ≤ acceptances b.expected)
      × (acceptances b.expected ≡ n → ((keep.restoring x.text).pair ≡ w.host) × (x.memory ≡ w.memory))

  -- The system and the book agree, and what was kept with the storings.
  pub record SiteFor (w : Site) (b : Book) (storings : List ℕ) : Type 0 where
    pub agree : For w.system b
    pub reachable : Reachable w.system.host
    pub host_some : host_id ≢ 0
    pub card_some : card_id ≢ 0
    pub kept_for : Along (KeptAt w.system b) w.kept storings

  module _ (w : Site) (b : Book) (storings : List ℕ) (f : SiteFor w b storings) where
    abbrev s : System
    s = w.system

    -- an ordinary call
    pub site-ordinary : (x : Event) → typed x ≡ true → in_time b x ≡ true
        → WritesAllowed (book_step b (step specified s x).observation)
        → SiteFor (record { system = (step specified s x).system; kept = w.kept })
        (book_step b (step specified s x).observation) storings
    site-ordinary x t i k = record {
      agree = after;
      reachable = e.keeps_reachable f.reachable;
      host_some = f.host_some;
      card_some = f.card_some;
      kept_for = along-alike (KeptAt s b) (KeptAt s' b') w.kept storings later f.kept_for;
    }
      where
        s' : System
        s' = (step specified s x).system

        b' : Book
        b' = book_step b (step specified s x).observation

        after : For s' b'
        after = step-any card_id host_id card_fits host_fits s b f.agree x t i k

        e : HostEffect s s' b b'
        e = effect_of s b b' x f.agree after

        later : (n : ℕ) → Memᴰ n storings → (y : Kept) → KeptAt s b y n → KeptAt s' b' y n
        later n m y a = (
          omega (arith, a.0, e.grows),
          λ z.
              let u = e.untouched (omega (arith, a.0, e.grows, z)) in
              let v = a.1 (omega (arith, a.0, e.grows, z)) in
              (v.0 ∙ sym u.0, v.1 ∙ sym u.1),
        )

    -- a storing
    pub site-stores : (buffer : List ℕ)
        → SiteFor (record { system = s; kept = w.kept ++ kept_by keep s buffer }) b
        (storings ++ cond (eqb (keep.storing s.host buffer).refusal 0) (acceptances b.expected ∷ []) [])
    unfolding kept_by
    site-stores buffer = record {
      agree = f.agree;
      reachable = f.reachable;
      host_some = f.host_some;
      card_some = f.card_some;
      kept_for = go (eqb (keep.storing s.host buffer).refusal 0) refl;
    }
      where
        now : Kept
        now = record { text = text_left keep s.host buffer; memory = s.memory }

        reads : (keep.storing s.host buffer).refusal ≡ 0 → (keep.restoring now.text).pair ≡ s.host
        reads =
            back s.host buffer f.reachable (λ z. f.host_some (sym f.agree.rest.host_own ∙ z))
            (λ z. f.card_some (sym f.agree.rest.host_peer ∙ z))

        go : (x : Bool) → eqb (keep.storing s.host buffer).refusal 0 ≡ x
            → Along (KeptAt s b) (w.kept ++ cond x (now ∷ []) [])
            (storings ++ cond x (acceptances b.expected ∷ []) [])
        go true e =
            along-more (KeptAt s b) w.kept storings now (acceptances b.expected) f.kept_for
            (omega arith, λ z. (reads (eqb-true _ _ e), refl))
        go false e =
            subst (λ (l : List Kept). Along (KeptAt s b) l (storings ++ [])) (sym (append-nil w.kept))
            (subst (λ (l : List ℕ). Along (KeptAt s b) w.kept l) (sym (append-nil storings)) f.kept_for)

    -- a return
    pub site-returns : (j : ℕ) → nothing_since b (get_elem? storings j) ≡ true
        → SiteFor (record { system = returned keep s (get_elem? w.kept j); kept = w.kept }) b storings
    unfolding nothing_since returned
    site-returns j since =
        subst (λ (v : System). SiteFor (record { system = v; kept = w.kept }) b storings)
        (sym (go (along-find (KeptAt s b) w.kept storings f.kept_for j))) f
      where
        as_it_was : (x : Kept) → (keep.restoring x.text).pair ≡ s.host → x.memory ≡ s.memory
            → returned keep s (some x) ≡ s
        as_it_was x p q = λ i. with_host_side s (p i) (q i)

        go : Matched (KeptAt s b) w.kept storings j → returned keep s (get_elem? w.kept j) ≡ s
        go (inl p) = ap (returned keep s) p.0
        go (inr p) =
            let n = p.1 in
            let same : acceptances b.expected ≡ n =
            eqb-true (acceptances b.expected) n (subst (λ (o : Option ℕ). nothing_since b o ≡ true) p.3 since) in
            let v = p.4.1 same in
            ap (returned keep s) p.2 ∙ as_it_was p.0 v.0 v.1
