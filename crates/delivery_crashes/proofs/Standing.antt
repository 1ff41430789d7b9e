-- What stands of a site: its system, or where the calls that follow undo what the host takes in now, the system with
-- what is kept brought back. Each call that survives is a step of what stands; all else leaves it as it is. Assumes
-- nothing.
use Prim.Native.Nat.{ℕ, ◌≤◌, ◌<◌}
use native.Mathlib.Omega.{arith}
use mathlib.Core.Path.{◌≡◌, refl, sym, ap, ◌∙◌, subst}
use mathlib.Core.Logic.{◌≢◌}
use mathlib.Core.Bool.{Bool, true, false, cond, ◌||◌}
use mathlib.Core.List.{List, [], ◌++◌, append-nil, append_assoc}
use borrow.Author.Tests.{eqb-true, ltb-true, leb-true}
use lib.Dec.{eqb, leb, ltb}
use lib.ListN.{length, length-append, get_or, get_or-append, get_or-eq_default}
use Rattle.seq.specs.Ring.{frame_space}
use Rattle.host.specs.declared.Pair.{Pair}
use Rattle.host.specs.Host.{receive_of}
use Rattle.host.specs.Reachable.{Reachable}
use Rattle.delivery.specs.System.{
  CardResult,
  specified,
  specified_host,
  CardCall,
  open_call,
  add_call,
  seal_call,
  read_call,
  show_call,
  choose_call,
  calls,
  receives,
  System,
  StepResult,
  card_result,
  by_card,
  acks_for,
  by_host,
  step,
}
use Rattle.delivery.specs.Book.{Book, book_step}
use Rattle.delivery.specs.Demand3.{typed, in_time, WritesAllowed}
use Rattle.delivery.proofs.Agree.{SystemFor}
use Rattle.delivery.proofs.Demand.{step-any}
use Rattle.delivery_restarts.specs.Restarts.{Store, text_left, RestartEnds, with_store}
use Rattle.delivery_restarts.proofs.Restarting.{KeepsPairs}
use Rattle.delivery_restarts.proofs.Reaching.{receives-reachable}
use Rattle.delivery_crashes.specs.Crashes.{
  Kept,
  kept_of,
  brought_back,
  Call,
  ordinary,
  stores,
  crashes,
  Site,
  kept_by,
  site_step,
}
use Rattle.delivery_crashes.specs.OverCrashes.{card_reads_kept}

abbrev pub standing : Bool → Site → System
standing true w = brought_back w.system w.kept
standing false w = w.system

-- the acknowledgements called for are those that were kept, and later ones
abbrev pub Grown : Site → Type 0
Grown w = (later : List (List ℕ)) × (w.system.acks ≡ w.kept.acks ++ later)

-- ---- a call on the card goes the same way

same-ack : (kept later : List (List ℕ)) (k : ℕ) → (ltb k (length kept) || leb (length (kept ++ later)) k) ≡ true
    → get_or kept k [] ≡ get_or (kept ++ later) k []
same-ack kept later k = go (ltb k (length kept)) refl
  where
    go : (x : Bool) → ltb k (length kept) ≡ x → (x || leb (length (kept ++ later)) k) ≡ true
        → get_or kept k [] ≡ get_or (kept ++ later) k []
    go true e h = sym (get_or-append kept later [] k (ltb-true k (length kept) e))
    go false e h =
        let l : length (kept ++ later) ≤ k = leb-true (length (kept ++ later)) k h in
        let m : length kept ≤ k = omega (arith, length-append kept later) in
        get_or-eq_default kept [] m ∙ sym (get_or-eq_default (kept ++ later) [] l)

card-same : (u : Bool) (w : Site) (x : CardCall) → Grown w → card_reads_kept w x ≡ true
    → card_result specified.card_end (standing u w) x ≡ card_result specified.card_end w.system x
card-same false w x g a = refl
card-same true w (open_call count address value) g a = refl
card-same true w (add_call t at bytes) g a = refl
card-same true w seal_call g a = refl
card-same true w (read_call k) g a =
    let h : (ltb k (length w.kept.acks) || leb (length (w.kept.acks ++ g.0)) k) ≡ true =
    subst (λ (l : List (List ℕ)). (ltb k (length w.kept.acks) || leb (length l) k) ≡ true) g.1 a in
    ap (λ (f : List ℕ). specified.card_end.reading w.system.card w.system.slots f)
    (same-ack w.kept.acks g.0 k h ∙ ap (λ (l : List (List ℕ)). get_or l k []) (sym g.1))
card-same true w (show_call n) g a = refl
card-same true w (choose_call ack) g a = refl

module _ (keep : Store) where
  abbrev e : RestartEnds
  e = with_store keep

  abbrev after : Site → Call → Site
  after w x = (site_step e w x).site

  -- What stands after a call on the card, and what the call shows.
  abbrev pub card_moves : Bool → Site → CardCall → StepResult
  card_moves u w x = record {
    system = standing u (after w (ordinary (calls x)));
    observation = (step specified w.system (calls x)).observation;
  }

  pub moves-card : (u : Bool) (w : Site) (x : CardCall) → Grown w → card_reads_kept w x ≡ true
      → step specified (standing u w) (calls x) ≡ card_moves u w x
  unfolding step site_step by_card
  moves-card u w x g a =
      ap (by_card (standing u w) x) (card-same u w x g a) ∙ go u (card_result specified.card_end w.system x)
    where
      moved : CardResult → Site
      moved r = record { system = (by_card w.system x r).system; kept = w.kept; undone_acks = w.undone_acks }

      go : (u : Bool) (r : CardResult) → by_card (standing u w) x r
          ≡ record { system = standing u (moved r); observation = (by_card w.system x r).observation }
      go true r = refl
      go false r = refl

  -- ---- all else leaves it as it is

  pub stands-crashes : (u : Bool) (w : Site) → standing u (after w crashes) ≡ standing true w
  unfolding site_step
  stands-crashes true w = refl
  stands-crashes false w = refl

  module _ (card_id host_id : ℕ) (card_fits : card_id < frame_space) (host_fits : host_id < frame_space)
      (back : KeepsPairs keep) where
    -- What stands and the book agree.
    pub record SiteFor (u : Bool) (w : Site) (b : Book) : Type 0 where
      pub agree : SystemFor card_id host_id (standing u w) b
      pub reachable : Reachable (standing u w).host
      pub host_some : host_id ≢ 0
      pub card_some : card_id ≢ 0
      pub grown : Grown w

    -- whether what the host took in before a storing is undone, where u says so of what it takes in after that
    abbrev undone_before : Site → List ℕ → Bool → Bool
    undone_before w buffer u = cond (eqb (keep.storing w.system.host buffer).refusal 0) false u

    pub stands-stores : (u : Bool) (w : Site) (b : Book) (buffer : List ℕ) → SiteFor (undone_before w buffer u) w b
        → standing u (after w (stores buffer)) ≡ standing (undone_before w buffer u) w
    unfolding site_step kept_by
    stands-stores u w b buffer = go (eqb (keep.storing w.system.host buffer).refusal 0) refl
      where
        p : Pair
        p = w.system.host

        read : Pair
        read = (keep.restoring (text_left keep p buffer)).pair

        now : Pair → Kept
        now q = kept_of w.system q

        with-kept : Kept → Site
        with-kept x = record { system = w.system; kept = x; undone_acks = w.undone_acks }

        same : (u : Bool) → standing u (with-kept (now p)) ≡ w.system
        same true = refl
        same false = refl

        go : (x : Bool) → eqb (keep.storing p buffer).refusal 0 ≡ x → SiteFor (cond x false u) w b
            → standing u (with-kept (cond x (now read) w.kept)) ≡ standing (cond x false u) w
        go true h f =
            let same-pair : read ≡ p =
            back p buffer f.reachable (λ z. f.host_some (sym f.agree.rest.host_own ∙ z))
            (λ z. f.card_some (sym f.agree.rest.host_peer ∙ z)) (eqb-true _ _ h) in
            ap (λ (q : Pair). standing u (with-kept (now q))) same-pair ∙ same u
        go false h f = refl

    -- ---- and so agreement stays

    -- what stands is as before
    stays : (u x : Bool) (w v : Site) (b : Book) → SiteFor x w b → standing u v ≡ standing x w → Grown v → SiteFor u v b
    stays u x w v b f same g = record {
      agree = subst (λ (s : System). SystemFor card_id host_id s b) (sym same) f.agree;
      reachable = subst (λ (s : System). Reachable s.host) (sym same) f.reachable;
      host_some = f.host_some;
      card_some = f.card_some;
      grown = g;
    }

    pub site-crashes : (u : Bool) (w : Site) (b : Book) → SiteFor true w b → SiteFor u (after w crashes) b
    unfolding site_step
    site-crashes u w b f =
        stays u true w (after w crashes) b f (stands-crashes u w) ([], sym (append-nil w.kept.acks))

    pub site-stores : (u : Bool) (w : Site) (b : Book) (buffer : List ℕ) → SiteFor (undone_before w buffer u) w b
        → SiteFor u (after w (stores buffer)) b
    unfolding site_step kept_by
    site-stores u w b buffer f =
        stays u (undone_before w buffer u) w (after w (stores buffer)) b f (stands-stores u w b buffer f)
        (go (eqb (keep.storing w.system.host buffer).refusal 0))
      where
        now : Kept
        now = kept_of w.system (keep.restoring (text_left keep w.system.host buffer)).pair

        go : (x : Bool)
            → Grown (record { system = w.system; kept = cond x now w.kept; undone_acks = w.undone_acks })
        go true = ([], sym (append-nil w.system.acks))
        go false = f.grown

    -- a call on the card
    pub site-calls : (u : Bool) (w : Site) (b : Book) → SiteFor u w b → (x : CardCall) → card_reads_kept w x ≡ true
        → typed (calls x) ≡ true → in_time b (calls x) ≡ true
        → WritesAllowed (book_step b (step specified w.system (calls x)).observation)
        → SiteFor u (after w (ordinary (calls x))) (book_step b (step specified w.system (calls x)).observation)
    unfolding step site_step by_card
    site-calls u w b f x a t i k = record {
      agree =
          subst (λ (r : StepResult). SystemFor card_id host_id r.system (book_step b r.observation)) same
          (step-any card_id host_id card_fits host_fits (standing u w) b f.agree (calls x) t i
          (subst (λ (r : StepResult). WritesAllowed (book_step b r.observation)) (sym same) k));
      reachable = subst (λ (q : Pair). Reachable q) (sym (host-stays u)) f.reachable;
      host_some = f.host_some;
      card_some = f.card_some;
      grown = f.grown;
    }
      where
        same : step specified (standing u w) (calls x) ≡ card_moves u w x
        same = moves-card u w x f.grown a

        host-stays : (u : Bool) → (standing u (after w (ordinary (calls x)))).host ≡ (standing u w).host
        host-stays true = refl
        host-stays false = refl

    grows : (w : Site) (k : ℕ) → Grown w → Grown (after w (ordinary (receives k)))
    unfolding step site_step by_host
    grows w k g =
        let r = receive_of w.system.host (get_or w.system.hand_outs k []) w.system.memory in
        let more : List (List ℕ) = acks_for specified_host r.pair r.answer in
        (g.0 ++ more, ap (λ (l : List (List ℕ)). l ++ more) g.1 ∙ append_assoc w.kept.acks g.0 more)

    -- an arrival that is undone, and one that is not
    pub site-undone : (w : Site) (b : Book) (k : ℕ) → SiteFor true w b
        → SiteFor true (after w (ordinary (receives k))) b
    unfolding step site_step by_host
    site-undone w b k f = stays true true w (after w (ordinary (receives k))) b f refl (grows w k f.grown)

    pub site-receives : (w : Site) (b : Book) (k : ℕ) → SiteFor false w b → in_time b (receives k) ≡ true
        → WritesAllowed (book_step b (step specified w.system (receives k)).observation)
        → SiteFor false (after w (ordinary (receives k)))
        (book_step b (step specified w.system (receives k)).observation)
    unfolding step site_step by_host typed
    site-receives w b k f i p = record {
      agree = step-any card_id host_id card_fits host_fits w.system b f.agree (receives k) refl i p;
      reachable = receives-reachable card_id host_id card_fits host_fits w.system b f.agree k f.reachable;
      host_some = f.host_some;
      card_some = f.card_some;
      grown = grows w k f.grown;
    }
