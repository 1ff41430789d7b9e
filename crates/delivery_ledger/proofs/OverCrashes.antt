-- Bytes counted are the bytes charged over power failures of the host: from demand 3 over crashes and the ledger's
-- history only. A taking survives exactly where the arrivals of that moment do. Assumes nothing.
use Prim.Native.Nat.{ℕ}
use mathlib.Core.Path.{◌≡◌, refl, sym, ap, ◌∙◌, subst}
use mathlib.Core.Bool.{Bool, true, false, cond, ◌&&◌, and-eq-true_iff}
use mathlib.Core.List.{List, [], ◌∷◌, ◌++◌, map-append, append_assoc}
use lib.Dec.{eqb}
use lib.ListN.{length}
use Rattle.delivery.specs.System.{Event, Observation}
use Rattle.delivery.specs.Book.{empty_book, book_of}
use Rattle.delivery.specs.Demand3.{BothOpen, all_typed, not_too_late, WritesAllowed, outcome_of}
use Rattle.delivery_restarts.specs.Restarts.{RestartEnds, specified_ends}
use Rattle.delivery_crashes.specs.Crashes.{
  Call,
  ordinary,
  stores,
  crashes,
  reads_undone,
  Site,
  Shown,
  shows_call,
  shows_storing,
  shows_crash,
  shows_read_undone,
  site_step,
  site_after,
  shown_by,
  initial_site,
}
use Rattle.delivery_crashes.specs.OverCrashes.{
  undone_by,
  arrives,
  surviving,
  events_of,
  reads_kept,
  reads_only_kept,
  seen_in,
  Premises,
  OverCrashesFor,
}
use Rattle.delivery_crashes.proofs.Demand.{demand3-over-crashes}
use Rattle.ledger.specs.Ledger.{Ledger, empty, taken}
use Rattle.ledger.specs.History.{after}
use Rattle.ledger.specs.Counted.{all_of, Charges}
use Rattle.delivery_ledger.specs.Blocks.{block_at, Act, does, takes, calls_of, Course, blocks_after, blocks_read}
use Rattle.delivery_ledger.specs.OverCrashes.{
  LedgerSite,
  ledger_left,
  ledger_kept,
  ledger_site_step,
  ledger_site_after,
  open_ledger_site,
  surviving_acts,
  crash_course,
  ChargedOverCrashesFor,
  ChargedOverCrashes,
}
use Rattle.delivery_ledger.proofs.Blocks.Taking.{Delivered, delivered, DeliveredAfter, charged-as-told}
use Rattle.delivery_ledger.proofs.Fronts.{typed-front, in-time-front, allowed-front}

-- ---- the front part of a list keeps the premises where nothing of it is undone later

undone-front : (ss ts : List Shown) → undone_by ts ≡ false → undone_by (ss ++ ts) ≡ undone_by ss
unfolding undone_by
undone-front [] ts u = u
undone-front (shows_call s ∷ ss) ts u = undone-front ss ts u
undone-front (shows_storing r ∷ ss) ts u = ap (cond (eqb r 0) false) (undone-front ss ts u)
undone-front (shows_crash ∷ ss) ts u = refl
undone-front (shows_read_undone ∷ ss) ts u = undone-front ss ts u

surviving-append : (ss ts : List Shown) → undone_by ts ≡ false → surviving (ss ++ ts) ≡ surviving ss ++ surviving ts
unfolding surviving
surviving-append [] ts u = refl
surviving-append (shows_call s ∷ ss) ts u =
    ap (λ (x : Bool). cond (arrives s.event && x) (surviving (ss ++ ts)) (s ∷ surviving (ss ++ ts)))
    (undone-front ss ts u)
    ∙ go (arrives s.event && undone_by ss) (surviving-append ss ts u)
  where
    go : (x : Bool) → surviving (ss ++ ts) ≡ surviving ss ++ surviving ts
        → cond x (surviving (ss ++ ts)) (s ∷ surviving (ss ++ ts))
        ≡ cond x (surviving ss) (s ∷ surviving ss) ++ surviving ts
    go true q = q
    go false q = ap (λ (l : List Observation). s ∷ l) q
surviving-append (shows_storing r ∷ ss) ts u = surviving-append ss ts u
surviving-append (shows_crash ∷ ss) ts u = surviving-append ss ts u
surviving-append (shows_read_undone ∷ ss) ts u = surviving-append ss ts u

module _ (e : RestartEnds) where
  shown-append : (w : Site) (xs ys : List Call)
      → shown_by e w (xs ++ ys) ≡ shown_by e w xs ++ shown_by e (site_after e w xs) ys
  unfolding shown_by site_after
  shown-append w [] ys = refl
  shown-append w (x ∷ xs) ys =
      ap (λ (l : List Shown). (site_step e w x).shown ∷ l) (shown-append (site_step e w x).site xs ys)

  site-append : (w : Site) (xs : List Call) (x : Call)
      → site_after e w (xs ++ (x ∷ [])) ≡ (site_step e (site_after e w xs) x).site
  unfolding site_after
  site-append w [] x = refl
  site-append w (y ∷ xs) x = site-append (site_step e w y).site xs x

  reads-front : (w : Site) (xs ys : List Call) → reads_only_kept e w (xs ++ ys) ≡ true → reads_only_kept e w xs ≡ true
  unfolding reads_only_kept
  reads-front w [] ys t = refl
  reads-front w (x ∷ xs) ys t =
      let p = (and-eq-true_iff (reads_kept w x) (reads_only_kept e (site_step e w x).site (xs ++ ys))).0 t in
      (and-eq-true_iff (reads_kept w x) (reads_only_kept e (site_step e w x).site xs)).1
      (p.0, reads-front (site_step e w x).site xs ys p.1)

  front : (w : Site) (memory : List ℕ) (xs ys : List Call) → undone_by (shown_by e (site_after e w xs) ys) ≡ false
      → Premises e w memory (xs ++ ys) → Premises e w memory xs
  front w memory xs ys u p =
      let seen = seen_in e w xs in
      let later = seen_in e (site_after e w xs) ys in
      let s : seen_in e w (xs ++ ys) ≡ seen ++ later =
      ap surviving (shown-append w xs ys)
      ∙ surviving-append (shown_by e w xs) (shown_by e (site_after e w xs) ys) u in
      record {
        arguments_typed =
            typed-front (events_of seen) (events_of later)
            (subst (λ (l : List Event). all_typed l ≡ true)
            (ap events_of s ∙ map-append (λ (o : Observation). o.event) seen later) p.arguments_typed);
        arrives_in_time =
            in-time-front (empty_book memory) seen later
            (subst (λ (l : List Observation). not_too_late (empty_book memory) l ≡ true) s p.arrives_in_time);
        writes_allowed =
            allowed-front (empty_book memory) seen later
            (subst (λ (l : List Observation). WritesAllowed (book_of memory l)) s p.writes_allowed);
        only_kept_read = reads-front w xs ys p.only_kept_read;
      }

  -- ---- what stands in memory at a surviving taking

  module _ (d : OverCrashesFor e) (card_id host_id limit : ℕ) (slots memory : List ℕ)
      (o : BothOpen card_id host_id (e.ends.card_end.card_opening card_id host_id limit slots)
      (e.ends.host_end.host_opening host_id card_id)) where
    abbrev start : Site
    start = initial_site e card_id host_id limit slots memory

    abbrev v : Course Call
    v = crash_course e start memory

    one : (made : List Call) → Premises e start memory made
        → Delivered (site_after e start made).system.memory (book_of memory (seen_in e start made))
    unfolding OverCrashesFor
    one made p =
        delivered (outcome_of (site_after e start made).system) (book_of memory (seen_in e start made))
        (d card_id host_id limit slots memory made o p) p.writes_allowed

    at_each : (acts : List (Act Call)) (made : List Call) (w : Site) → site_after e start made ≡ w
        → Premises e start memory (made ++ calls_of acts) → DeliveredAfter v made (surviving_acts e w acts)
    unfolding calls_of surviving_acts DeliveredAfter
    at_each [] made w q p = tt
    at_each (does x ∷ as') made w q p =
        at_each as' (made ++ (x ∷ [])) (site_step e w x).site
        (site-append start made x ∙ ap (λ (z : Site). (site_step e z x).site) q)
        (subst (Premises e start memory) (sym (append_assoc made (x ∷ []) (calls_of as'))) p)
    at_each (takes k ∷ as') made w q p = go (undone_by (shown_by e w (calls_of as'))) refl (at_each as' made w q p)
      where
        go : (u : Bool) → undone_by (shown_by e w (calls_of as')) ≡ u → DeliveredAfter v made (surviving_acts e w as')
            → DeliveredAfter v made (cond u (surviving_acts e w as') (takes k ∷ surviving_acts e w as'))
        go true h rest = rest
        go false h rest = (
          one made (front start memory made (calls_of as')
              (ap (λ (z : Site). undone_by (shown_by e z (calls_of as'))) q ∙ h) p),
          rest,
        )

  -- ---- the ledger that a list leaves

  abbrev beside : Site → Ledger → Ledger → LedgerSite
  beside w l kept = record { site = w; ledger = l; kept_ledger = kept }

  either : (u : Bool) (l : Ledger) → cond u l l ≡ l
  either true l = refl
  either false l = refl

  module _ (start : Site) (memory : List ℕ) where
    abbrev blocks : List Call → Site → List (Act Call) → List (List ℕ)
    blocks made w acts = blocks_after (crash_course e start memory) made (surviving_acts e w acts)

    -- The takings that survive, on what a crash brings back if one undoes this moment.
    abbrev Left : List Call → Site → List (Act Call) → Type 0
    Left made w acts =
        (l kept : Ledger)
        → (ledger_site_after e (beside w l kept) acts).ledger
        ≡ after (cond (undone_by (shown_by e w (calls_of acts))) kept l) (blocks made w acts)

    left : (acts : List (Act Call)) (made : List Call) (w : Site) → site_after e start made ≡ w → Left made w acts
    unfolding calls_of surviving_acts blocks_after ledger_site_after ledger_site_step ledger_left ledger_kept shown_by site_step
        undone_by after
    left [] made w q l kept = refl
    left (does (ordinary x) ∷ as') made w q l kept =
        let c = ordinary x in
        left as' (made ++ (c ∷ [])) (site_step e w c).site
        (site-append start made c ∙ ap (λ (z : Site). (site_step e z c).site) q) l kept
    left (does (reads_undone n) ∷ as') made w q l kept =
        let c = reads_undone n in
        left as' (made ++ (c ∷ [])) (site_step e w c).site
        (site-append start made c ∙ ap (λ (z : Site). (site_step e z c).site) q) l kept
    left (does crashes ∷ as') made w q l kept =
        let w' = (site_step e w crashes).site in
        let next = made ++ (crashes ∷ []) in
        left as' next w' (site-append start made crashes ∙ ap (λ (z : Site). (site_step e z crashes).site) q) kept kept
        ∙ ap (λ (m : Ledger). after m (blocks next w' as')) (either (undone_by (shown_by e w' (calls_of as'))) kept)
    left (does (stores buffer) ∷ as') made w q l kept =
        go (eqb (e.store.storing w.system.host buffer).refusal 0)
        (left as' next w' (site-append start made c ∙ ap (λ (z : Site). (site_step e z c).site) q) l)
      where
        c : Call
        c = stores buffer

        next : List Call
        next = made ++ (stores buffer ∷ [])

        w' : Site
        w' = (site_step e w (stores buffer)).site

        u : Bool
        u = undone_by (shown_by e w' (calls_of as'))

        go : (x : Bool)
            → ((k : Ledger) → (ledger_site_after e (beside w' l k) as').ledger ≡ after (cond u k l) (blocks next w' as'))
            → (ledger_site_after e (beside w' l (cond x l kept)) as').ledger
            ≡ after (cond (cond x false u) kept l) (blocks next w' as')
        go true ih = ih l ∙ ap (λ (m : Ledger). after m (blocks next w' as')) (either u l)
        go false ih = ih kept
    left (takes k ∷ as') made w q l kept =
        go (undone_by (shown_by e w (calls_of as'))) (left as' made w q (taken l block).ledger kept)
      where
        block : List ℕ
        block = block_at w.system.memory k.at (length k.bytes)

        same : block ≡ block_at (site_after e start made).system.memory k.at (length k.bytes)
        same = ap (λ (z : Site). block_at z.system.memory k.at (length k.bytes)) (sym q)

        go : (u : Bool)
            → (ledger_site_after e (beside w (taken l block).ledger kept) as').ledger
            ≡ after (cond u kept (taken l block).ledger) (blocks made w as')
            → (ledger_site_after e (beside w (taken l block).ledger kept) as').ledger
            ≡ after (cond u kept l)
            (blocks_after (crash_course e start memory) made
            (cond u (surviving_acts e w as') (takes k ∷ surviving_acts e w as')))
        go true ih = ih
        go false ih = ih ∙ ap (λ (b : List ℕ). after (taken l b).ledger (blocks made w as')) same

-- Bytes counted are bytes charged.
pub crashes-charged-by : (e : RestartEnds) → OverCrashesFor e → ChargedOverCrashesFor e
unfolding ChargedOverCrashesFor site_after
crashes-charged-by e d card_id host_id limit slots memory acts told o p t =
    let w = initial_site e card_id host_id limit slots memory in
    let v = crash_course e w memory in
    let each = at_each e d card_id host_id limit slots memory o acts [] w refl p in
    let c = charged-as-told v (surviving_acts e w acts) told each t in
    let u = undone_by (shown_by e w (calls_of acts)) in
    let same : (ledger_site_after e (open_ledger_site w) acts).ledger ≡ after empty (blocks_read v (surviving_acts e w acts)) =
    left e w memory acts [] w refl empty empty
    ∙ ap (λ (m : Ledger). after m (blocks_read v (surviving_acts e w acts))) (either e u empty) in
    record {
      none_refused = c.none_refused;
      charges = subst (λ (l : Ledger). Charges l (all_of told)) (sym same) c.charges;
    }

pub charged-over-crashes : ChargedOverCrashes
charged-over-crashes = crashes-charged-by specified_ends demand3-over-crashes
