-- Demand 3 over crashes gives demand 3: with a storing after every answer the premise on acknowledgements is met by
-- every list of delivery. Assumes nothing.
use Prim.Native.Nat.{ℕ, ◌<◌}
use native.Mathlib.Omega.{arith}
use native.Mathlib.Decide.{dec_lt}
use mathlib.Core.Path.{◌≡◌, refl, sym, ap, ◌∙◌, subst}
use mathlib.Core.Logic.{◌≢◌}
use mathlib.Core.Bool.{Bool, true, false, cond, ◌||◌, and-eq-true_iff}
use mathlib.Core.List.{List, [], ◌∷◌}
use borrow.Author.Tests.{lt-ltb, le-ltb, le-leb, ne_eqb}
use lib.Dec.{eqb, leb, ltb}
use lib.ListN.{length, length-replicate, replicate, get_or}
use Rattle.seq.specs.Ring.{distance, frame_space}
use Rattle.wire.specs.Format.{Message}
use Rattle.wire.specs.Reading.{number, flags, addressed, Read, bad, good, read_frame}
use Rattle.host.specs.declared.Pair.{Pair}
use Rattle.host.specs.declared.Answer.TheVariants.{NoMessages}
use Rattle.host.specs.Host.{
  Received,
  Taken,
  fine,
  wrong,
  take_all,
  settled,
  accepting,
  concluded,
  tally_of,
  after_frame,
  unchanged,
  refused,
  again,
  by_number,
  answered,
  receive_of,
  fresh,
  opened_of,
}
use Rattle.host_stored.specs.Form.{text_as, stored_as, stored_of}
use Rattle.host_stored.proofs.Length.{text-bounds}
use Rattle.delivery.specs.System.{
  specified,
  CardCall,
  open_call,
  add_call,
  seal_call,
  read_call,
  show_call,
  choose_call,
  Event,
  calls,
  receives,
  System,
  Observation,
  by_card,
  by_host,
  step,
  run,
  initial,
}
use Rattle.delivery.specs.Book.{empty_book, book_of}
use Rattle.delivery.specs.Demand3.{all_typed, not_too_late, WritesAllowed, outcome_of, Guarantees, Demand3For, Demand3}
use Rattle.delivery_restarts.specs.Restarts.{specified_ends}
use Rattle.delivery_restarts.proofs.Demand.{opened_some}
use Rattle.delivery_crashes.specs.Crashes.{
  Call,
  ordinary,
  stores,
  Site,
  kept_by,
  site_step,
  site_after,
  shown_by,
  initial_site,
}
use Rattle.delivery_crashes.specs.OverCrashes.{
  undone_by,
  surviving,
  events_of,
  card_reads_kept,
  reads_kept,
  reads_only_kept,
  seen_in,
  OverCrashesFor,
  OverCrashes,
}

-- ---- a receiving keeps the IDs

abbrev SameIds : Pair → Received → Type 0
SameIds p r = (r.pair.own ≡ p.own) × (r.pair.peer ≡ p.peer)

by_number_lem : (p : Pair) (memory : List ℕ) (num : ℕ) (ms : List Message) → SameIds p (by_number p memory num ms)
unfolding by_number accepting after_frame
by_number_lem p memory num ms =
    go (settled p num) (leb 64 (distance frame_space p.next.0 num)) (take_all (tally_of p memory) 0 ms)
  where
    go : (x y : Bool) (o : Taken)
        → SameIds p
        (cond x (again p memory num) (cond y (unchanged p memory (refused 6 0)) (concluded p memory num o)))
    go true y o = (refl, refl)
    go false true o = (refl, refl)
    go false false (fine t) = (refl, refl)
    go false false (wrong r place) = (refl, refl)

same-ids : (p : Pair) (f memory : List ℕ) → SameIds p (receive_of p f memory)
unfolding receive_of
same-ids p f memory = go (read_frame (addressed p.own p.peer f) f)
  where
    go : (r : Read) → SameIds p (answered p f memory r)
    go (bad r) = (refl, refl)
    go (good ms) = flagged (eqb (flags f) 0)
      where
        flagged : (x : Bool) → SameIds p (cond x (unchanged p memory NoMessages) (by_number p memory (number f) ms))
        flagged true = (refl, refl)
        flagged false = by_number_lem p memory (number f) ms

-- ---- a storing after every answer

-- A text has at most 1,103 bytes.
abbrev roomy : List ℕ
roomy = replicate 1103 0

unfoldable pub storing_each : List Event → List Call
storing_each [] = []
storing_each (calls x ∷ xs) = ordinary (calls x) ∷ storing_each xs
storing_each (receives k ∷ xs) = ordinary (receives k) ∷ stores roomy ∷ storing_each xs

is-stored : (p : Pair) → p.own ≢ 0 → p.peer ≢ 0 → (stored_of p roomy).refusal ≡ 0
unfolding stored_as
is-stored p own peer =
    let fits = (text-bounds 1 p).1 in
    let long = length-replicate {A = ℕ} 1103 0 in
    rw (
      ne_eqb p.own 0 own,
      ne_eqb p.peer 0 peer,
      le-ltb (length roomy) (length (text_as 1 p)) (omega (arith, fits, long)),
    ) refl

no-crash : (xs : List Event) (w : Site) → undone_by (shown_by specified_ends w (storing_each xs)) ≡ false
unfolding storing_each shown_by site_step undone_by
no-crash [] w = refl
no-crash (calls x ∷ xs) w = no-crash xs (site_step specified_ends w (ordinary (calls x))).site
no-crash (receives k ∷ xs) w =
    go (eqb (stored_of v.system.host roomy).refusal 0)
    (no-crash xs (site_step specified_ends v (stores roomy)).site)
  where
    v : Site
    v = (site_step specified_ends w (ordinary (receives k))).site

    go : (x : Bool) {y : Bool} → y ≡ false → cond x false y ≡ false
    go true e = refl
    go false e = e

system-is : (xs : List Event) (w : Site)
    → (site_after specified_ends w (storing_each xs)).system ≡ (run specified w.system xs).system
unfolding storing_each site_after site_step run
system-is [] w = refl
system-is (calls x ∷ xs) w = system-is xs (site_step specified_ends w (ordinary (calls x))).site
system-is (receives k ∷ xs) w =
    system-is xs
    (site_step specified_ends (site_step specified_ends w (ordinary (receives k))).site (stores roomy)).site

-- nothing is undone
all-survive : (xs : List Event) (w : Site)
    → surviving (shown_by specified_ends w (storing_each xs)) ≡ (run specified w.system xs).observations
unfolding storing_each shown_by site_step undone_by surviving run step by_card by_host
all-survive [] w = refl
all-survive (calls x ∷ xs) w =
    ap {B = List Observation} (λ r. (step specified w.system (calls x)).observation ∷ r)
    (all-survive xs (site_step specified_ends w (ordinary (calls x))).site)
all-survive (receives k ∷ xs) w =
    rw (no-crash (receives k ∷ xs) w)
    (ap {B = List Observation} (λ r. (step specified w.system (receives k)).observation ∷ r)
    (all-survive xs
    (site_step specified_ends (site_step specified_ends w (ordinary (receives k))).site (stores roomy)).site))

events-are : (xs : List Event) (w : System) → events_of (run specified w xs).observations ≡ xs
unfolding run step by_card by_host
events-are [] w = refl
events-are (calls x ∷ xs) w =
    ap {B = List Event} (λ r. calls x ∷ r) (events-are xs (step specified w (calls x)).system)
events-are (receives k ∷ xs) w =
    ap {B = List Event} (λ r. receives k ∷ r) (events-are xs (step specified w (receives k)).system)

-- all acknowledgements called for are kept, and IDs are not 0
record AllKept (w : Site) : Type 0 where
  acks_kept : w.kept.acks ≡ w.system.acks
  own_some : w.system.host.own ≢ 0
  peer_some : w.system.host.peer ≢ 0

any-index : (n k : ℕ) → (ltb k n || leb n k) ≡ true
any-index n k = go (dec_lt k n)
  where
    go : Dec (k < n) → (ltb k n || leb n k) ≡ true
    go (yes h) = rw (lt-ltb k n h) refl
    go (no h) = rw (le-ltb k n (omega arith), le-leb n k (omega arith)) refl

call-reads-kept : (w : Site) → AllKept w → (x : CardCall) → card_reads_kept w x ≡ true
call-reads-kept w a (open_call count address value) = refl
call-reads-kept w a (add_call t at bytes) = refl
call-reads-kept w a seal_call = refl
call-reads-kept w a (read_call k) = rw a.acks_kept (any-index (length w.system.acks) k)
call-reads-kept w a (show_call n) = refl
call-reads-kept w a (choose_call ack) = refl

kept_again : (w : Site) (k : ℕ) → AllKept w
    → AllKept (site_step specified_ends (site_step specified_ends w (ordinary (receives k))).site (stores roomy)).site
unfolding site_step step by_host kept_by
kept_again w k a =
    let frame = get_or w.system.hand_outs k [] in
    let r = receive_of w.system.host frame w.system.memory in
    let ids = same-ids w.system.host frame w.system.memory in
    let own : r.pair.own ≢ 0 = λ z. a.own_some (sym ids.0 ∙ z) in
    let peer : r.pair.peer ≢ 0 = λ z. a.peer_some (sym ids.1 ∙ z) in
    record { acks_kept = rw (is-stored r.pair own peer) refl; own_some = own; peer_some = peer }

always-reads-kept : (xs : List Event) (w : Site) → AllKept w → reads_only_kept specified_ends w (storing_each xs) ≡ true
unfolding storing_each reads_only_kept reads_kept site_step step by_card
always-reads-kept [] w a = refl
always-reads-kept (calls x ∷ xs) w a =
    let rest = always-reads-kept xs (site_step specified_ends w (ordinary (calls x))).site
    (record { acks_kept = a.acks_kept; own_some = a.own_some; peer_some = a.peer_some }) in
    (and-eq-true_iff (card_reads_kept w x) _).1 (call-reads-kept w a x, rest)
always-reads-kept (receives k ∷ xs) w a = always-reads-kept xs _ (kept_again w k a)

-- ---- demand 3

opened : (card_id host_id limit : ℕ) (slots memory : List ℕ) → (opened_of host_id card_id).refusal.number ≡ 0
    → AllKept (initial_site specified_ends card_id host_id limit slots memory)
unfolding initial_site initial opened_of fresh
opened card_id host_id limit slots memory q =
    let some = opened_some host_id card_id q in
    let z : (eqb host_id 0 || eqb card_id 0) ≡ false = rw (ne_eqb host_id 0 some.0, ne_eqb card_id 0 some.1) refl in
    record { acks_kept = refl; own_some = rw z some.0; peer_some = rw z some.1 }

pub without-crashes : OverCrashes → Demand3
unfolding OverCrashesFor Demand3For initial_site
without-crashes d card_id host_id limit slots memory events o t i k =
    let w = initial_site specified_ends card_id host_id limit slots memory in
    let r = run specified w.system events in
    let list = storing_each events in
    let seen : seen_in specified_ends w list ≡ r.observations = all-survive events w in
    let end : (site_after specified_ends w list).system ≡ r.system = system-is events w in
    subst (λ (s : System). Guarantees (outcome_of s) (book_of memory r.observations)) end
    (subst (λ (l : List Observation). Guarantees (outcome_of (site_after specified_ends w list).system) (book_of memory l))
    seen
    (d card_id host_id limit slots memory list o
    (record {
      arguments_typed =
          subst (λ (l : List Event). all_typed l ≡ true) (sym (ap events_of seen ∙ events-are events w.system)) t;
      arrives_in_time = subst (λ (l : List Observation). not_too_late (empty_book memory) l ≡ true) (sym seen) i;
      writes_allowed = subst (λ (l : List Observation). WritesAllowed (book_of memory l)) (sym seen) k;
      only_kept_read = always-reads-kept events w (opened card_id host_id limit slots memory o.host_opens);
    })))
