-- Demand 3 over crashes: its premises and what follows, over lists with storings and crashes in them. An arrival that a
-- crash undoes counts as lost on the way: the book is shown all other calls, and premises and guarantees are those of
-- delivery/specs/Demand3.antt. One premise is new: an answer is stored before its acknowledgement leaves the host.
use Rattle.std.specs.Prelude.{ℕ, ◌≡◌, Bool, true, false, cond, ◌&&◌, ◌||◌, List, [], ◌∷◌, map, eqb, leb, ltb, length}
use Rattle.delivery.specs.System.{
  CardCall,
  open_call,
  add_call,
  seal_call,
  read_call,
  show_call,
  choose_call,
  Event,
  calls,
  receives,
  Observation,
  run,
  initial,
}
use Rattle.delivery.specs.Book.{empty_book, book_of}
use Rattle.delivery.specs.Demand3.{BothOpen, all_typed, not_too_late, WritesAllowed, outcome_of, Guarantees}
use Rattle.delivery_restarts.specs.Restarts.{RestartEnds, specified_ends}
use Rattle.delivery_crashes.specs.Crashes.{
  Call,
  ordinary,
  stores,
  crashes,
  reads_undone,
  Site,
  Shown,
  shows_call,
  shows_storing,
  shows_crash,
  shows_read_undone,
  site_step,
  site_after,
  shown_by,
  initial_site,
}

-- ---- what survives

-- Whether what arrives at the host now is undone by the calls that follow: a crash is among them, and no storing before
-- it that is not refused.
unfoldable pub undone_by : List Shown → Bool
undone_by [] = false
undone_by (shows_call s ∷ ss) = undone_by ss
undone_by (shows_storing r ∷ ss) = cond (eqb r 0) false (undone_by ss)
undone_by (shows_crash ∷ ss) = true
undone_by (shows_read_undone ∷ ss) = undone_by ss

abbrev pub arrives : Event → Bool
arrives (calls x) = false
arrives (receives k) = true

-- What the ordinary calls show, without the arrivals that are undone; and these calls.
unfoldable pub surviving : List Shown → List Observation
surviving [] = []
surviving (shows_call s ∷ ss) = cond (arrives s.event && undone_by ss) (surviving ss) (s ∷ surviving ss)
surviving (shows_storing r ∷ ss) = surviving ss
surviving (shows_crash ∷ ss) = surviving ss
surviving (shows_read_undone ∷ ss) = surviving ss

abbrev pub events_of : List Observation → List Event
events_of seen = map (λ s. s.event) seen

-- ---- the premise on acknowledgements

-- Of the acknowledgements that answers called for, the card reads only those that the latest storing kept: none that
-- was called for since, and none whose answer is undone. It may read a k-th one where there is none, which brings no
-- bytes.
abbrev pub card_reads_kept : Site → CardCall → Bool
card_reads_kept w (open_call count address value) = true
card_reads_kept w (add_call t at bytes) = true
card_reads_kept w seal_call = true
card_reads_kept w (read_call k) = ltb k (length w.kept.acks) || leb (length w.system.acks) k
card_reads_kept w (show_call n) = true
card_reads_kept w (choose_call ack) = true

unfoldable pub reads_kept : Site → Call → Bool
reads_kept w (ordinary (calls x)) = card_reads_kept w x
reads_kept w (ordinary (receives k)) = true
reads_kept w (stores buffer) = true
reads_kept w crashes = true
reads_kept w (reads_undone k) = false

unfoldable pub reads_only_kept : RestartEnds → Site → List Call → Bool
reads_only_kept e w [] = true
reads_only_kept e w (x ∷ xs) = reads_kept w x && reads_only_kept e (site_step e w x).site xs

-- ---- the demand

-- What the book is shown of a list.
abbrev pub seen_in : RestartEnds → Site → List Call → List Observation
seen_in e w list = surviving (shown_by e w list)

-- The premises on a list. All but the last are those of demand 3, of the calls that survive.
pub record Premises (e : RestartEnds) (w : Site) (memory : List ℕ) (list : List Call) : Type 0 where
  pub arguments_typed : all_typed (events_of (seen_in e w list)) ≡ true
  pub arrives_in_time : not_too_late (empty_book memory) (seen_in e w list) ≡ true
  pub writes_allowed : WritesAllowed (book_of memory (seen_in e w list))
  pub only_kept_read : reads_only_kept e w list ≡ true

-- A crash is as if the arrivals that it undoes had been lost: what a list leaves is what its surviving calls leave from
-- two fresh ends, with neither storing nor crash, and what they show is the same. For any ends and any store.
unfoldable pub AsIfLostFor : RestartEnds → Type 0
AsIfLostFor e =
    (card_id host_id limit : ℕ) (slots memory : List ℕ) (list : List Call)
    → BothOpen card_id host_id (e.ends.card_end.card_opening card_id host_id limit slots)
    (e.ends.host_end.host_opening host_id card_id)
    → let w = initial_site e card_id host_id limit slots memory in
    let seen = seen_in e w list in
    Premises e w memory list
    → run e.ends (initial e.ends card_id host_id limit slots memory) (events_of seen)
    ≡ record { system = (site_after e w list).system; observations = seen }

-- Demand 3 over crashes, for any ends and any store.
unfoldable pub OverCrashesFor : RestartEnds → Type 0
OverCrashesFor e =
    (card_id host_id limit : ℕ) (slots memory : List ℕ) (list : List Call)
    → BothOpen card_id host_id (e.ends.card_end.card_opening card_id host_id limit slots)
    (e.ends.host_end.host_opening host_id card_id)
    → let w = initial_site e card_id host_id limit slots memory in
    Premises e w memory list
    → Guarantees (outcome_of (site_after e w list).system) (book_of memory (seen_in e w list))

-- For the ends and the store that the rules describe. proofs/Demand.antt has a term of either type.
abbrev pub AsIfLost : Type 0
AsIfLost = AsIfLostFor specified_ends

abbrev pub OverCrashes : Type 0
OverCrashes = OverCrashesFor specified_ends
