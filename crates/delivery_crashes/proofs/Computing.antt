-- The theorems over crashes applied to a list that passes all premises, of a card 2 and a host 1; and one name that
-- unfolds every definition that such a list runs through. Assumes nothing.
use Prim.Native.Nat.{ℕ}
use mathlib.Core.Path.{◌≡◌}
use mathlib.Core.Bool.{Bool, ◌&&◌, and-eq-true_iff}
use mathlib.Core.List.{List}
use borrow.Author.Tests.{eqb-true}
use lib.Dec.{T, eqb, lit<}
use Rattle.delivery.specs.System.{System, Observation, run, initial}
use Rattle.delivery.specs.Book.{Book, empty_book, book_of}
use Rattle.delivery.specs.Demand3.{BothOpen, all_typed, not_too_late, outcome_of, Guarantees}
use Rattle.delivery.proofs.Lists.Same.{T_true, same_book}
use Rattle.delivery.proofs.Lists.Check.{writes_allowed, allowed-by, slots_of, judged-as}
use Rattle.delivery_restarts.specs.Restarts.{RestartEnds}
use Rattle.delivery_restarts.proofs.Computing.{restarting}
use Rattle.delivery_crashes.specs.Crashes.{
  Call,
  Site,
  Shown,
  kept_by,
  site_step,
  site_after,
  shown_by,
  initial_site,
}
use Rattle.delivery_crashes.specs.OverCrashes.{
  undone_by,
  surviving,
  events_of,
  reads_kept,
  reads_only_kept,
  seen_in,
  Premises,
  AsIfLostFor,
  OverCrashesFor,
}

abbrev pub from : ℕ → RestartEnds → List ℕ → Site
from limit e memory = initial_site e 2 1 limit (slots_of limit) memory

abbrev pub ended : ℕ → RestartEnds → List ℕ → List Call → System
ended limit e memory list = (site_after e (from limit e memory) list).system

abbrev pub showing : ℕ → RestartEnds → List ℕ → List Call → List Shown
showing limit e memory list = shown_by e (from limit e memory) list

abbrev pub seeing : ℕ → RestartEnds → List ℕ → List Call → List Observation
seeing limit e memory list = seen_in e (from limit e memory) list

abbrev pub booked : ℕ → RestartEnds → List ℕ → List Call → Book
booked limit e memory list = book_of memory (seeing limit e memory list)

-- ---- premises as tests

-- Whether a list passes the premises but for the one on acknowledgements, whether it passes that, and its book: in one
-- value, so that the checker runs the list once for all.
pub record Judged : Type 0 where
  pub passed : Bool
  pub only_kept : Bool
  pub book : Book

unfoldable pub judge : ℕ → RestartEnds → List ℕ → List Call → Judged
judge limit e memory list =
    let card = e.ends.card_end.card_opening 2 1 limit (slots_of limit) in
    let host = e.ends.host_end.host_opening 1 2 in
    let seen = seeing limit e memory list in
    let b = book_of memory seen in
    record {
      passed = (eqb card.refusal 0 && eqb host.refusal.number 0)
          && (all_typed (events_of seen) && (not_too_late (empty_book memory) seen && writes_allowed b));
      only_kept = reads_only_kept e (from limit e memory) list;
      book = b;
    }

-- Whether it passes all.
unfoldable pub passes_all : Judged → Bool
passes_all j = j.only_kept && j.passed

record Met (limit : ℕ) (e : RestartEnds) (memory : List ℕ) (list : List Call) : Type 0 where
  open-both : BothOpen 2 1 (e.ends.card_end.card_opening 2 1 limit (slots_of limit)) (e.ends.host_end.host_opening 1 2)
  premises : Premises e (from limit e memory) memory list

met : (limit : ℕ) (e : RestartEnds) (memory : List ℕ) (list : List Call) → T (passes_all (judge limit e memory list))
    → Met limit e memory list
unfolding judge passes_all
met limit e memory list p =
    let a = (and-eq-true_iff _ _).0 (T_true _ p) in
    let g = (and-eq-true_iff _ _).0 a.1 in
    let o = (and-eq-true_iff _ _).0 g.0 in
    let t = (and-eq-true_iff _ _).0 g.1 in
    let k = (and-eq-true_iff _ _).0 t.1 in
    record {
      open-both =
          record {
            card_fits = lit< tt;
            host_fits = lit< tt;
            card_opens = eqb-true _ _ o.0;
            host_opens = eqb-true _ _ o.1;
          };
      premises =
          record {
            arguments_typed = t.0;
            arrives_in_time = k.0;
            writes_allowed = allowed-by (booked limit e memory list) k.1;
            only_kept_read = a.0;
          };
    }

-- ---- the theorems on a list

pub applied : (limit : ℕ) (e : RestartEnds) → OverCrashesFor e → (memory : List ℕ) (list : List Call)
    → T (passes_all (judge limit e memory list))
    → Guarantees (outcome_of (ended limit e memory list)) (booked limit e memory list)
unfolding OverCrashesFor
applied limit e d memory list p =
    let m = met limit e memory list p in
    d 2 1 limit (slots_of limit) memory list m.open-both m.premises

pub applied-lost : (limit : ℕ) (e : RestartEnds) → AsIfLostFor e → (memory : List ℕ) (list : List Call)
    → T (passes_all (judge limit e memory list))
    → run e.ends (initial e.ends 2 1 limit (slots_of limit) memory) (events_of (seeing limit e memory list))
    ≡ record { system = ended limit e memory list; observations = seeing limit e memory list }
unfolding AsIfLostFor
applied-lost limit e d memory list p =
    let m = met limit e memory list p in
    d 2 1 limit (slots_of limit) memory list m.open-both m.premises

-- A list passes all premises and has this book: a test as well, which fails at the first number that differs.
unfoldable pub judged_as : Judged → Book → Bool
judged_as j b = passes_all j && same_book j.book b

pub judged-passes : (limit : ℕ) (e : RestartEnds) (memory : List ℕ) (list : List Call) (b : Book)
    → T (judged_as (judge limit e memory list) b) → T (passes_all (judge limit e memory list))
unfolding judged_as
judged-passes limit e memory list b t =
    let j = judge limit e memory list in
    (judged-as (passes_all j) j.book b t).0

pub judged-book : (limit : ℕ) (e : RestartEnds) (memory : List ℕ) (list : List Call) (b : Book)
    → T (judged_as (judge limit e memory list) b) → booked limit e memory list ≡ b
unfolding judge judged_as
judged-book limit e memory list b t =
    let j = judge limit e memory list in
    (judged-as (passes_all j) j.book b t).1

unfoldable pub crashing : Unit {0}
unfolding restarting kept_by site_step site_after shown_by initial_site undone_by surviving reads_kept reads_only_kept judge
    passes_all judged_as
crashing = tt
