-- Demand 3 over restarts applied to a list that passes all premises, of a card 2 and a host 1; and one name that
-- unfolds every definition that such a list runs through. Assumes nothing.
use Prim.Native.Nat.{ℕ}
use mathlib.Core.Path.{◌≡◌, refl}
use mathlib.Core.Bool.{Bool, true, false, ◌&&◌, and-eq-true_iff}
use mathlib.Core.List.{List, []}
use borrow.Author.Tests.{eqb-true}
use lib.Dec.{T, eqb, lit<}
use Rattle.hexadecimal.specs.Fields.{
  digit_of,
  value_of,
  hex,
  unhex,
  laid,
  numbers_from,
  total,
  line_of,
  lines_of,
  line_length,
  read_line,
  read_lines,
  read_all,
}
use Rattle.host_stored.specs.Form.{
  opens_from,
  text_as,
  stored_as,
  buffer_as,
  empty_table,
  table_from,
  head_fine,
  open_fine,
  opens_fine,
  read_as,
}
use Rattle.delivery.specs.System.{System}
use Rattle.delivery.specs.Book.{Book, empty_book, book_of}
use Rattle.delivery.specs.Demand3.{all_typed, not_too_late, outcome_of, Guarantees}
use Rattle.delivery.proofs.Lists.Same.{T_true, same_book}
use Rattle.delivery.proofs.Lists.Check.{writes_allowed, allowed-by, slots_of, judged-as}
use Rattle.delivery.proofs.Lists.Computing.{computing}
use Rattle.delivery_restarts.specs.Restarts.{
  RestartEnds,
  Call,
  Shown,
  kept_by,
  returned,
  site_step,
  site_after,
  shown_by,
  initial_site,
}
use Rattle.delivery_restarts.specs.OverRestarts.{
  events_in,
  observations_in,
  acceptances,
  nothing_since,
  nothing_accepted_since,
  OverRestartsFor,
}

abbrev pub ended : ℕ → RestartEnds → List ℕ → List Call → System
ended limit e memory list = (site_after e (initial_site e 2 1 limit (slots_of limit) memory) list).system

abbrev pub showing : ℕ → RestartEnds → List ℕ → List Call → List Shown
showing limit e memory list = shown_by e (initial_site e 2 1 limit (slots_of limit) memory) list

abbrev pub booked : ℕ → RestartEnds → List ℕ → List Call → Book
booked limit e memory list = book_of memory (observations_in (showing limit e memory list))

-- Whether a list passes the premises but for the one on restarts, whether it passes that, and its book: in one value,
-- so that the checker runs the list once for all.
pub record Judged : Type 0 where
  pub passed : Bool
  pub current : Bool
  pub book : Book

unfoldable pub judge : ℕ → RestartEnds → List ℕ → List Call → Judged
judge limit e memory list =
    let card = e.ends.card_end.card_opening 2 1 limit (slots_of limit) in
    let host = e.ends.host_end.host_opening 1 2 in
    let shown = showing limit e memory list in
    let seen = observations_in shown in
    let b = book_of memory seen in
    record {
      passed = (eqb card.refusal 0 && eqb host.refusal.number 0)
          && (all_typed (events_in list) && (not_too_late (empty_book memory) seen && writes_allowed b));
      current = nothing_accepted_since (empty_book memory) [] shown;
      book = b;
    }

pub applied : (limit : ℕ) (e : RestartEnds) → OverRestartsFor e → (memory : List ℕ) (list : List Call)
    → T (judge limit e memory list).passed → T (judge limit e memory list).current
    → Guarantees (outcome_of (ended limit e memory list)) (booked limit e memory list)
unfolding OverRestartsFor judge
applied limit e d memory list p current =
    let g = (and-eq-true_iff _ _).0 (T_true _ p) in
    let o = (and-eq-true_iff _ _).0 g.0 in
    let t = (and-eq-true_iff _ _).0 g.1 in
    let k = (and-eq-true_iff _ _).0 t.1 in
    d 2 1 limit (slots_of limit) memory list
    (record {
      card_fits = lit< tt;
      host_fits = lit< tt;
      card_opens = eqb-true _ _ o.0;
      host_opens = eqb-true _ _ o.1;
    })
    t.0 k.0 (T_true _ current) (allowed-by (booked limit e memory list) k.1)

-- A list passes all premises and has this book: a test as well, which fails at the first number that differs.
unfoldable pub judged_as : Judged → Book → Bool
judged_as j b = j.current && (j.passed && same_book j.book b)

record Passed (j : Judged) (b : Book) : Type 0 where
  passed-so : T j.passed
  current-so : T j.current
  book-is : j.book ≡ b

judged-so : (j : Judged) (b : Book) → T (judged_as j b) → Passed j b
unfolding judged_as
judged-so j b t = go j.current refl t
  where
    go : (c : Bool) → j.current ≡ c → T (c && (j.passed && same_book j.book b)) → Passed j b
    go true e h =
        let g = judged-as j.passed j.book b h in
        record { passed-so = g.0; current-so = rw e tt; book-is = g.1 }
    go false e h = absurd h

pub judged-holds : (limit : ℕ) (e : RestartEnds) → OverRestartsFor e → (memory : List ℕ) (list : List Call) (b : Book)
    → T (judged_as (judge limit e memory list) b)
    → Guarantees (outcome_of (ended limit e memory list)) (booked limit e memory list)
judged-holds limit e d memory list b t =
    let k = judged-so (judge limit e memory list) b t in
    applied limit e d memory list k.passed-so k.current-so

pub judged-book : (limit : ℕ) (e : RestartEnds) (memory : List ℕ) (list : List Call) (b : Book)
    → T (judged_as (judge limit e memory list) b) → booked limit e memory list ≡ b
unfolding judge
judged-book limit e memory list b t = (judged-so (judge limit e memory list) b t).book-is

unfoldable pub restarting : Unit {0}
unfolding computing digit_of value_of hex unhex laid numbers_from total line_of lines_of line_length read_line read_lines
    read_all opens_from text_as stored_as buffer_as empty_table table_from head_fine open_fine opens_fine read_as kept_by returned
    site_step site_after shown_by initial_site events_in observations_in acceptances nothing_since nothing_accepted_since judge
    judged_as
restarting = tt
