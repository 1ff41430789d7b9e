-- The premises on a card of a table as one test that the checker runs, with its soundness; and one name that unfolds
-- every definition that the worked lists run through. Assumes nothing.
use Prim.Native.Nat.{ℕ, ◌+◌, ◌<◌}
use mathlib.Core.Path.{◌≡◌}
use mathlib.Core.Bool.{Bool, true, ◌&&◌, and-eq-true_iff}
use mathlib.Core.List.{List}
use borrow.Author.Tests.{eqb-true}
use lib.Dec.{eqb}
use Rattle.seq.specs.Ring.{frame_space}
use Rattle.delivery.specs.System.{Observation}
use Rattle.delivery.specs.Book.{empty_book, book_of}
use Rattle.delivery.specs.Demand3.{all_typed, not_too_late}
use Rattle.delivery.proofs.Lists.Check.{writes_allowed, allowed-by}
use Rattle.table.specs.TableEnd.{TableEnd}
use Rattle.table.specs.Calls.{Call, lent_length}
use Rattle.delivery_table.specs.PerCard.{Action, own_events, act_for, allowed, opened}
use Rattle.delivery_table.proofs.Worked.{running}
use Rattle.delivery_ledger.proofs.Lists.Worked.{computing_acts}
use Rattle.delivery_ledger_table.specs.PerCard.{table_before, region_at_start, scene_at_start, TablePremises}

module _ (e : TableEnd) (card_id host_id limit first size lent : ℕ) (slots memory : List ℕ) (earlier : List Call) where
  abbrev opens : Bool
  opens = eqb (opened card_id host_id limit slots).refusal 0

  abbrev registers-it : Bool
  registers-it =
      let before = table_before e card_id host_id limit first size lent slots memory earlier in
      eqb (e.registering before.table card_id first size (lent_length before lent)).refusal 0

  abbrev leaves-alone : List Action → Bool
  leaves-alone actions = allowed card_id (first + size) actions

  abbrev types : List Action → Bool
  types actions = all_typed (own_events actions)

  abbrev start : List ℕ
  start = region_at_start e card_id host_id limit first size lent slots memory earlier

  abbrev shown : List Action → List Observation
  shown actions =
      (act_for e (scene_at_start e card_id host_id limit first size lent slots memory earlier) actions).observations

  abbrev in-time : List Action → Bool
  in-time actions = not_too_late (empty_book start) (shown actions)

  abbrev writes : List Action → Bool
  writes actions = writes_allowed (book_of start (shown actions))

  unfoldable pub keeps_to : List Action → Bool
  keeps_to actions =
      (opens && registers-it) && ((leaves-alone actions && types actions) && (in-time actions && writes actions))

  pub keeps-by : card_id < frame_space → host_id < frame_space → (actions : List Action) → keeps_to actions ≡ true
      → TablePremises e card_id host_id limit first size lent slots memory earlier actions
  unfolding keeps_to
  keeps-by c h actions t =
      let a = leaves-alone actions && types actions in
      let b = in-time actions && writes actions in
      let p = (and-eq-true_iff (opens && registers-it) (a && b)).0 t in
      let o = (and-eq-true_iff opens registers-it).0 p.0 in
      let q = (and-eq-true_iff a b).0 p.1 in
      let l = (and-eq-true_iff (leaves-alone actions) (types actions)).0 q.0 in
      let w = (and-eq-true_iff (in-time actions) (writes actions)).0 q.1 in
      record {
        card_fits = c;
        host_fits = h;
        card_opens = eqb-true _ 0 o.0;
        registered = eqb-true _ 0 o.1;
        all_allowed = l.0;
        all_of_type = l.1;
        none_too_late = w.0;
        writes_allowed = allowed-by (book_of start (shown actions)) w.1;
      }

unfoldable pub at_table : Unit {0}
unfolding running computing_acts keeps_to
at_table = tt
