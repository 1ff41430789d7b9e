-- The premises over restarts as one test that the checker runs, with its soundness. Assumes nothing.
use Prim.Native.Nat.{ℕ}
use mathlib.Core.Bool.{Bool, ◌&&◌, and-eq-true_iff}
use mathlib.Core.List.{List, []}
use borrow.Author.Tests.{eqb-true}
use lib.Dec.{T, lit<}
use Rattle.delivery.proofs.Lists.Same.{T_true}
use Rattle.delivery.proofs.Lists.Check.{slots_of, allowed-by}
use Rattle.delivery_restarts.specs.Restarts.{RestartEnds, Call}
use Rattle.delivery_restarts.proofs.Computing.{judge, restarting}
use Rattle.delivery_ledger.specs.Blocks.{Act, calls_of, Course, ReadyEach}
use Rattle.delivery_ledger.specs.OverRestarts.{restart_course, RestartPremises}
use Rattle.delivery_ledger.proofs.Lists.Check.{ready_after, ready-each-by}
use Rattle.delivery_ledger.proofs.Lists.Worked.{computing_acts}

-- A card 2 and a host 1, with a slot buffer of the least size.
abbrev pub course_over : ℕ → RestartEnds → List ℕ → Course Call
course_over limit e memory = restart_course e 2 1 limit (slots_of limit) memory

module _ (limit : ℕ) (e : RestartEnds) (memory : List ℕ) (acts : List (Act Call)) where
  abbrev passes : Bool
  passes =
      let j = judge limit e memory (calls_of acts) in
      j.current && j.passed

  unfoldable pub delivers : Bool
  delivers = passes && ready_after (course_over limit e memory) [] acts

  pub record Delivers : Type 0 where
    pub premises : RestartPremises e 2 1 limit (slots_of limit) memory (calls_of acts)
    pub ready_each : ReadyEach (course_over limit e memory) acts

  pub delivers-by : T delivers → Delivers
  unfolding judge delivers
  delivers-by met =
      let j = judge limit e memory (calls_of acts) in
      let h = (and-eq-true_iff passes (ready_after (course_over limit e memory) [] acts)).0 (T_true delivers met) in
      let c = (and-eq-true_iff j.current j.passed).0 h.0 in
      let g = (and-eq-true_iff _ _).0 c.1 in
      let o = (and-eq-true_iff _ _).0 g.0 in
      let t = (and-eq-true_iff _ _).0 g.1 in
      let l = (and-eq-true_iff _ _).0 t.1 in
      record {
        premises = record {
          both_open = record {
            card_fits = lit< tt;
            host_fits = lit< tt;
            card_opens = eqb-true _ _ o.0;
            host_opens = eqb-true _ _ o.1;
          };
          all_of_type = t.0;
          none_too_late = l.0;
          nothing_accepted = c.0;
          writes_allowed = allowed-by _ l.1;
        };
        ready_each = ready-each-by (course_over limit e memory) acts [] h.1;
      }

-- One name for all that is computed of such lists.
unfoldable pub restarting_acts : Unit {0}
unfolding restarting computing_acts delivers
restarting_acts = tt
