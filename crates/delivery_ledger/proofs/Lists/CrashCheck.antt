-- The premises over crashes as one test that the checker runs, with its soundness. Assumes nothing.
use Prim.Native.Nat.{ℕ}
use mathlib.Core.Bool.{Bool, ◌&&◌, and-eq-true_iff}
use mathlib.Core.List.{List, []}
use borrow.Author.Tests.{eqb-true}
use lib.Dec.{T, lit<}
use Rattle.delivery.specs.Demand3.{BothOpen}
use Rattle.delivery.proofs.Lists.Same.{T_true}
use Rattle.delivery.proofs.Lists.Check.{slots_of, allowed-by}
use Rattle.delivery_restarts.specs.Restarts.{RestartEnds}
use Rattle.delivery_crashes.specs.Crashes.{Call, Site, initial_site}
use Rattle.delivery_crashes.specs.OverCrashes.{Premises}
use Rattle.delivery_crashes.proofs.Computing.{judge, passes_all, crashing}
use Rattle.delivery_ledger.specs.Blocks.{Act, calls_of, Course, ReadyEach}
use Rattle.delivery_ledger.specs.OverCrashes.{surviving_acts, crash_course}
use Rattle.delivery_ledger.proofs.Lists.Check.{ready_after, ready-each-by}
use Rattle.delivery_ledger.proofs.Lists.Worked.{computing_acts}

-- A card 2 and a host 1, with a slot buffer of the least size.
abbrev pub from : ℕ → RestartEnds → List ℕ → Site
from limit e memory = initial_site e 2 1 limit (slots_of limit) memory

abbrev pub course_over : ℕ → RestartEnds → List ℕ → Course Call
course_over limit e memory = crash_course e (from limit e memory) memory

module _ (limit : ℕ) (e : RestartEnds) (memory : List ℕ) (acts : List (Act Call)) where
  abbrev pub stands : List (Act Call)
  stands = surviving_acts e (from limit e memory) acts

  abbrev passes : Bool
  passes = passes_all (judge limit e memory (calls_of acts))

  unfoldable pub delivers : Bool
  delivers = passes && ready_after (course_over limit e memory) [] stands

  pub record Delivers : Type 0 where
    pub both_open :
        BothOpen 2 1 (e.ends.card_end.card_opening 2 1 limit (slots_of limit)) (e.ends.host_end.host_opening 1 2)
    pub premises : Premises e (from limit e memory) memory (calls_of acts)
    pub ready_each : ReadyEach (course_over limit e memory) stands

  pub delivers-by : T delivers → Delivers
  unfolding judge passes_all delivers
  delivers-by met =
      let j = judge limit e memory (calls_of acts) in
      let h = (and-eq-true_iff passes (ready_after (course_over limit e memory) [] stands)).0 (T_true delivers met) in
      let a = (and-eq-true_iff j.only_kept j.passed).0 h.0 in
      let g = (and-eq-true_iff _ _).0 a.1 in
      let o = (and-eq-true_iff _ _).0 g.0 in
      let t = (and-eq-true_iff _ _).0 g.1 in
      let k = (and-eq-true_iff _ _).0 t.1 in
      record {
        both_open = record {
          card_fits = lit< tt;
          host_fits = lit< tt;
          card_opens = eqb-true _ _ o.0;
          host_opens = eqb-true _ _ o.1;
        };
        premises = record {
          arguments_typed = t.0;
          arrives_in_time = k.0;
          writes_allowed = allowed-by _ k.1;
          only_kept_read = a.0;
        };
        ready_each = ready-each-by (course_over limit e memory) stands [] h.1;
      }

-- One name for all that is computed of such lists.
unfoldable pub crashing_acts : Unit {0}
unfolding crashing computing_acts surviving_acts delivers
crashing_acts = tt
