-- `host_words::update::put_head`: three words are set, and hold what stands before the table.
-- Assumes nothing.
use mathlib.Core.Path.{◌≡◌, ◌∙◌}
use native.Mathlib.Omega.{arith}
use Rattle.host_words.specs.Updating.{with_head}
use Rattle.host_words.proofs.update.Updating.{holds-head}
use Rattle.host_words.proofs.update.put_head.Goals as goal

pub returns : goal.returns
unfolding with_head
returns c =
    let a = c.args in
    let e : c.put-3.new.w ≡ with_head a.w.now a.h =
    c.put-3.ensures
    ∙ rw (c.put-2.ensures, c.put.ensures, c.of_halves-window.ensures, c.of_quarters-ids.ensures) in record {
      w_after = e;
      holds_head = λ l. rw e
          (holds-head a.w.now a.h l (omega (arith, c.well_formed.1)) (omega (arith, c.well_formed.1))
          (omega (arith, c.well_formed.1)) (omega (arith, c.well_formed.1)) (omega (arith, c.well_formed.1)));
    }
