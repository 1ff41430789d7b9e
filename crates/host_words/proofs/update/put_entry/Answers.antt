-- `host_words::update::put_entry`: two words are set, and hold the entry.
-- Assumes nothing.
use mathlib.Core.Path.{◌≡◌, ◌∙◌}
use Prim.Native.Nat.{◌%◌}
use native.Mathlib.Omega.{arith}
use Rattle.host_words.specs.Updating.{with_entry}
use Rattle.host_words.proofs.update.Updating.{holds-entry}
use Rattle.host_words.proofs.update.put_entry.Goals as goal

pub returns : goal.returns
unfolding with_entry
returns c =
    let a = c.args in
    let e : c.put-2.new.w ≡ with_entry a.w.now (a.number.0 % 32) a.o =
    c.put-2.ensures
    ∙ rw (c.put.ensures, c.of_quarters-counts.ensures, c.of_halves-terms.ensures) in record {
      w_after = e;
      holds_entry = λ l. rw e
          (holds-entry a.w.now (a.number.0 % 32) a.o (omega arith) (omega (arith, c.well_formed.1))
          (omega (arith, c.well_formed.1)) (omega (arith, c.well_formed.1)) (omega (arith, c.well_formed.1)) l);
    }
