-- `host_words::pair::acknowledge_from`: the range's frame, due where the range is not empty.
-- Assumes nothing.
use Rattle.std.specs.Prelude.{◌≡◌, Bool, true, false, cond, Some, None}
use mathlib.Core.Path.{refl}
use Rattle.std.specs.Bool.{then_some}
use Rattle.host.specs.Host.{acknowledgement_from}
use Rattle.host_words.proofs.pair.acknowledge_from.Goals as goal

by_cases : {A : Type 0} (b : Bool) (x : A) → then_some b x ≡ cond b (Some x) None
by_cases true x = refl
by_cases false x = refl

pub returns : goal.returns
unfolding acknowledgement_from
returns c = rw (c.then_some.ensures, c.ack_frame.ensures, c.range_of-range.ensures) (by_cases _ _)
