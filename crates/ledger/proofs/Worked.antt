-- The history of Answers.antt fulfils the premises of total-is-true: its true counts pass 4,294,967,296. Assumes
-- nothing.
use native.Mathlib.Omega.{arith}
use mathlib.Core.Path.{◌≡◌, refl}
use mathlib.Core.List.{[], ◌∷◌}
use Rattle.ledger.specs.Ledger.{total_of, empty}
use Rattle.ledger.specs.History.{after, accepted, counters_of, bytes_passed, last_of, InStep, InStepFrom, TrueCounts}
use Rattle.ledger.proofs.Answers.{blocks, blocks-kept}
use Rattle.ledger.proofs.Accounts.{total-is-true}

-- The true counts of subscriber 7 pass 4,294,967,296 between its first two readings.
pub counts : TrueCounts 7 (accepted empty blocks) (4294967000 ∷ 4294967496 ∷ 4294967496 ∷ 4294967497 ∷ [])
unfolding counters_of InStep InStepFrom
counts = record {
  read = rw blocks-kept refl;
  in_step = (omega arith, omega arith, (omega arith, omega arith, (omega arith, omega arith, tt)));
}

-- From 4,294,967,000 to 4,294,967,497.
pub total-is-497 : total_of (after empty blocks) 7 ≡ 497
unfolding bytes_passed last_of
total-is-497 = total-is-true blocks 7 _ counts
