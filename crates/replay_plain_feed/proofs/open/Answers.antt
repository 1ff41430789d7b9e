-- `replay_plain_feed::open`: nothing read, nothing in the memory, and a fresh pair.
-- Assumes nothing.
use mathlib.Core.Path.{refl, ap, ◌∙◌}
use Rattle.host_plain.specs.declared.PlainOpened.{PlainOpened}
use Rattle.host_equal.specs.Described.{pair_of_plain}
use Rattle.replay_text.proofs.place.Steps.{opens}
use Rattle.replay_plain_feed.proofs.Answering.{opened-fresh}
use Rattle.replay_plain_feed.proofs.open.Goals as goal

pub returns : goal.returns
returns c =
    record {
      memory_after = refl;
      opens_replay =
          opens _ (ap (λ (o : PlainOpened). pair_of_plain o.pair) c.open_pair.ensures ∙ opened-fresh);
    }
