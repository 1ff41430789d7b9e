-- `replay_feed::open`: nothing read, and nothing in the memory.
-- Assumes nothing.
use mathlib.Core.Path.{◌≡◌, refl}
use native.Mathlib.Omega.{arith}
use lib.ListN.{length}
use Rattle.host.specs.Host.{opened_of}
use Rattle.replay_text.proofs.place.Steps.{opens}
use Rattle.replay_feed.proofs.open.Goals as goal

pub returns : goal.returns
unfolding opened_of
returns c =
    let n : length c.args.words.now ≡ 67 = omega arith in record {
      memory_after = refl;
      opens_replay = opens _ (c.open_in_place.ensures.0 n).0;
    }
