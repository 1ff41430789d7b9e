-- `capi_plain::table_of` reads entry after entry.
-- Assumes nothing.
use Rattle.std.proofs.Common.{rules}
use Rattle.host_plain.specs.Plain.{free}
use Rattle.capi_plain.specs.Words.{table_of}
use Rattle.capi_plain.proofs.Filling.{filled_same}
use Rattle.capi_plain.proofs.table_of.Goals as goal

pub returns : goal.returns
unfolding table_of
returns c = filled_same _ free _ _ _ (λ i y q h k. search rules) _ c.from_fn.ensures.items
