-- `capi_plain::marks_from` reads mark after mark.
-- Assumes nothing.
use Rattle.std.proofs.Common.{rules, false}
use Rattle.capi_plain.specs.Words.{marks_from}
use Rattle.capi_plain.proofs.Filling.{filled_same}
use Rattle.capi_plain.proofs.marks_from.Goals as goal

pub returns : goal.returns
unfolding marks_from
returns g c = filled_same _ false _ _ _ (λ i y q h k. search rules) _ c.from_fn.ensures.items
