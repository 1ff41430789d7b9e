-- `capi_plain::words_of` writes word after word.
-- Assumes nothing.
use Rattle.std.proofs.Common.{rules}
use Rattle.capi_plain.specs.Words.{words_of}
use Rattle.capi_plain.proofs.Filling.{filled_same}
use Rattle.capi_plain.proofs.words_of.Goals as goal

pub returns : goal.returns
unfolding words_of
returns c = filled_same _ 0 _ _ _ (λ i y q h k. search rules) _ c.from_fn.ensures.items
