-- `host_words::pack::table_of`: entry by entry.
-- Assumes nothing.
use Rattle.std.proofs.Common.{rules}
use Rattle.host_words.proofs.pack.Packing.{table-made}
use Rattle.host_words.proofs.pack.table_of.Goals as goal

pub returns : goal.returns
returns c = table-made _ _ _ (λ i y q h k. search rules) _ c.from_fn.ensures.items
