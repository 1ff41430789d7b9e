-- `header_offset`: the next header past what is built.
-- Assumes nothing.
use native.Mathlib.Omega.{arith}
use mathlib.Core.Path.{◌∙◌}
use Rattle.wire.proofs.Format.{header-after}
use Rattle.card_build.proofs.admit.header_offset.Goals as goal

pub returns : goal.returns
returns c = c.next_header.ensures ∙ header-after c.args.used (omega arith)
