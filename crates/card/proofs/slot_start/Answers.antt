-- `slot_start`: the slot's number times its length.
-- Assumes nothing.
use native.Mathlib.Omega.{arith}
use mathlib.Core.Path.{refl}
use Rattle.card.proofs.Slots.{slot-low}
use borrow.Author.Rules.{rules}
use Rattle.card.proofs.slot_start.Goals as goal

pub overflow_mul-result : goal.overflow_mul-result
overflow_mul-result c = omega (arith, slot-low c.args.n.0 c.args.limit (search rules))

pub returns : goal.returns
returns c = (refl, omega (arith, slot-low c.args.n.0 c.args.limit (search rules)))
