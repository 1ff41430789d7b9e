-- `run_within`: the run of the whole word, cut.
-- Assumes nothing.
use native.Mathlib.Omega.{arith}
use Rattle.bitmap.proofs.Marks.{ones-le}
use Rattle.card_send.proofs.choose.Choosing.{run-cut}
use borrow.Author.Rules.{rules}
use Rattle.card_send.proofs.choose.run_within.Goals as goal

pub overflow_cast-run_length : goal.overflow_cast-run_length
overflow_cast-run_length c = omega (arith, c.run_length.ensures, ones-le 64 c.args.marks)

pub returns : goal.returns
returns c = run-cut c.args.marks c.args.most _ _ (search rules) c.run_length.ensures c.min.ensures
