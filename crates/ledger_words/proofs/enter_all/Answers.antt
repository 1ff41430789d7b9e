-- `ledger_words::enter_all`: the loop in place, and the sum at its end.
-- Assumes nothing.
use Rattle.std.proofs.Common.{sym, ap, ◌∙◌, rules}
use Rattle.ledger.specs.Ledger.{Outcome}
use Rattle.ledger_words.proofs.Holding.{held-beside, sum-stored}
use Rattle.ledger_words.proofs.Loops.{enter-start, enter-turn, enter-clear, enter-done}
use Rattle.ledger_words.proofs.enter_all.Goals as goal

pub loop-bytes-init : goal.loop-bytes-init
loop-bytes-init c = (rw (held-beside c.args.words.now) (enter-start _ _), search rules)

pub enter-sum-requires : goal.enter-sum-requires
enter-sum-requires c = enter-clear c.loop-bytes.invariant.0 _ _ c.loop-bytes-test.true c.of.ensures c.requires

pub loop-bytes-preserved : goal.loop-bytes-preserved
loop-bytes-preserved c =
    let clear = enter-clear c.loop-bytes.invariant.0 _ _ c.loop-bytes-test.true c.of.ensures c.requires in
    (enter-turn c.loop-bytes.invariant.0 _ _ c.loop-bytes-test.true c.of.ensures _ clear c.enter-sum.ensures, c.enter-sum.array_long)

pub returns : goal.returns
returns c =
    sum-stored _ _ c.loop-bytes.invariant.1
    ∙ sym (ap (λ (o : Outcome). o.ledger) (enter-done c.loop-bytes.invariant.0 c.loop-bytes-test.false))
