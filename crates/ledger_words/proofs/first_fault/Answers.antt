-- `ledger_words::first_fault`: the loop on a copy.
-- Assumes nothing.
use Rattle.std.proofs.Common.{sym, ap, ◌∙◌, arith}
use Rattle.std.proofs.lemmas.Result.{err_from_is_err_and}
use Rattle.refusal.proofs.Numbers.{number-positive}
use Rattle.ledger.specs.Ledger.{Outcome}
use Rattle.ledger_words.proofs.Holding.{held-beside}
use Rattle.ledger_words.proofs.Loops.{enter-start, enter-turn, enter-stop, enter-done}
use Rattle.ledger_words.proofs.first_fault.Goals as goal

pub loop-bytes-init : goal.loop-bytes-init
loop-bytes-init c = rw (held-beside c.args.words.now) (enter-start _ _)

pub returns-in_err-check_reading : goal.returns-in_err-check_reading
returns-in_err-check_reading c =
    let p = err_from_is_err_and c.from_residual.result c.from_residual.ensures.1 in
    let e = c.in_err-check_reading.ensures in
    rw (p.1, p.2)
    (e ∙ enter-stop c.loop-bytes.invariant _ _ c.loop-bytes-test.true c.of-reading.ensures
    (λ z. omega (arith, number-positive c.in_err-check_reading.field-0.0, e)))

pub loop-bytes-preserved : goal.loop-bytes-preserved
loop-bytes-preserved c =
    enter-turn c.loop-bytes.invariant _ _ c.loop-bytes-test.true c.of-reading.ensures _
    (sym c.in_ok-check_reading.ensures) c.enter-sum.ensures

pub returns : goal.returns
returns c = sym (ap (λ (o : Outcome). o.refusal) (enter-done c.loop-bytes.invariant c.loop-bytes-test.false))
