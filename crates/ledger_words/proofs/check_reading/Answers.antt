-- `ledger_words::check_reading`: the three faults in their order.
-- Assumes nothing.
use Rattle.std.proofs.Common.{◌<◌, sym, arith}
use Rattle.std.proofs.lemmas.Result.{err_from_is_err_and}
use Rattle.ledger.specs.Ledger.{reading_of, subscribers}
use Rattle.ledger.proofs.Steps.{unknown, total-past, sum_past, no-fault}
use Rattle.ledger_words.specs.LedgerWords.{accounts_in}
use Rattle.ledger_words.proofs.Adding.{added, not-added}
use Rattle.ledger_words.proofs.Holding.{total-at, charge-in, sum-beside}
use Rattle.ledger_words.proofs.check_reading.Goals as goal

pub returns-then-reading-ge-SUBSCRIBERS : goal.returns-then-reading-ge-SUBSCRIBERS
returns-then-reading-ge-SUBSCRIBERS c =
    let a = c.args in
    sym (unknown (accounts_in a.words.now a.sum) (reading_of a.reading.subscriber a.reading.counter) (omega arith))

pub returns-in_err-ok_or : goal.returns-in_err-ok_or
returns-in_err-ok_or c =
    let w = c.args.words.now in
    let l = accounts_in w c.args.sum in
    let r = reading_of c.args.reading.subscriber c.args.reading.counter in
    let h : r.subscriber < subscribers = omega arith in
    let d = charge-in w c.args.sum r.subscriber h r.counter _ c.charge_of-charge.ensures in
    let t = total-at w c.args.sum r.subscriber h in
    let n = not-added _ _ _ _ _ c.checked_add.ensures c.in_err-ok_or.ensures.value in
    let p = err_from_is_err_and c.from_residual.result c.from_residual.ensures.1 in
    rw (p.1, p.2, n.1) (sym (total-past l r h (omega (arith, d, t, n.0))))

pub returns-in_err-ok_or-2 : goal.returns-in_err-ok_or-2
returns-in_err-ok_or-2 c =
    let w = c.args.words.now in
    let l = accounts_in w c.args.sum in
    let r = reading_of c.args.reading.subscriber c.args.reading.counter in
    let h : r.subscriber < subscribers = omega arith in
    let d = charge-in w c.args.sum r.subscriber h r.counter _ c.charge_of-charge.ensures in
    let t = total-at w c.args.sum r.subscriber h in
    let s = sum-beside w c.args.sum in
    let y = added _ _ _ _ c.checked_add.ensures c.in_ok-ok_or.ensures.ok_part in
    let n = not-added _ _ _ _ _ c.checked_add-2.ensures c.in_err-ok_or-2.ensures.value in
    let p = err_from_is_err_and c.from_residual-in_err-ok_or-2.result c.from_residual-in_err-ok_or-2.ensures.1 in
    rw (p.1, p.2, n.1) (sym (sum_past l r h (omega (arith, d, t, y)) (omega (arith, d, s, n.0))))

pub returns : goal.returns
returns c =
    let w = c.args.words.now in
    let l = accounts_in w c.args.sum in
    let r = reading_of c.args.reading.subscriber c.args.reading.counter in
    let h : r.subscriber < subscribers = omega arith in
    let d = charge-in w c.args.sum r.subscriber h r.counter _ c.charge_of-charge.ensures in
    let t = total-at w c.args.sum r.subscriber h in
    let s = sum-beside w c.args.sum in
    let x = added _ _ _ _ c.checked_add.ensures c.in_ok-ok_or.ensures.ok_part in
    let y = added _ _ _ _ c.checked_add-2.ensures c.in_ok-ok_or-2.ensures.ok_part in
    sym (no-fault l r (record { known = h; total = omega (arith, d, t, x); sum = omega (arith, d, s, y) }))
