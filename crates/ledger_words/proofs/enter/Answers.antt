-- `ledger_words::enter`: the charge, and the two words of the subscriber.
-- Assumes nothing.
use Rattle.std.proofs.Common.{arith, rules}
use Rattle.ledger.specs.Ledger.{reading_of}
use Rattle.ledger.proofs.Steps.{clear}
use Rattle.ledger_words.specs.LedgerWords.{accounts_in}
use Rattle.ledger_words.proofs.Holding.{total-at, charge-in, sum-beside, entered-in}
use Rattle.ledger_words.proofs.enter.Goals as goal

pub overflow_add-words : goal.overflow_add-words
overflow_add-words c =
    let w = c.args.words.now in
    let r = reading_of c.args.reading.subscriber c.args.reading.counter in
    let k = clear (accounts_in w c.args.sum) r c.requires in
    let d = charge-in w c.args.sum r.subscriber k.known r.counter _ c.charge_of-charge.ensures in
    omega (arith, k.total, d, total-at w c.args.sum r.subscriber k.known)

pub overflow_add-result : goal.overflow_add-result
overflow_add-result c =
    let w = c.args.words.now in
    let r = reading_of c.args.reading.subscriber c.args.reading.counter in
    let k = clear (accounts_in w c.args.sum) r c.requires in
    let d = charge-in w c.args.sum r.subscriber k.known r.counter _ c.charge_of-charge.ensures in
    omega (arith, k.sum, d, sum-beside w c.args.sum)

pub returns : goal.returns
returns c =
    let w = c.args.words.now in
    let r = reading_of c.args.reading.subscriber c.args.reading.counter in
    let k = clear (accounts_in w c.args.sum) r c.requires in
    let d = charge-in w c.args.sum r.subscriber k.known r.counter _ c.charge_of-charge.ensures in
    rw c.from.ensures (entered-in w c.args.sum r.subscriber r.counter _ k.known (search rules) (search rules) d)
