-- `ledger_words::has_room`: the loop that looks for room, and the two comparisons behind it.
-- Assumes nothing.
use Rattle.std.proofs.Common.{◌%◌, sym, ◌∙◌, mod-lt, arith, lit<, le-ltb}
use Rattle.ledger.specs.Ledger.{subscribers}
use Rattle.ledger_words.specs.LedgerWords.{ledger_in}
use Rattle.ledger_words.proofs.Holding.{held-total, held-sum}
use Rattle.ledger_words.proofs.Loops.{too_many, sum-high, look-start, look-turn, look-unknown, look-done}
use Rattle.ledger_words.proofs.has_room.Goals.{
  then-block-gt-READINGS_MOST-via-then-block-gt-READINGS_MOST,
  then-block-gt-READINGS_MOST-via-else-block-gt-READINGS_MOST+then-words-ge-HALF,
}
use Rattle.ledger_words.proofs.has_room.Goals as goal

pub returns-then-block-gt-READINGS_MOST : goal.returns-then-block-gt-READINGS_MOST
returns-then-block-gt-READINGS_MOST c =
    let l = ledger_in c.args.words.now in
    let block = c.args.block.now in
    sym
    (elim c.then-block-gt-READINGS_MOST.branch [
      | then-block-gt-READINGS_MOST-via-then-block-gt-READINGS_MOST w ↦ too_many l block w.if-block-gt-READINGS_MOST.true
      | then-block-gt-READINGS_MOST-via-else-block-gt-READINGS_MOST+then-words-ge-HALF w ↦
          sum-high l block w.if-block-gt-READINGS_MOST.false
          (omega (arith, held-sum c.args.words.now, w.if-words-ge-HALF.true))
    ])

pub loop-bytes-init : goal.loop-bytes-init
loop-bytes-init c = look-start _ _

pub loop-bytes-preserved : goal.loop-bytes-preserved
loop-bytes-preserved c =
    let s = c.of-subscriber.result.subscriber in
    look-turn c.loop-bytes.invariant _ _ _ c.loop-bytes-test.true c.of-subscriber.ensures
    (sym (held-total c.args.words.now (s % subscribers) (mod-lt s (lit< tt))))

pub returns-then-any-lt-SUBSCRIBERS : goal.returns-then-any-lt-SUBSCRIBERS
returns-then-any-lt-SUBSCRIBERS c =
    look-done _ _ (omega arith) (omega (arith, held-sum c.args.words.now)) c.loop-bytes.invariant c.loop-bytes-test.false
    c.if-any-lt-SUBSCRIBERS.true

pub returns-else-any-lt-SUBSCRIBERS : goal.returns-else-any-lt-SUBSCRIBERS
returns-else-any-lt-SUBSCRIBERS c =
    let h = c.if-any-lt-SUBSCRIBERS.false in
    le-ltb c.loop-bytes.any subscribers h
    ∙ look-unknown _ _ (omega arith) (omega (arith, held-sum c.args.words.now)) c.loop-bytes.invariant
    c.loop-bytes-test.false h
