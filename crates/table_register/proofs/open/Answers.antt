-- `table_register::open`: place by place.
-- Assumes nothing.
use native.Mathlib.Omega.{arith}
use borrow.Author.Tests.{eq-eqb, ne_eqb}
use Rattle.table.specs.Table.{open_table}
use Rattle.table_register.proofs.Changing.{free-start, free-turn, free-done}
use Rattle.table_register.proofs.open.Goals as goal

pub loop-k-init : goal.loop-k-init
loop-k-init c = rw c.from.ensures (free-start c.args.words.now _ (omega arith) c.if-words-ne-TABLE_WORDS.false)

pub loop-k-preserved : goal.loop-k-preserved
loop-k-preserved c =
    free-turn _ _ _ _ c.loop-k-test.true c.loop-k.invariant
    c.put_place.auto.words c.put_place.ensures

pub returns-then-own-eq0 : goal.returns-then-own-eq0
unfolding open_table
returns-then-own-eq0 c = (
  λ l. (free-done _ _ _ c.loop-k-test.false c.loop-k.invariant, rw (eq-eqb _ 0 c.if-own-eq0.true)),
  λ n. absurd (n c.if-words-ne-TABLE_WORDS.false),
)

pub returns : goal.returns
unfolding open_table
returns c = (
  λ l. (free-done _ _ _ c.loop-k-test.false c.loop-k.invariant, rw (ne_eqb _ 0 c.if-own-eq0.false)),
  λ n. absurd (n c.if-words-ne-TABLE_WORDS.false),
)
