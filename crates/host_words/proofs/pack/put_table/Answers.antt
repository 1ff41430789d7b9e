-- `host_words::pack::put_table` stores the table entry by entry.
-- Assumes nothing.
use mathlib.Core.Path.{refl}
use Rattle.host_words.proofs.pack.Packing.{storing-start, storing-turn, storing-done}
use borrow.Author.Rules.{rules}
use Rattle.host_words.proofs.pack.put_table.Goals as goal

pub loop-i-init : goal.loop-i-init
loop-i-init c = storing-start _ _

pub loop-i-preserved : goal.loop-i-preserved
loop-i-preserved c =
    storing-turn c.loop-i.invariant _ _
    c.loop-i-test.true (search rules) refl
    c.put_entry.ensures.holds_entry

pub returns : goal.returns
returns c = storing-done c.loop-i.invariant c.loop-i-test.false (search rules)
