-- `host_words::pack::pack`: first what stands before the table, then the table.
-- Assumes nothing.
use mathlib.Core.Path.{◌∙◌, refl}
use Rattle.host_words.proofs.pack.pack.Goals as goal

pub returns-then-w-ne-WORDS : goal.returns-then-w-ne-WORDS
returns-then-w-ne-WORDS c = (λ l. absurd (c.if-w-ne-WORDS.true l), λ n. refl)

pub returns : goal.returns
returns c = (
  λ l. c.put_table.ensures (c.put_head.auto.w ∙ l) ∙ rw (c.put_head.ensures.holds_head l, c.from.ensures),
  λ n. absurd (n c.if-w-ne-WORDS.false),
)
