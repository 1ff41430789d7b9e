-- `host_words::opening::put_opened`: the pair, packed.
-- Assumes nothing.
use mathlib.Core.Path.{refl}
use Rattle.host_words.proofs.opening.put_opened.Goals as goal

pub returns-then-w-ne-WORDS : goal.returns-then-w-ne-WORDS
returns-then-w-ne-WORDS c = (λ l. absurd (c.if-w-ne-WORDS.true l), λ n. (refl, refl))
