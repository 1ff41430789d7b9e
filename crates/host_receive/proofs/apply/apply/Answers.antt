-- `host_receive::apply::apply` takes effect message by message, as the definition does.
-- Assumes nothing.
use Rattle.std.proofs.Common.{sym, refl, ◌∙◌}
use Rattle.wire_read.proofs.Finding.{is_whole}
use Rattle.host_receive.proofs.apply.Walk.{applying-start, applying-past, applying-done, applying-turn}
use Rattle.host_receive.proofs.apply.apply.Goals as goal

pub returns-then-words-ne-WORDS : goal.returns-then-words-ne-WORDS
returns-then-words-ne-WORDS c = (λ l. absurd (c.if-words-ne-WORDS.true l), λ n. (refl, refl))

pub loop-init : goal.loop-init
loop-init c = applying-start _ _ _ _ c.if-words-ne-WORDS.false

pub returns-in_default : goal.returns-in_default
returns-in_default c = (
  λ l. applying-past c.loop.invariant (sym c.message_at.ensures ∙ c.in_default.is),
  λ n. absurd (n c.loop.invariant.long),
)

pub loop-preserved : goal.loop-preserved
loop-preserved c =
    let x = is_whole (sym c.message_at.ensures ∙ c.in-Some.is) in
    applying-turn c.loop.invariant x _ _ c.loop-test.true c.take_effect.auto.words
    (rw c.data_at.ensures at c.take_effect.ensures)

pub returns : goal.returns
returns c = (λ l. applying-done c.loop.invariant c.loop-test.false, λ n. absurd (n c.loop.invariant.long))
