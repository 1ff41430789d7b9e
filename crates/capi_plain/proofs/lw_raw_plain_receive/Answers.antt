-- `capi_plain::lw_raw_plain_receive`: what the plain host makes of it, in words.
-- Assumes nothing.
use mathlib.Core.Path.{◌∙◌}
use Rattle.capi_plain.proofs.Receiving.{stored, kept, received-in-words}
use Rattle.capi_plain.proofs.lw_raw_plain_receive.Goals as goal
use Rattle.capi_plain.proofs.lw_raw_plain_receive.Goals.{then-kind-eq1, else-kind-eq1}

pub returns : goal.returns
returns c =
    let a = c.args in
    let whole = received-in-words a.words.now a.frame.now a.memory.now _ c.plain_of.ensures
    _ c.receive-stepped.ensures.value _ c.receive-stepped.ensures.memory_after _ c.kind_of-kind.ensures _
    (elim c.if-kind-eq1.branch [
      | then-kind-eq1 w ↦ w.words-is ∙ w.words_of.ensures ∙ stored _ _ a.words.now w.if-kind-eq1.true
      | else-kind-eq1 w ↦ w.words-is ∙ kept _ _ a.words.now w.if-kind-eq1.false
    ])
    _ c.put_answer.ensures in
    record { value = whole.0; words_after = whole.1.0; memory_after = whole.1.1.0; answer_after = whole.1.1.1 }
