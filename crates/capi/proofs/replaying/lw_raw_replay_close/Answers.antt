-- `capi::replaying::lw_raw_replay_close`: what the closing answers, as numbers.
-- Assumes nothing.
use mathlib.Core.Path.{◌≡◌, refl, ◌∙◌}
use mathlib.Core.Bool.{false}
use Rattle.std.specs.Prelude.{Option, Some, None, Ok, ltb}
use Rattle.host.specs.declared.Answer.{Answer}
use Rattle.replay_text.specs.Feeding.{close}
use Rattle.replay_feed.specs.State.{replaying_of}
use Rattle.replay_text.proofs.place.Steps.{closed-ok, closed-err, close-err}
use Rattle.capi.specs.Replies.{reply_number}
use Rattle.capi.proofs.replaying.lw_raw_replay_close.Goals as goal

not-refused : (answer : Option Answer) → ltb 1 (reply_number (Ok answer)) ≡ false
not-refused None = refl
not-refused (Some a) = refl

pub returns-in-Ok : goal.returns-in-Ok
returns-in-Ok c =
    let a = c.args in
    let step = close (replaying_of a.place.now a.words.now a.frame.now a.memory.now) in
    let told = rw c.in-Ok.is at c.close.ensures.value in
    let k = closed-ok step.reply step.totals _ told in
    record {
      value = rw k.0 c.put_line.ensures.value;
      memory_after = c.close.ensures.memory_after;
      answer_after = rw k.0 c.put_line.ensures.answer_after;
      totals_after = rw (k.0, k.1, not-refused c.in-Ok.closed.answer);
      left_if_closed = λ e. let none : ⊥ = cc (k.0, e) in absurd none;
    }

pub returns-in-Err : goal.returns-in-Err
returns-in-Err c =
    let a = c.args in
    let s = replaying_of a.place.now a.words.now a.frame.now a.memory.now in
    let step = close s in
    let told = rw c.in-Err.is at c.close.ensures.value in
    let k = closed-err step.reply step.totals _ told in
    let r = close-err s _ k in
    record {
      value = rw k (c.into.ensures ∙ c.number.ensures);
      memory_after = c.close.ensures.memory_after;
      answer_after = rw k;
      totals_after = rw (k, r);
      left_if_closed = λ e. c.close.ensures.left_if_closed (rw r at c.in-Err.is);
    }
