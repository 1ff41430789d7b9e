-- `capi::replaying::lw_raw_replay_feed`: what the feeding answers, as numbers.
-- Assumes nothing.
use mathlib.Core.Path.{◌≡◌, sym, ◌∙◌}
use Rattle.std.specs.Prelude.{Ok, Err}
use Rattle.refusal.specs.declared.Reason.TheVariants.{ReplayClosed}
use Rattle.replay_text.specs.Feeding.{feed}
use Rattle.replay_feed.specs.State.{replaying_of}
use Rattle.replay_text.proofs.place.Steps.{fed-ok, fed-err, feed-err}
use Rattle.capi.proofs.replaying.lw_raw_replay_feed.Goals as goal

pub returns-in-Ok : goal.returns-in-Ok
returns-in-Ok c =
    let a = c.args in
    let step = feed (replaying_of a.place.now a.words.now a.frame.now a.memory.now) a.fragment.now in
    let told = rw c.in-Ok.is at c.feed.ensures.value in
    let k = fed-ok step.reply step.taken _ told in
    record {
      value = rw k.0 c.put_line.ensures.value;
      memory_after = c.feed.ensures.memory_after;
      taken_after = sym k.1;
      answer_after = rw k.0 c.put_line.ensures.answer_after;
      left_if_closed = λ e. let none : ⊥ = cc (k.0, e) in absurd none;
    }

pub returns-in-Err : goal.returns-in-Err
returns-in-Err c =
    let a = c.args in
    let s = replaying_of a.place.now a.words.now a.frame.now a.memory.now in
    let step = feed s a.fragment.now in
    let told = rw c.in-Err.is at c.feed.ensures.value in
    let k = fed-err step.reply step.taken _ told in
    record {
      value = rw k (c.into.ensures ∙ c.number.ensures);
      memory_after = c.feed.ensures.memory_after;
      taken_after = sym (feed-err s a.fragment.now _ k);
      answer_after = rw k;
      left_if_closed = λ e.
          let r : c.in-Err.reason ≡ ReplayClosed = cc (k, e) in
          c.feed.ensures.left_if_closed (rw r at c.in-Err.is);
    }
