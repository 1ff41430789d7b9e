-- `replay_feed::answer_line`: the line's refusal, or what the host says.
-- Assumes nothing.
use mathlib.Core.Path.{◌≡◌, sym, ap, ◌∙◌}
use native.Mathlib.Omega.{arith}
use borrow.Author.Tests.{eq-eqb, ne_eqb}
use lib.ListN.{length, take}
use Rattle.refusal.proofs.Numbers.{number-positive}
use Rattle.refusal.specs.Reason.{number, refusal_number}
use Rattle.host.specs.Host.{Received, unchanged, refused, receive_of}
use Rattle.host_words.specs.Words.{pair_of}
use Rattle.replay_text.specs.Report.{answered_line, line_refusal}
use Rattle.replay_feed.proofs.answer_line.Goals as goal

pub returns-in-Err : goal.returns-in-Err
unfolding answered_line
returns-in-Err c =
    let a = c.args in
    let p = pair_of a.words.now in
    let r = c.in-Err.reason in
    let n : line_refusal a.line ≡ number r = sym (rw c.in-Err.is at c.check_line.ensures) in
    let e : answered_line p a.line a.frame.now a.memory.now ≡ unchanged p a.memory.now (refused (number r) 0) =
    rw (n, ne_eqb (number r) 0 (λ z. omega (arith, z, number-positive r))) in
    record {
      value = rw c.number.ensures (sym (ap (λ (x : Received). x.answer) e));
      words_after = sym (ap (λ (x : Received). x.pair) e);
      memory_after = sym (ap (λ (x : Received). x.memory) e);
    }

pub returns-in-Ok : goal.returns-in-Ok
unfolding answered_line
returns-in-Ok c =
    let a = c.args in
    let p = pair_of a.words.now in
    let none : line_refusal a.line ≡ 0 = sym (rw c.in-Ok.is at c.check_line.ensures) in
    let e : answered_line p a.line a.frame.now a.memory.now
    ≡ receive_of p (take a.line.len a.frame.now) a.memory.now =
    rw none in
    let n : length a.words.now ≡ 67 = omega arith in
    let k = c.receive_in_place.ensures.0 n in
    record {
      value = (rw c.front.ensures at k.2) ∙ sym (ap (λ (r : Received). r.answer) e);
      words_after = (rw c.front.ensures at k.0) ∙ sym (ap (λ (r : Received). r.pair) e);
      memory_after = (rw c.front.ensures at k.1) ∙ sym (ap (λ (r : Received). r.memory) e);
    }
