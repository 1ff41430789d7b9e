-- `replay_plain_feed::answer_line`: the line's refusal, or what the plain host says.
-- Assumes nothing.
use Rattle.std.proofs.Common.{◌≡◌, refl, length, arith}
use Rattle.refusal.proofs.Numbers.{number-positive}
use Rattle.refusal.specs.Reason.{number}
use Rattle.replay_text.specs.Report.{line_refusal}
use Rattle.replay_plain_feed.proofs.Answering.{refused-line, received-line}
use Rattle.replay_plain_feed.proofs.answer_line.Goals as goal

pub returns-in-Err : goal.returns-in-Err
returns-in-Err c =
    let a = c.args in
    let n : number c.in-Err.reason ≡ line_refusal a.line = rw c.in-Err.is at c.check_line.ensures in
    let whole =
    refused-line a.pair a.line a.frame.now a.memory.now _ n
    (λ z. omega (arith, z, number-positive c.in-Err.reason)) in
    rw c.number.ensures (record { answer_value = whole.0; pair_value = whole.1.0; memory_after = whole.1.1 })

pub returns-in-Ok : goal.returns-in-Ok
returns-in-Ok c =
    let a = c.args in
    let q = a.pair in
    let accepted : length q.frames.accepted ≡ 64 = omega arith in
    let closed : length q.transactions.closed ≡ 32 = omega arith in
    let entries : length q.transactions.table ≡ 32 = omega arith in
    let n : 0 ≡ line_refusal a.line = rw c.in-Ok.is at c.check_line.ensures in
    let whole =
    received-line q a.line a.frame.now a.memory.now _ n refl
    (record { accepted-are = accepted; closed-are = closed; entries = entries }) _ c.front.ensures _
    c.receive.ensures.value _ c.receive.ensures.memory_after in
    record { answer_value = whole.0; pair_value = whole.1.0; memory_after = whole.1.1 }
