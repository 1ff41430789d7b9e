-- `host_receive::take_in`: refused and nothing changed, or both passes.
-- Assumes nothing.
use Rattle.std.proofs.Common.{sym, refl, ap, ◌∙◌, true≢false, arith}
use Rattle.refusal.proofs.Numbers.{number-positive}
use Rattle.host.specs.Host.{Received}
use Rattle.host_words.specs.Words.{pair_of}
use Rattle.host_receive.proofs.Awaiting.{stays, new-refused, new-taken}
use Rattle.host_receive.proofs.take_in.Goals as goal

pub returns-in-Err : goal.returns-in-Err
returns-in-Err c =
    λ d w new clear l.
    let a = c.args in
    let e = new-refused (pair_of a.words.now) a.f.now a.memory.now _ d w new clear _
    (rw c.in-Err.is at c.validate.ensures) (λ z. omega (arith, number-positive c.in-Err.stop.reason, z)) in
    let s = stays _ _ _ _ e in (
      s.0,
      s.1,
      c.refuse_first.ensures ∙ rw (c.peer.ensures, c.own.ensures) s.2,
      λ q. refl,
    )

pub returns : goal.returns
returns c =
    λ d w new clear l.
    let a = c.args in
    let n = new-taken (pair_of a.words.now) a.f.now a.memory.now _ d w new clear _
    (rw c.in-Ok.is at c.validate.ensures) refl in (
      c.accept-run.ensures.accepts (c.apply.auto.words ∙ l)
          ∙ rw (c.apply.ensures.0 l).0 (sym (ap (λ (r : Received). r.pair) n)),
      (c.apply.ensures.0 l).1 ∙ sym (ap (λ (r : Received). r.memory) n),
      rw (c.accept-run.ensures.value, (c.apply.ensures.0 l).0) (sym (ap (λ (r : Received). r.answer) n)),
      λ q. absurd (true≢false q),
    )
