-- `host_receive::validate::find` judges message by message, as the definition does.
-- Assumes nothing.
use Rattle.std.proofs.Common.{◌≡◌, refl, arith, rules, Some, None}
use Rattle.std.proofs.lemmas.Result.{err_from_is_err_and}
use Rattle.refusal.specs.declared.Reason.TheVariants.{PastFrameEnd}
use Rattle.refusal.proofs.Numbers.{number-positive}
use Rattle.wire_read.specs.Finding.{found_at}
use Rattle.wire_read.proofs.Finding.{is_whole}
use Rattle.host_receive.proofs.validate.Walk.{validated-long, steady-start, steady-turn, walking_start, walking-past, walking-stops, walking-ends, walking_on, ok-kept, err-kept, told-as, byte-is, not_more, yet-more}
use Rattle.host_receive.proofs.validate.find.Goals as goal

pub returns-then-f-gt-FRAME_MOST-clause-refused : goal.returns-then-f-gt-FRAME_MOST-clause-refused
returns-then-f-gt-FRAME_MOST-clause-refused g c =
    λ r e.
    told-as _ _ r (g.met.E.Entries.told _ _ c.into.ensures) e
    (rw c.from.ensures (validated-long c.args.f.now _ c.args.size c.if-f-gt-FRAME_MOST.true))

pub loop-m-init : goal.loop-m-init
loop-m-init g c =
    let a = c.args in record {
      steady = steady-start a.f.now c.if-f-gt-FRAME_MOST.false;
      walking = rw (c.closed.ensures, c.lowest.ensures)
          (walking_start a.words.now a.f.now a.size _ c.requires c.if-f-gt-FRAME_MOST.false);
    }

pub returns-in_err-m-clause-refused : goal.returns-in_err-m-clause-refused
returns-in_err-m-clause-refused g c =
    let none : found_at c.args.f.now c.loop-m.found.at ≡ None = grind arith in
    let p = err_from_is_err_and c.from_residual.result c.from_residual.ensures.1 in
    let x : c.in_err-m.field-0.0 ≡ record { reason = PastFrameEnd; place = c.loop-m.found.sums.messages } = grind arith in
    rw p.1 (λ r e. told-as _ c.in_err-m.field-0.0 r (g.met.E.Entries.told _ _ p.2) e
    (rw x (walking-past c.loop-m.invariant.walking none)))

pub returns-in_err-judged-clause-refused : goal.returns-in_err-judged-clause-refused
returns-in_err-judged-clause-refused g c =
    let whole : found_at c.args.f.now c.loop-m.found.at ≡ Some c.in_ok-m.m = grind arith in
    let p = err_from_is_err_and c.from_residual-in_err-judged.result c.from_residual-in_err-judged.ensures.1 in
    let q = err-kept c.judge.result _ c.map_err.ensures.cases c.in_err-judged.was in
    let k = q.2 in
    let x : c.in_err-judged.field-0.0 ≡ record { reason = q.0; place = c.loop-m.found.sums.messages } = search rules in
    rw p.1 (λ r e. told-as _ c.in_err-judged.field-0.0 r (g.met.E.Entries.told _ _ p.2) e
    (rw x (walking-stops c.loop-m.invariant.walking (is_whole whole) (c.current-o.ensures c.in_ok-check_known.ensures.known)
    (rw q.1 at c.judge.ensures) (λ z. omega (arith, number-positive q.0, z)))))

pub returns-then-not-m-clause-found : goal.returns-then-not-m-clause-found
returns-then-not-m-clause-found g c =
    let whole : found_at c.args.f.now c.loop-m.found.at ≡ Some c.in_ok-m.m = grind arith in
    let q = ok-kept c.judge.result _ c.map_err.ensures.cases c.in_ok-judged.was in
    rw byte-is (walking-ends c.loop-m.invariant.walking (is_whole whole) (c.current-o.ensures c.in_ok-check_known.ensures.known)
    (rw q at c.judge.ensures) refl (not_more _ c.if-not-m.true))

pub loop-m-smaller : goal.loop-m-smaller
loop-m-smaller g c =
    let whole : found_at c.args.f.now c.loop-m.found.at ≡ Some c.in_ok-m.m = grind arith in
    let x = is_whole whole in
    omega (arith, c.loop-m.invariant.steady, x)

pub loop-m-preserved : goal.loop-m-preserved
loop-m-preserved g c =
    let whole : found_at c.args.f.now c.loop-m.found.at ≡ Some c.in_ok-m.m = grind arith in
    let x = is_whole whole in
    let q = ok-kept c.judge.result _ c.map_err.ensures.cases c.in_ok-judged.was in
    rw byte-is (record {
      steady = steady-turn c.loop-m.invariant.steady x c.in_ok-judged.judged.done;
      walking = walking_on c.loop-m.invariant.walking x (c.current-o.ensures c.in_ok-check_known.ensures.known)
          (rw q at c.judge.ensures) refl _ (yet-more _ c.if-not-m.false) (c.note.ensures c.args.words.now);
    })
