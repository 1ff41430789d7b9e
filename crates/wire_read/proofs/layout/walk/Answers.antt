-- `wire_read::layout::walk` goes from message to message as the definition does.
-- Assumes nothing.
use mathlib.Core.Path.{sym, ap, ◌∙◌}
use Prim.Native.Nat.{ℕ}
use native.Mathlib.Omega.{arith}
use borrow.Author.Tests.{not-true, not-false}
use Rattle.std.proofs.lemmas.Result.{err_from_is_err_and}
use Rattle.refusal.specs.Reason.{refusal_number}
use Rattle.wire_read.specs.declared.layout.Layout.{Layout}
use Rattle.wire_read.proofs.Finding.{is_whole}
use Rattle.wire_read.proofs.layout.Reading.{walked_start, walked-past, walked-last, walked-turn}
use Rattle.wire_read.proofs.layout.walk.Goals as goal

pub loop-found-init : goal.loop-found-init
loop-found-init c = (walked_start _, c.requires)

pub returns-in_err-found-clause-refused : goal.returns-in_err-found-clause-refused
returns-in_err-found-clause-refused c =
    let none_there = c.in_err-found.ensures.ok_part in
    let p = err_from_is_err_and c.from_residual.result c.from_residual.ensures.1 in
    rw (p.1, p.2)
    (ap refusal_number (rw none_there at c.in_err-found.ensures.value)
    ∙ walked-past c.loop-found.invariant.0 (sym c.message_at.ensures ∙ none_there))

pub returns-then-not-found-clause-refused : goal.returns-then-not-found-clause-refused
returns-then-not-found-clause-refused c =
    let found = sym c.message_at.ensures ∙ c.in_ok-found.ensures.ok_part in
    sym (ap (λ (p : ℕ × Layout). p.0) (walked-last c.loop-found.invariant.0 found (not-true _ c.if-not-found.true)))

pub returns-then-not-found-clause-laid_out : goal.returns-then-not-found-clause-laid_out
returns-then-not-found-clause-laid_out c =
    let found = sym c.message_at.ensures ∙ c.in_ok-found.ensures.ok_part in
    sym (ap (λ (p : ℕ × Layout). p.1) (walked-last c.loop-found.invariant.0 found (not-true _ c.if-not-found.true)))

pub loop-found-smaller : goal.loop-found-smaller
loop-found-smaller c =
    let found = sym c.message_at.ensures ∙ c.in_ok-found.ensures.ok_part in
    omega (arith, c.loop-found.invariant.0, is_whole found)

pub loop-found-preserved : goal.loop-found-preserved
loop-found-preserved c =
    let found = sym c.message_at.ensures ∙ c.in_ok-found.ensures.ok_part in
    (walked-turn c.loop-found.invariant.0 found (not-false _ c.if-not-found.false), c.loop-found.invariant.1)
