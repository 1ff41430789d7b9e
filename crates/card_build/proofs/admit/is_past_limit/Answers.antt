-- `is_past_limit`: what is left of the limit is compared, so that no sum can pass a word.
-- Assumes nothing.
use mathlib.Core.Path.{sym, ap, ◌∙◌}
use Prim.Native.Nat.{ℕ, ◌+◌}
use native.Mathlib.Omega.{arith}
use borrow.Author.Tests.{lt-ltb}
use lib.Dec.{ltb}
use lib.ListN.{length}
use Rattle.wire.specs.Format.{next_header}
use Rattle.wire.proofs.Format.{next-gap}
use Rattle.card_build.proofs.admit.Limits.{past-limit}
use Rattle.card_build.proofs.admit.is_past_limit.Goals as goal

pub overflow_add-start : goal.overflow_add-start
overflow_add-start c = omega (arith, c.header_offset-start.ensures, next-gap c.args.used)

pub returns-then-most-start : goal.returns-then-most-start
returns-then-most-start c =
    let a = c.args in
    rw (lt-ltb _ _ c.if-most-start.true)
    (sym (lt-ltb a.limit (next_header a.used + 24 + length a.payload.now)
    (omega (arith, c.if-most-start.true, c.header_offset-start.ensures))))

pub returns-else-most-start : goal.returns-else-most-start
returns-else-most-start c =
    let a = c.args in
    past-limit a.limit (c.header_offset-start.result + 24) (length a.payload.now)
    (omega (arith, c.if-most-start.false))
    ∙ ap (λ (n : ℕ). ltb a.limit (n + 24 + length a.payload.now)) c.header_offset-start.ensures
