-- `host_words::describe::put_open`: stored where it is open.
-- Assumes nothing.
use mathlib.Core.Path.{refl, ◌∙◌}
use mathlib.Core.Logic.{inl, inr}
use borrow.Author.Tests.{lt-ltb, le-ltb}
use Rattle.host_words.proofs.describe.put_open.Goals as goal

pub returns-then-o-gt0 : goal.returns-then-o-gt0
returns-then-o-gt0 c =
    inl (
      rw (← c.entry_at-o.ensures) (lt-ltb _ _ c.if-o-gt0.true),
      c.put_five.ensures ∙ rw (c.number_at.ensures, c.entry_at-o.ensures),
      refl,
    )

pub returns : goal.returns
returns c = inr (rw (← c.entry_at-o.ensures) (le-ltb _ _ c.if-o-gt0.false), refl, refl)
