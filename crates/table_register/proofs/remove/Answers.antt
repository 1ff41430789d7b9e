-- `table_register::remove`: not registered, or its place is free.
-- Assumes nothing.
use mathlib.Core.Path.{refl}
use Rattle.table_register.proofs.Changing.{remove-none, remove-unknown, remove-done}
use Rattle.table_register.proofs.remove.Goals as goal

pub returns-then-source-eq0 : goal.returns-then-source-eq0
returns-then-source-eq0 c =
    let a = c.args in (
      (
        λ l. remove-none a.words.now a.source c.if-source-eq0.true,
        λ n. absurd (n c.if-words-ne-TABLE_WORDS.false),
      ),
      λ q. refl,
    )

pub returns-in_default : goal.returns-in_default
returns-in_default c =
    let a = c.args in (
      (
        λ l. remove-unknown a.words.now a.source _ refl c.in_default.ensures.none,
        λ n. absurd (n c.if-words-ne-TABLE_WORDS.false),
      ),
      λ q. refl,
    )

pub returns : goal.returns
returns c =
    let a = c.args in (
      (
        λ l. remove-done a.words.now a.source _ _ c.if-source-eq0.false c.in-Some.ensures.some.0
            c.in-Some.ensures.some.1 c.put_place.ensures,
        λ n. absurd (n c.if-words-ne-TABLE_WORDS.false),
      ),
      λ q. absurd (q refl),
    )
