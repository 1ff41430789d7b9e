-- `covered`: one run, or two where the range wraps.
-- Assumes nothing.
use mathlib.Core.Path.{◌∙◌}
use Rattle.card_acks.proofs.cover.InPlace.{covered-near, covered-round}
use borrow.Author.Rules.{rules}
use Rattle.card_acks.proofs.cover.covered.Goals as goal

pub returns-then-end-le65536 : goal.returns-then-end-le65536
returns-then-end-le65536 c =
    let a = c.args in
    c.between-run.ensures
    ∙ covered-near a.base.0 a.range.start.0 a.range.count _ (search rules) (search rules) (search rules)
    c.distance-first.ensures
    c.if-end-le65536.true

pub returns : goal.returns
returns c =
    let a = c.args in
    rw (c.between-run.ensures, c.below.ensures)
    (covered-round a.base.0 a.range.start.0 a.range.count _ (search rules) (search rules) (search rules)
    c.distance-first.ensures
    c.if-end-le65536.false)
