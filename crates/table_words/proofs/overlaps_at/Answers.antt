-- `table_words::overlaps_at`: both ends are held against both starts.
-- Assumes nothing.
use mathlib.Core.Path.{◌∙◌, ap}
use mathlib.Core.Bool.{not}
use Rattle.table.specs.Reachable.{place}
use Rattle.table_words.specs.TableWords.{table_of}
use Rattle.table_words.proofs.Laws.{overlap-no, overlap-rest}
use Rattle.table_words.proofs.overlaps_at.Goals as goal

pub returns-else-before_end : goal.returns-else-before_end
returns-else-before_end c =
    let a = c.args in
    c.if-before_end.false
    ∙ overlap-no a.first a.size _ _ (place (table_of a.w.now) a.k) _ c.first_at-other.ensures c.size_at-len.ensures
    c.before_end.ensures (ap not c.if-before_end.false)

pub returns-then-before_end : goal.returns-then-before_end
returns-then-before_end c =
    let a = c.args in
    overlap-rest a.first a.size _ _ (place (table_of a.w.now) a.k) _ _
    c.first_at-other.ensures c.size_at-len.ensures
    c.before_end.ensures (ap not c.if-before_end.true) c.before_end-then-before_end.ensures
