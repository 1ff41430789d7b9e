-- `lw_raw_card_show`: the part's two numbers, both 0 where there is none.
-- Assumes nothing.
use mathlib.Core.Path.{◌∙◌}
use Rattle.std.proofs.lemmas.Result.{IfOk-at_ok}
use Rattle.card_send.proofs.show.Parts.{unshown}
use Rattle.capi.proofs.card_end.lw_raw_card_show.Goals as goal
use Rattle.capi.proofs.card_end.lw_raw_card_show.Goals.{in-Ok, in-Err}

pub returns-clause-part_after : goal.returns-clause-part_after
returns-clause-part_after c =
    let a = c.args in
    elim c.match-shown.branch [
      | in-Ok w ↦ w.part-is ∙ rw (IfOk-at_ok _ w.in-Ok.is c.show_part-shown.ensures.shown)
      | in-Err w ↦ w.part-is
          ∙ rw (unshown a.words.now a.slots.now a.number _ (rw w.in-Err.is at c.show_part-shown.ensures.refused))
    ]
