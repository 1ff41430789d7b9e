-- `lw_raw_card_choose`: the numbers of what is chosen, all 0 where the choice is refused.
-- Assumes nothing.
use mathlib.Core.Path.{ap, ◌∙◌}
use Rattle.std.proofs.lemmas.Result.{IfOk-at_ok}
use Rattle.card_send.proofs.choose.Choosing.{unchosen}
use Rattle.capi.specs.CardEndNumbers.{choice_numbers}
use Rattle.capi.proofs.card_end.lw_raw_card_choose.Goals as goal
use Rattle.capi.proofs.card_end.lw_raw_card_choose.Goals.{in-Ok, in-Err}

pub returns-clause-part_after : goal.returns-clause-part_after
returns-clause-part_after c =
    let a = c.args in
    elim c.match-chosen.branch [
      | in-Ok w ↦ w.part-is
          ∙ w.numbers_of.ensures
          ∙ ap choice_numbers (IfOk-at_ok _ w.in-Ok.is c.choose_part-chosen.ensures.chosen)
      | in-Err w ↦
          let u = unchosen a.words.now a.slots.now a.ack.now _ (rw w.in-Err.is at c.choose_part-chosen.ensures.refused) in
          w.part-is ∙ rw (u.0, u.1)
    ]
