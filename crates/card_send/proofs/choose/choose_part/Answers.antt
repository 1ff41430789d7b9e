-- `choose_part`: the lent acknowledgement first, unless the choice is refused.
-- Assumes nothing.
use mathlib.Core.Path.{sym, ap, ◌∙◌}
use Rattle.std.proofs.lemmas.Result.{err_from_is_err_and}
use Rattle.card_send.specs.Choices.{Choice}
use Rattle.card_send.proofs.choose.Choosing.{choosing-refused, lent-chosen, frame-chosen}
use Rattle.card_send.proofs.choose.choose_part.Goals as goal

pub returns-in_err-check_choose : goal.returns-in_err-check_choose
returns-in_err-check_choose c =
    let a = c.args in
    let p = err_from_is_err_and c.from_residual.result c.from_residual.ensures.1 in record {
      refused = rw (p.1, p.2) (choosing-refused a.words.now a.slots.now a.ack.now _ c.in_err-check_choose.ensures);
      chosen = rw p.1 tt;
    }

pub returns-then-is_ack : goal.returns-then-is_ack
returns-then-is_ack c =
    let a = c.args in
    let e = lent-chosen a.words.now a.slots.now a.ack.now c.in_ok-check_choose.ensures
    (sym c.is_ack.ensures ∙ c.if-is_ack.true) in record {
      refused = sym (ap (λ (x : Choice). x.refusal) e);
      chosen = sym e;
    }

pub returns : goal.returns
returns c =
    let a = c.args in
    let e = frame-chosen a.words.now a.slots.now a.ack.now c.in_ok-check_choose.ensures
    (sym c.is_ack.ensures ∙ c.if-is_ack.false) _ (rw c.oldest_held-n.ensures at c.frame_part.ensures) in record {
      refused = sym (ap (λ (x : Choice). x.refusal) e);
      chosen = sym e;
    }
