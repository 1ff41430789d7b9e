-- `show_part`: where the frame lies, unless the showing is refused.
-- Assumes nothing.
use Rattle.std.proofs.lemmas.Result.{err_from_is_err_and}
use Rattle.card_send.specs.Parts.{shown_part}
use Rattle.card_send.proofs.show.Parts.{showing-refused}
use Rattle.card_send.proofs.show.show_part.Goals as goal

pub returns-in_err-check_show : goal.returns-in_err-check_show
returns-in_err-check_show c =
    let a = c.args in
    let p = err_from_is_err_and c.from_residual.result c.from_residual.ensures.1 in record {
      refused = rw (p.1, p.2) (showing-refused a.words.now a.slots.now a.n.0 _ c.in_err-check_show.ensures);
      shown = rw p.1 tt;
    }

pub returns : goal.returns
unfolding shown_part
returns c = record {
  refused = rw (← c.in_ok-check_show.ensures);
  shown = rw (← c.in_ok-check_show.ensures, c.frame_part.ensures);
}
