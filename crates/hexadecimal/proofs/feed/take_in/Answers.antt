-- `hexadecimal::feed::take_in`: the pairs of digits first; then the line's end, or what is left from character to character.
-- Assumes nothing.
use mathlib.Core.Path.{◌∙◌}
use Rattle.hexadecimal.proofs.line.Taking.{walked-newline, walked-rest}
use Rattle.hexadecimal.proofs.pairs.Laws.{front-walked}
use Rattle.hexadecimal.proofs.feed.take_in.Goals as goal

pub returns-then-piece-at-eq10 : goal.returns-then-piece-at-eq10
returns-then-piece-at-eq10 c =
    let front = front-walked _ _ _ _ _ _ (c.take_pairs-front.ensures.value, c.take_pairs-front.ensures.frame_after) in
    let whole = walked-newline front c.if-at-piece.true c.if-piece-at-eq10.true in
    record { value = whole.0; frame_after = whole.1 }

pub returns : goal.returns
returns c =
    let front = front-walked _ _ _ _ _ _ (c.take_pairs-front.ensures.value, c.take_pairs-front.ensures.frame_after) in
    let rest = walked-rest front in record {
      value = c.take_each.ensures.value ∙ rest.0;
      frame_after = c.take_each.ensures.frame_after ∙ rest.1;
    }
