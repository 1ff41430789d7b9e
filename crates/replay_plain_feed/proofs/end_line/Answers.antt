-- `replay_plain_feed::end_line`: what the plain host says of the line being read, and one answer more.
-- Assumes nothing.
use Rattle.replay_plain_feed.proofs.end_line.Goals as goal

pub returns : goal.returns
returns c =
    let l = c.line_in-line.ensures in
    let k = c.answer_line-stepped.ensures in
    record {
      answers = (rw l at k.answer_value, (rw l at k.pair_value, rw l at k.memory_after));
      place_after = c.count_answer.ensures;
    }
