-- `replay_feed::end_line`: what the host says of the line being read, and one answer more.
-- Assumes nothing.
use Rattle.replay_feed.proofs.end_line.Goals as goal

pub returns : goal.returns
returns c =
    let l = c.line_in-line.ensures in
    let k = c.answer_line-answer.ensures in
    record {
      answers = (rw l at k.value, (rw l at k.words_after, rw l at k.memory_after));
      place_after = c.count_answer.ensures;
    }
