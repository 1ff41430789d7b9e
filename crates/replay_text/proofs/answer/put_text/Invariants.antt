-- `replay_text::answer::put_text` puts number behind number, and a newline behind the last.
-- Assumes nothing.
use Rattle.replay_text.proofs.answer.AnswerLine.{Begun}
use Rattle.replay_text.proofs.answer.put_text.Given as goal

abbrev pub invariant-loop-x : goal.invariant-loop-x
invariant-loop-x l = Begun l.letter l.numbers l.text l.n l.x-index
