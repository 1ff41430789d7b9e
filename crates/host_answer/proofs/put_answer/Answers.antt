-- `host_answer::put_answer`: the words of each case.
-- Assumes nothing.
use Rattle.host_answer.proofs.put_answer.Goals as goal

pub returns-in-Accepted : goal.returns-in-Accepted
returns-in-Accepted c = rw c.in-Accepted.is c.put_line.ensures

pub returns-in-Again : goal.returns-in-Again
returns-in-Again c = rw c.in-Again.is c.put_line-in-Again.ensures

pub returns-in-Refused : goal.returns-in-Refused
returns-in-Refused c = rw c.in-Refused.is c.put_line-in-Refused.ensures
