-- `host_words::pair::range_of`: each answer's range.
-- Assumes nothing.
use Rattle.host_words.proofs.pair.range_of.Goals as goal

pub returns-in-Accepted : goal.returns-in-Accepted
returns-in-Accepted c = rw c.in-Accepted.is

pub returns-in-Again : goal.returns-in-Again
returns-in-Again c = rw c.in-Again.is

pub returns-in-NoMessages : goal.returns-in-NoMessages
returns-in-NoMessages c = rw c.in-NoMessages.is

pub returns-in-Refused : goal.returns-in-Refused
returns-in-Refused c = rw c.in-Refused.is
