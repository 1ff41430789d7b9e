-- `put_five`: a run of five stores.
-- Assumes nothing.
use Rattle.card_words.proofs.update.put_five.Goals as goal

pub returns : goal.returns
returns c = rw (c.put-5.ensures, c.put-4.ensures, c.put-3.ensures, c.put-2.ensures, c.put.ensures)
