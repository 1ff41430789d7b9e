-- `table_register::place_of`: among the words that hold the sources.
-- Assumes nothing.
use Rattle.std.proofs.Common.{Option, None, Some, arith, ◌≡◌}
use Rattle.table_words.proofs.Indexing.{place-found, place_missing}
use Rattle.table_register.proofs.Changing.{none-there, some_there}
use Rattle.table_register.proofs.place_of.Goals as goal

pub returns-clause-none : goal.returns-clause-none
returns-clause-none c = none-there c.args.words.now c.args.source (omega arith) _ c.position.ensures

pub returns-clause-some : goal.returns-clause-some
returns-clause-some c = some_there c.args.words.now c.args.source (omega arith) _ c.position.ensures
