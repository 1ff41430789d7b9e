-- A table as its calls. They are a parameter of the statements about lists of calls, so that these can be made of the
-- rules' table and of wrong ones.
use Rattle.std.specs.Prelude.{ℕ, List, Option}
use Rattle.host.specs.declared.Pair.{Pair}
use Rattle.host.specs.declared.Answer.{Answer}
use Rattle.table.specs.Table.{
  Table,
  TableStep,
  open_table,
  register,
  remove,
  TableReceived,
  table_receive,
  table_acknowledgement,
}
use Rattle.table.specs.Adopting.{TakenOut, take_out, adopt}

-- Opening takes our ID; registering the table, the source, the first byte and the length of its region, and the length
-- of the memory lent; removing and taking the table and the source; adopting the table, the pair, and on as
-- registering; receiving the table, the frame and the memory; acknowledging the table, the frame, the answer to it and
-- the number of our own next frame.
pub record TableEnd : Type 0 where
  pub opening : ℕ → TableStep
  pub registering : Table → ℕ → ℕ → ℕ → ℕ → TableStep
  pub removing : Table → ℕ → TableStep
  pub taking : Table → ℕ → TakenOut
  pub adopting : Table → Pair → ℕ → ℕ → ℕ → TableStep
  pub receiving : Table → List ℕ → List ℕ → TableReceived
  pub acknowledging : Table → List ℕ → Answer → ℕ → Option (List ℕ)

-- The table that the rules describe.
abbrev pub specified_table : TableEnd
specified_table = record {
  opening = open_table;
  registering = register;
  removing = remove;
  taking = take_out;
  adopting = adopt;
  receiving = table_receive;
  acknowledging = table_acknowledgement;
}
