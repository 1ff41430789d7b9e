-- What a line as hexadecimal/specs/Taking.antt has it, its bytes at the start of a lent buffer, says of the line: a
-- count above 9,000 says that there are more.
use Rattle.std.specs.Prelude.{ℕ, ◌%◌, cond, List, take, nat_lt}
use Rattle.std.proofs.Math.Option.{none, some}
use Rattle.hexadecimal.specs.declared.line.Line.{Line}
use Rattle.replay_text.specs.Feeding.{Held, within, past}

unfoldable pub held_of : Line → List ℕ → Held
held_of line frame =
    cond (nat_lt 9000 line.len) (past line.odd line.bad)
    (within (take line.len frame) (cond line.odd (some (line.half % 16)) none) line.bad)
