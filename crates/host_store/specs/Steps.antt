-- Reading one open transaction's line, and all of them: what the code hands from step to step.
use Rattle.std.specs.Prelude.{ℕ, Bool, true, false, cond, List, Option as Maybe, None, Some}
use Rattle.std.proofs.Math.Option.{Option, none, some}
use Rattle.seq.specs.declared.TransNo.{TransNo}
use Rattle.host.specs.Terms.{free}
use Rattle.host.specs.declared.Open.{Open}
use Rattle.host_stored.specs.Form.{number_in, open_in, open_fine, opens_fine, empty_table, table_from}
use Rattle.host_store.specs.declared.restore.OpenLine.{OpenLine}

-- Bytes that were read, if there are any.
abbrev pub bytes_in : Maybe (List ℕ) → Option (List ℕ)
bytes_in None = none
bytes_in (Some bytes) = some bytes

-- A line: whether it is fine, its number and its entry of the table; zeros where it is not.
pub record Line : Type 0 where
  pub fine : Bool
  pub number : TransNo
  pub entry : Open

abbrev pub bad_line : Line
bad_line = record { fine = false; number = record { 0 = 0 }; entry = free }

abbrev pub line_in : Maybe OpenLine → Line
line_in None = bad_line
line_in (Some l) = record { fine = true; number = l.number; entry = l.entry }

abbrev pub line_of : ℕ → ℕ → ℕ → Option (List ℕ) → Line
line_of lowest closed least none = bad_line
line_of lowest closed least (some xs) =
    cond (open_fine lowest closed least (number_in xs) (open_in xs))
    (record { fine = true; number = record { 0 = number_in xs }; entry = open_in xs })
    bad_line

-- All lines: whether they are fine, and the table that they make; none open where they are not.
pub record Lines : Type 0 where
  pub fine : Bool
  pub table : List Open

unfoldable pub bad_lines : Lines
bad_lines = record { fine = false; table = empty_table }

abbrev pub lines_in : Maybe (List Open) → Lines
lines_in None = bad_lines
lines_in (Some table) = record { fine = true; table = table }

-- Lines that are still to be read, with the table that those before them make.
abbrev pub lines_from : ℕ → ℕ → ℕ → List Open → Option (List (List ℕ)) → Lines
lines_from lowest closed least table none = bad_lines
lines_from lowest closed least table (some lines) =
    cond (opens_fine lowest closed least lines) (record { fine = true; table = table_from table lines }) bad_lines

abbrev pub table_of : ℕ → ℕ → Option (List (List ℕ)) → Lines
table_of lowest closed lines = lines_from lowest closed 0 empty_table lines
