-- What is told to C of an acknowledgement that may be due, and what is written.
use Rattle.std.specs.Prelude.{ℕ, List, Option, Some, None}

-- 1 where an acknowledgement is due, and then it is written; 0 where none is, and then the buffer stays.
abbrev pub due_number : Option (List ℕ) → ℕ
due_number (Some frame) = 1
due_number None = 0

abbrev pub written_where_due : Option (List ℕ) → List ℕ → List ℕ
written_where_due (Some frame) buffer = frame
written_where_due None buffer = buffer
