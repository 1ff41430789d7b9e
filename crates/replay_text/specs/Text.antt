-- The replay of a whole text: its lines, what each is answered, the totals, and the characters that are written for all
-- of it. A character is its ASCII number; a newline is 10.
use Rattle.std.specs.Prelude.{ℕ, ◌+◌, cond, List, [], ◌∷◌, ◌++◌, take, replicate, ◌==◌}
use Rattle.std.proofs.Math.Option.{Option, none, some}
use Rattle.hexadecimal.specs.Line.{decode}
use Rattle.replay_text.specs.AnswerLine.{line_text}
use Rattle.host.specs.declared.Pair.{Pair}
use Rattle.host.specs.declared.Answer.{Answer}
use Rattle.host.specs.declared.Answer.TheVariants.{Accepted, Again, NoMessages, Refused}
use Rattle.host.specs.Host.{Received, fresh, unchanged, refused, receive_of}
use Rattle.host.specs.declared.Sums.{Sums}
use Rattle.replay_text.specs.declared.line.Totals.{Totals}
use Rattle.replay_text.specs.Report.{letter_of, numbers_of}

-- ---- lines

-- A line ends before its newline. What follows the last newline is a line too, unless there is nothing.
abbrev pub with_first : ℕ → List (List ℕ) → List (List ℕ)
with_first c [] = (c ∷ []) ∷ []
with_first c (line ∷ lines) = (c ∷ line) ∷ lines

unfoldable pub lines_of : List ℕ → List (List ℕ)
lines_of [] = []
lines_of (c ∷ cs) = cond (c == 10) ([] ∷ lines_of cs) (with_first c (lines_of cs))

-- ---- answers

-- A line is answered by the frame that it spells. Refusal 14, where it spells none, comes before all others.
abbrev pub answer_to : Pair → List ℕ → Option (List ℕ) → Received
answer_to pair memory none = unchanged pair memory (refused 14 0)
answer_to pair memory (some frame) = receive_of pair frame memory

-- The answers in the order of the lines, each on what the lines before it leave; and what all of them leave.
pub record Replayed : Type 0 where
  pub answers : List Answer
  pub pair : Pair
  pub memory : List ℕ

unfoldable pub answers_to : Pair → List ℕ → List (List ℕ) → Replayed
answers_to pair memory [] = record { answers = []; pair = pair; memory = memory }
answers_to pair memory (line ∷ lines) =
    let r = answer_to pair memory (decode line) in
    let rest = answers_to r.pair r.memory lines in
    record { answers = r.answer ∷ rest.answers; pair = rest.pair; memory = rest.memory }

-- The host of a replay has ID 1 and its peer 2, and its memory starts as 4,096 zeros. Lines past the first 1,000,000
-- get no answer.
abbrev pub lines_most : ℕ
lines_most = 1000000

unfoldable pub memory_at_start : List ℕ
memory_at_start = replicate 4096 0

unfoldable pub replayed : List ℕ → Replayed
replayed text = answers_to (fresh 1 2) memory_at_start (take lines_most (lines_of text))

-- ---- totals: messages, bytes and completed transactions of all accepted frames

abbrev pub sums_of : Answer → Sums
sums_of (Accepted n sums run) = sums
sums_of (Again n run) = record { messages = 0; bytes = 0; completed = 0 }
sums_of NoMessages = record { messages = 0; bytes = 0; completed = 0 }
sums_of (Refused r) = record { messages = 0; bytes = 0; completed = 0 }

abbrev pub no_totals : Totals
no_totals = record { messages = 0; bytes = 0; completed = 0 }

abbrev pub plus : Sums → Totals → Totals
plus sums t = record {
  messages = sums.messages + t.messages;
  bytes = sums.bytes + t.bytes;
  completed = sums.completed + t.completed;
}

unfoldable pub totals_of : List Answer → Totals
totals_of [] = no_totals
totals_of (a ∷ rest) = plus (sums_of a) (totals_of rest)

-- ---- what is written: a line for each answer, and last `T` with the totals

unfoldable pub answers_text : List Answer → List ℕ
answers_text [] = []
answers_text (a ∷ rest) = line_text (letter_of a) (numbers_of a) ++ answers_text rest

unfoldable pub totals_text : Totals → List ℕ
totals_text t = line_text 84 (t.messages ∷ t.bytes ∷ t.completed ∷ [])

unfoldable pub output : List ℕ → List ℕ
output text = answers_text (replayed text).answers ++ totals_text (totals_of (replayed text).answers)
