-- What a line of the replay is answered, the text of that answer, and the totals.
use Rattle.std.specs.Prelude.{ℕ, ◌+◌, ◌%◌, ◌^◌, cond, List, [], ◌∷◌, take, ◌==◌, nat_lt}
use Rattle.hexadecimal.specs.declared.line.Line.{Line}
use Rattle.hexadecimal.specs.Taking.{refused_line}
use Rattle.host.specs.declared.Pair.{Pair}
use Rattle.host.specs.declared.Answer.{Answer}
use Rattle.host.specs.declared.Answer.TheVariants.{Accepted, Again, NoMessages, Refused}
use Rattle.host.specs.Host.{Received, unchanged, refused, receive_of}
use Rattle.replay_text.specs.declared.line.Totals.{Totals}

-- A line that is no frame gets 14, before all others, and one that spells more than 9,000 bytes gets 2.
unfoldable pub line_refusal : Line → ℕ
line_refusal line = cond (refused_line line) 14 (cond (nat_lt 9000 line.len) 2 0)

-- Any other line is received as the bytes that it spells, which stand at the start of the frame buffer.
unfoldable pub answered_line : Pair → Line → List ℕ → List ℕ → Received
answered_line p line frame memory =
    cond (line_refusal line == 0) (receive_of p (take line.len frame) memory)
    (unchanged p memory (refused (line_refusal line) 0))

-- The letter and the numbers of an answer's line: A, G, N or R.
abbrev pub letter_of : Answer → ℕ
letter_of (Accepted n sums run) = 65
letter_of (Again n run) = 71
letter_of NoMessages = 78
letter_of (Refused r) = 82

abbrev pub numbers_of : Answer → List ℕ
numbers_of (Accepted n sums run) = n.0 ∷ sums.messages ∷ sums.bytes ∷ sums.completed ∷ []
numbers_of (Again n run) = n.0 ∷ []
numbers_of NoMessages = []
numbers_of (Refused r) = r.number ∷ []

-- The totals after one more answer: sums over accepted frames, in 64 bits.
abbrev pub totalled : Totals → Answer → Totals
totalled t (Accepted n sums run) = record {
  messages = (t.messages + sums.messages) % 2 ^ 64;
  bytes = (t.bytes + sums.bytes) % 2 ^ 64;
  completed = (t.completed + sums.completed) % 2 ^ 64;
}
totalled t (Again n run) = t
totalled t NoMessages = t
totalled t (Refused r) = t
