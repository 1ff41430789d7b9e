-- The plain host's state in 228 words: own ID, peer ID, next frame and lowest transaction; a word for each of 64 marks
-- of frames and 32 of transactions, set where it is not 0; and four words for each place of the table. Any words are a
-- state: of a number's word what does not fit its field is not looked at.
use Rattle.std.specs.Prelude.{ℕ, ◌+◌, ◌-◌, ◌*◌, ◌/◌, ◌%◌, Bool, false, cond, not, List, eqb, ltb, get_or, Option}
use Rattle.host.specs.declared.Open.{Open}
use Rattle.host.specs.Host.{took_effect, answer_of}
use Rattle.host_plain.specs.declared.PlainPair.{PlainPair}
use Rattle.host_plain.specs.Plain.{free, Received, receive_of, acknowledgement_of}
use Rattle.host_equal.specs.Described.{list_of}

-- ---- the state that words hold

abbrev pub word : List ℕ → ℕ → ℕ
word w i = get_or w i 0

unfoldable pub marks_from : ℕ → ℕ → List ℕ → List Bool
marks_from start n w = list_of n (λ i. not (eqb (word w (start + i)) 0))

unfoldable pub entry_at : List ℕ → ℕ → Open
entry_at w i = record {
  address = word w (100 + 4 * i) % 4294967296;
  value = word w (100 + 4 * i + 1) % 4294967296;
  count = word w (100 + 4 * i + 2) % 65536;
  received = word w (100 + 4 * i + 3) % 65536;
}

unfoldable pub table_of : List ℕ → List Open
table_of w = list_of 32 (entry_at w)

unfoldable pub plain_of : List ℕ → PlainPair
plain_of w = record {
  own = word w 0 % 65536;
  peer = word w 1 % 65536;
  frames = record { next = record { 0 = word w 2 % 65536 }; accepted = marks_from 4 64 w };
  transactions = record {
    lowest = record { 0 = word w 3 % 4294967296 };
    closed = marks_from 68 32 w;
    table = table_of w;
  };
}

-- ---- the words of a state

unfoldable pub head_word : PlainPair → ℕ → ℕ
head_word q i =
    cond (eqb i 0) q.own
    (cond (eqb i 1) q.peer
    (cond (eqb i 2) q.frames.next.0 q.transactions.lowest.0))

unfoldable pub entry_word : Open → ℕ → ℕ
entry_word o k = cond (eqb k 0) o.address (cond (eqb k 1) o.value (cond (eqb k 2) o.count o.received))

unfoldable pub word_at : PlainPair → ℕ → ℕ
word_at q i =
    cond (ltb i 4) (head_word q i)
    (cond (ltb i 68) (cond (get_or q.frames.accepted (i - 4) false) 1 0)
    (cond (ltb i 100) (cond (get_or q.transactions.closed (i - 68) false) 1 0)
    (entry_word (get_or q.transactions.table ((i - 100) / 4) free) ((i - 100) % 4))))

unfoldable pub words_of : PlainPair → List ℕ
words_of q = list_of 228 (word_at q)

-- ---- receiving

-- What the plain host makes of a frame in the state that the words hold.
abbrev pub received : List ℕ → List ℕ → List ℕ → Received
received w f memory = receive_of (plain_of w) f memory

-- The words after it: those of the state that an accepted frame leaves, and as they were for any other answer.
abbrev pub left_words : List ℕ → Received → List ℕ
left_words w r = cond (took_effect r.answer) (words_of r.pair) w

-- ---- acknowledging

-- The acknowledgement that an answer calls for whose words are lent: its kind, number and run count.
abbrev pub acknowledgement : List ℕ → List ℕ → ℕ → Option (List ℕ)
acknowledgement w answer num =
    acknowledgement_of (plain_of w) (answer_of (word answer 0) (word answer 1) (word answer 7)) num
