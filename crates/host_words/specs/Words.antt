-- A host's pair in 67 words that a caller lends: the IDs and the next frame, the marks, the transactions' window, and
-- two words for each entry of the table. Any words at all hold a pair: one that is not there counts as 0, and bits that
-- have no meaning are not looked at.
use Rattle.std.specs.Prelude.{ℕ, ◌+◌, ◌*◌, ◌≡◌, List, get_or}
use Rattle.words.specs.Words.{quarter, half, listed}
use Rattle.host.specs.declared.Open.{Open}
use Rattle.host.specs.declared.Pair.{Pair}
use Rattle.host_words.specs.declared.Head.{Head}

abbrev pub word_count : ℕ
word_count = 67

-- The entry that two words hold: completion address and value, count and received.
abbrev pub entry_in : ℕ → ℕ → Open
entry_in terms counts = record {
  address = half terms 0;
  value = half terms 1;
  count = quarter counts 0;
  received = quarter counts 1;
}

-- Entry s of the table.
abbrev pub entry_of : List ℕ → ℕ → Open
entry_of w s = entry_in (get_or w (3 + 2 * s) 0) (get_or w (4 + 2 * s) 0)

-- The pair that the words hold.
unfoldable pub pair_of : List ℕ → Pair
pair_of w = record {
  own = quarter (get_or w 0 0) 0;
  peer = quarter (get_or w 0 0) 1;
  next = record { 0 = quarter (get_or w 0 0) 2 };
  marks = get_or w 1 0;
  lowest = record { 0 = half (get_or w 2 0) 0 };
  closed = half (get_or w 2 0) 1;
  table = listed (entry_of w) 0 32;
}

-- A pair in two parts: what stands before the table, and the table.
abbrev pub head_part : Pair → Head
head_part p =
    record { own = p.own; peer = p.peer; next = p.next; marks = p.marks; lowest = p.lowest; closed = p.closed }

abbrev pub HeadOf : Pair → Head → Type 0
HeadOf p h = h ≡ head_part p

abbrev pub joined : Head → List Open → Pair
joined h table = record {
  own = h.own;
  peer = h.peer;
  next = h.next;
  marks = h.marks;
  lowest = h.lowest;
  closed = h.closed;
  table = table;
}

-- The answer to words of another number than 67: no refusal of the rules.
abbrev pub other_length : ℕ
other_length = 255
