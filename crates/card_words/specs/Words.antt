-- A card in 85 words of 64 bits that a caller lends. `card_of` says which card any words are; bits that it does not name
-- count for nothing. Words 0 to 4 are the head, 5 to 20 the lengths of sealed frames, four a word, and 21 to 84 the
-- transactions, two words each.
use Rattle.std.specs.Prelude.{ℕ, ◌+◌, ◌*◌, ◌/◌, ◌%◌, ◌≡◌, ◌≢◌, cond, List, eqb, length, get_or, set}
use Rattle.words.specs.Words.{quarter, half, listed}
use Rattle.card.specs.declared.Sending.{Sending}
use Rattle.card.specs.declared.Card.{Card}
use Rattle.card_words.specs.declared.Head.{Head}

abbrev pub card_words : ℕ
card_words = 85

-- ---- decoding

-- The length in slot k.
abbrev pub size_in : List ℕ → ℕ → ℕ
size_in w k = quarter (get_or w (5 + k / 4) 0) (k % 4)

-- A transaction by its two words: its completion's address and value; its count, what is added, and the frame of the
-- latest.
abbrev pub sending_by : ℕ → ℕ → Sending
sending_by a b = record {
  address = half a 0;
  value = half a 1;
  count = quarter b 0;
  added = quarter b 1;
  frame = record { 0 = quarter b 2 };
}

-- Entry k of the table.
abbrev pub sending_in : List ℕ → ℕ → Sending
sending_in w k = sending_by (get_or w (21 + 2 * k) 0) (get_or w (22 + 2 * k) 0)

unfoldable pub card_of : List ℕ → Card
card_of w = record {
  own = quarter (get_or w 0 0) 0;
  peer = quarter (get_or w 0 0) 1;
  limit = quarter (get_or w 0 0) 2;
  used = quarter (get_or w 0 0) 3;
  last = quarter (get_or w 1 0) 0;
  window = record {
    acked = get_or w 2 0;
    next = record { 0 = quarter (get_or w 1 0) 1 };
    base = record { 0 = quarter (get_or w 1 0) 2 };
    sizes = listed (size_in w) 0 64;
  };
  sendings = record {
    next = record { 0 = half (get_or w 3 0) 0 };
    lowest = record { 0 = half (get_or w 3 0) 1 };
    finished = half (get_or w 4 0) 0;
    table = listed (sending_in w) 0 32;
  };
}

-- ---- a card in parts: its head, the lengths of its frames, its transactions

abbrev pub head_part : Card → Head
head_part c = record {
  own = c.own;
  peer = c.peer;
  limit = c.limit;
  used = c.used;
  last = c.last;
  acked = c.window.acked;
  next = c.window.next;
  base = c.window.base;
  upcoming = c.sendings.next;
  lowest = c.sendings.lowest;
  finished = c.sendings.finished;
}

abbrev pub with_head : Card → Head → Card
with_head c h = record {
  own = h.own;
  peer = h.peer;
  limit = h.limit;
  used = h.used;
  last = h.last;
  window = record { acked = h.acked; next = h.next; base = h.base; sizes = c.window.sizes };
  sendings = record { next = h.upcoming; lowest = h.lowest; finished = h.finished; table = c.sendings.table };
}

-- The length of the sealed frame n.
abbrev pub with_size : Card → ℕ → ℕ → Card
with_size c n size = record {
  own = c.own;
  peer = c.peer;
  limit = c.limit;
  used = c.used;
  last = c.last;
  window = record {
    acked = c.window.acked;
    next = c.window.next;
    base = c.window.base;
    sizes = set c.window.sizes (n % 64) size;
  };
  sendings = c.sendings;
}

-- What is known of transaction t.
abbrev pub with_sending : Card → ℕ → Sending → Card
with_sending c t e = record {
  own = c.own;
  peer = c.peer;
  limit = c.limit;
  used = c.used;
  last = c.last;
  window = c.window;
  sendings = record {
    next = c.sendings.next;
    lowest = c.sendings.lowest;
    finished = c.sendings.finished;
    table = set c.sendings.table (t % 32) e;
  };
}

-- ---- what a step leaves

-- The words hold the card c then, where they are a card's.
abbrev pub Becomes : List ℕ → List ℕ → Card → Type 0
Becomes w left c = length w ≡ card_words → card_of left ≡ c

-- And a buffer of another length is left as it was.
abbrev pub Leaves : List ℕ → List ℕ → Card → Type 0
Leaves w left c = Becomes w left c × (length w ≢ card_words → left ≡ w)

-- The same of a step that may be refused: no word changes where it is.
abbrev pub Steps : List ℕ → List ℕ → ℕ → Card → Type 0
Steps w left refusal c = Becomes w left c × (refusal ≢ 0 → left ≡ w)

-- A buffer of another length is refused by a number that the rules don't have.
abbrev pub other_length : ℕ
other_length = 255

abbrev pub or_other_length : List ℕ → ℕ → ℕ
or_other_length w refusal = cond (eqb (length w) card_words) refusal other_length
