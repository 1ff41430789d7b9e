-- What is described of a host, whatever it keeps its marks in; the descriptions of both hosts; and the first host's
-- pair that a plain one stands for.
use Rattle.std.specs.Prelude.{ℕ, zero, suc, ◌+◌, ◌%◌, ◌^◌, ◌<◌, ◌≡◌, Bool, false, List, [], ◌∷◌, length, get_or}
use Rattle.bitmap.specs.Marks.{mark, marks_of}
use Rattle.host.specs.declared.Open.{Open}
use Rattle.host.specs.declared.Pair.{Pair}
use Rattle.host.specs.Terms.{free}
use Rattle.host_plain.specs.declared.PlainPair.{PlainPair}

-- The list of f 0, f 1, .. f (n - 1).
unfoldable pub list_of : {A : Type 0} → ℕ → (ℕ → A) → List A
list_of zero f = []
list_of (suc n) f = f 0 ∷ list_of n (λ i. f (suc i))

pub record Described : Type 0 where
  -- both IDs
  pub own : ℕ
  pub peer : ℕ
  -- the next frame, and for each of the 64 frames from it on whether it was accepted
  pub next : ℕ
  pub accepted : List Bool
  -- the lowest transaction that is not complete, and for each of the 32 from it on whether it is closed, and its entry
  -- in the table, which in a pair that a run reaches is all zeros where it is not open
  pub lowest : ℕ
  pub closed : List Bool
  pub underway : List Open

-- The transactions from `lowest` on, each from the entry that its number modulo 32 gives.
unfoldable pub from_lowest : ℕ → List Open → List Open
from_lowest lowest table = list_of 32 (λ i. get_or table ((lowest + i) % 32) free)

-- The first host has a mark for each bit of a word.
unfoldable pub describe : Pair → Described
describe p = record {
  own = p.own;
  peer = p.peer;
  next = p.next.0;
  accepted = list_of 64 (mark p.marks);
  lowest = p.lowest.0;
  closed = list_of 32 (mark p.closed);
  underway = from_lowest p.lowest.0 p.table;
}

-- The plain host has them in arrays.
unfoldable pub describe_plain : PlainPair → Described
describe_plain q = record {
  own = q.own;
  peer = q.peer;
  next = q.frames.next.0;
  accepted = q.frames.accepted;
  lowest = q.transactions.lowest.0;
  closed = q.transactions.closed;
  underway = from_lowest q.transactions.lowest.0 q.transactions.table;
}

-- What the fields' types say of any pair, reached by a run or not: words of 64 and 32 bits, arrays of 64 and 32 marks,
-- and a table of 32 entries.
pub record Typed (p : Pair) : Type 0 where
  pub marks-fit : p.marks < 2 ^ 64
  pub closed-fit : p.closed < 2 ^ 32
  pub entries : length p.table ≡ 32

pub record TypedPlain (q : PlainPair) : Type 0 where
  pub accepted-are : length q.frames.accepted ≡ 64
  pub closed-are : length q.transactions.closed ≡ 32
  pub entries : length q.transactions.table ≡ 32

-- ---- the pair of the first host that a plain one stands for

-- Marks as a word of this width.
unfoldable pub word_of : ℕ → List Bool → ℕ
word_of width marks = marks_of width (λ i. get_or marks i false)

unfoldable pub pair_of_plain : PlainPair → Pair
pair_of_plain q = record {
  own = q.own;
  peer = q.peer;
  next = q.frames.next;
  marks = word_of 64 q.frames.accepted;
  lowest = q.transactions.lowest;
  closed = word_of 32 q.transactions.closed;
  table = q.transactions.table;
}
