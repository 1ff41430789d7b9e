-- A pair across the wrap of its transaction numbers, its text, buffers that it is stored in, and texts that are
-- refused: by computation.
use mathlib.Core.Path.{◌≡◌, refl}
use mathlib.Core.List.{List, [], ◌∷◌, ◌++◌, map}
use Prim.Native.Nat.{ℕ}
use lib.ListN.{set, take, replicate}
use Rattle.octets.specs.Octets.{little, value, field}
use Rattle.seq.specs.Ring.{distance, advance}
use Rattle.bitmap.specs.Marks.{mark}
use Rattle.host.specs.declared.Pair.{Pair}
use Rattle.hexadecimal.specs.Fields.{
  digit_of,
  value_of,
  hex,
  unhex,
  laid,
  numbers_from,
  total,
  line_of,
  lines_of,
  line_length,
  read_line,
  read_lines,
  read_all,
}
use Rattle.host_stored.specs.Form.{
  opens_from,
  text_as,
  not_stored,
  stored_as,
  buffer_as,
  head_fine,
  open_fine,
  opens_fine,
  empty_table,
  table_from,
  reading,
  read_as,
}

-- Next frame 65,535; the frames 0 and 1 accepted ahead; the transactions 4,294,967,295 and 0 open, 1 closed.
worked : Pair
unfolding empty_table
worked = record {
  own = 1;
  peer = 2;
  next = record { 0 = 65535 };
  marks = 6;
  lowest = record { 0 = 4294967295 };
  closed = 4;
  table =
      set (set empty_table 31 (record { address = 64; value = 287454020; count = 3; received = 1 }))
      0 (record { address = 8; value = 9; count = 2; received = 1 });
}

-- `0101000200ffff0600000000000000ffffffff04000000`
first : List ℕ
first =
    48 ∷ 49 ∷ 48 ∷ 49 ∷ 48 ∷ 48 ∷ 48 ∷ 50 ∷ 48 ∷ 48 ∷ 102 ∷ 102 ∷ 102 ∷ 102 ∷ 48 ∷ 54 ∷ 48 ∷ 48 ∷ 48 ∷ 48 ∷ 48 ∷ 48 ∷
    48 ∷ 48 ∷ 48 ∷ 48 ∷ 48 ∷ 48 ∷ 48 ∷ 48 ∷ 102 ∷ 102 ∷ 102 ∷ 102 ∷ 102 ∷ 102 ∷ 102 ∷ 102 ∷ 48 ∷ 52 ∷ 48 ∷ 48 ∷ 48 ∷
    48 ∷ 48 ∷ 48 ∷ 10 ∷ []

-- `ffffffff400000004433221103000100`
nearest : List ℕ
nearest =
    102 ∷ 102 ∷ 102 ∷ 102 ∷ 102 ∷ 102 ∷ 102 ∷ 102 ∷ 52 ∷ 48 ∷ 48 ∷ 48 ∷ 48 ∷ 48 ∷ 48 ∷ 48 ∷ 52 ∷ 52 ∷ 51 ∷ 51 ∷ 50 ∷
    50 ∷ 49 ∷ 49 ∷ 48 ∷ 51 ∷ 48 ∷ 48 ∷ 48 ∷ 49 ∷ 48 ∷ 48 ∷ 10 ∷ []

-- `00000000080000000900000002000100`
further : List ℕ
further =
    48 ∷ 48 ∷ 48 ∷ 48 ∷ 48 ∷ 48 ∷ 48 ∷ 48 ∷ 48 ∷ 56 ∷ 48 ∷ 48 ∷ 48 ∷ 48 ∷ 48 ∷ 48 ∷ 48 ∷ 57 ∷ 48 ∷ 48 ∷ 48 ∷ 48 ∷
    48 ∷ 48 ∷ 48 ∷ 50 ∷ 48 ∷ 48 ∷ 48 ∷ 49 ∷ 48 ∷ 48 ∷ 10 ∷ []

text : List ℕ
text = first ++ nearest ++ further

text-is : text_as 1 worked ≡ text
unfolding worked text first nearest further empty_table text_as opens_from line_of lines_of hex digit_of laid little advance
text-is = refl

reads-back : read_as 1 text ≡ reading worked
unfolding worked text first nearest further empty_table read_as head_fine open_fine opens_fine table_from read_line read_lines
    read_all
    line_length total unhex value_of numbers_from field value distance mark
reads-back = refl

-- Buffers of one byte less than the text, of as many, and of two more.
short : List ℕ
short = replicate 112 46

exact : List ℕ
exact = replicate 113 46

longer : List ℕ
longer = replicate 115 46

-- The pair with own ID 0 gets 13, also where the buffer is too short.
nameless : Pair
unfolding worked
nameless = record {
  own = 0;
  peer = worked.peer;
  next = worked.next;
  marks = worked.marks;
  lowest = worked.lowest;
  closed = worked.closed;
  table = worked.table;
}

stored-in :
    (stored_as 1 worked longer ≡ record { refusal = 0; length = 113 })
    × (buffer_as 1 worked longer ≡ text ++ (46 ∷ 46 ∷ []))
    × (stored_as 1 worked exact ≡ record { refusal = 0; length = 113 })
    × (stored_as 1 worked short ≡ not_stored 19)
    × (buffer_as 1 worked short ≡ short)
    × (stored_as 1 nameless short ≡ not_stored 13)
    × (buffer_as 1 nameless longer ≡ longer)
unfolding worked nameless text first nearest further short exact longer empty_table stored_as buffer_as text_as opens_from
    line_of
    lines_of hex digit_of laid little advance
stored-in = (refl, refl, refl, refl, refl, refl, refl)

-- Each of these is the text with one thing wrong.
wrong : List (List ℕ)
wrong =
    []
    -- another version, own ID 0, peer ID 0, bit 0 of either mark field
    ∷ set text 1 50
    ∷ set text 3 48
    ∷ set text 7 48
    ∷ set text 15 55
    ∷ set text 39 53
    -- received 0, received as many as count, count 0
    ∷ set text 76 48
    ∷ set text 76 51
    ∷ set text 72 48
    -- number 32, which is outside the window; number 1, which is closed; repeated; out of order
    ∷ set text 80 50
    ∷ set text 81 49
    ∷ (first ++ nearest ++ nearest)
    ∷ (first ++ further ++ nearest)
    -- an upper-case digit, a carriage return, no newline at the end, a newline or a line too much
    ∷ set text 10 70
    ∷ set text 46 13
    ∷ take 112 text
    ∷ (text ++ (10 ∷ []))
    ∷ (text ++ further)
    ∷ []

all-refused : map (λ (t : List ℕ). (read_as 1 t).refusal.number) wrong ≡ replicate 18 15
unfolding wrong text first nearest further empty_table read_as head_fine open_fine opens_fine table_from read_line read_lines
    read_all
    line_length total unhex value_of numbers_from field value distance mark
all-refused = refl
