-- A host's pair as a stored text, and what a text reads as. `version` is the number that a text begins with: 1 for the
-- form that is written and read.
use Rattle.std.specs.Prelude.{ℕ, zero, suc, ◌-◌, ◌%◌, Bool, true, cond, not, ◌&&◌, ◌||◌, List, [], ◌∷◌, ◌++◌, eqb, leb, ltb, length, get_or, set, replicate, drop}
use Rattle.std.proofs.Math.Option.{Option, none, some}
use Rattle.seq.specs.Ring.{distance, advance, trans_space}
use Rattle.bitmap.specs.Marks.{mark}
use Rattle.hexadecimal.specs.Fields.{line_of, lines_of, line_length, read_line, read_all}
use Rattle.host.specs.declared.Open.{Open}
use Rattle.host.specs.declared.Pair.{Pair}
use Rattle.host.specs.declared.Opened.{Opened}
use Rattle.host.specs.Terms.{free}
use Rattle.host.specs.Host.{refused_opening}

-- ---- the form

-- The first line, 23 bytes: version, own ID, peer ID, next frame, marks of accepted frames, lowest transaction, marks
-- of closed ones.
abbrev pub head_widths : List ℕ
head_widths = 1 ∷ 2 ∷ 2 ∷ 2 ∷ 8 ∷ 4 ∷ 4 ∷ []

-- An open transaction's line, 16 bytes: number, completion address, completion value, count, received.
abbrev pub open_widths : List ℕ
open_widths = 4 ∷ 4 ∷ 4 ∷ 2 ∷ 2 ∷ []

-- ---- writing

abbrev pub first_line : ℕ → Pair → List ℕ
first_line version p = version ∷ p.own ∷ p.peer ∷ p.next.0 ∷ p.marks ∷ p.lowest.0 ∷ p.closed ∷ []

abbrev pub open_line : ℕ → Open → List ℕ
open_line number o = number ∷ o.address ∷ o.value ∷ o.count ∷ o.received ∷ []

-- The open ones of the k transactions from the one i past the lowest on: nearest the lowest first. An entry of the
-- table that has received nothing holds none.
unfoldable pub opens_from : ℕ → ℕ → ℕ → List Open → List (List ℕ)
opens_from zero i lowest table = []
opens_from (suc k) i lowest table =
    let number = advance trans_space lowest i in
    let o = get_or table (number % 32) free in
    cond (eqb o.received 0) (opens_from k (suc i) lowest table) (open_line number o ∷ opens_from k (suc i) lowest table)

abbrev pub opens_of : Pair → List (List ℕ)
opens_of p = opens_from 32 0 p.lowest.0 p.table

unfoldable pub text_as : ℕ → Pair → List ℕ
text_as version p = line_of head_widths (first_line version p) ++ lines_of open_widths (opens_of p)

-- What storing answers: the refusal's number, 0 for none, and the length of the text, 0 where refused.
pub record Stored : Type 0 where
  pub refusal : ℕ
  pub length : ℕ

-- What storing answers, and the lent buffer after it: 13 where an ID is 0, before all else; 19 where the buffer is
-- shorter than the text; a refusal writes nothing. Number 0 is no refusal.
abbrev pub not_stored : ℕ → Stored
not_stored number = record { refusal = number; length = 0 }

unfoldable pub stored_as : ℕ → Pair → List ℕ → Stored
stored_as version p buffer =
    cond (eqb p.own 0 || eqb p.peer 0) (not_stored 13)
    (cond (ltb (length buffer) (length (text_as version p))) (not_stored 19)
    (record { refusal = 0; length = length (text_as version p) }))

unfoldable pub buffer_as : ℕ → Pair → List ℕ → List ℕ
buffer_as version p buffer =
    cond (eqb (stored_as version p buffer).refusal 0) (text_as version p ++ drop (length (text_as version p)) buffer)
    buffer

-- ---- reading

-- What the numbers of an open transaction's line mean.
abbrev pub number_in : List ℕ → ℕ
number_in xs = get_or xs 0 0

abbrev pub open_in : List ℕ → Open
open_in xs = record { address = get_or xs 1 0; value = get_or xs 2 0; count = get_or xs 3 0; received = get_or xs 4 0 }

-- The table with no open transaction, and with open ones put into it, each in the entry that its number modulo 32
-- gives.
unfoldable pub empty_table : List Open
empty_table = replicate 32 free

unfoldable pub table_from : List Open → List (List ℕ) → List Open
table_from table [] = table
table_from table (xs ∷ lines) = table_from (set table (number_in xs % 32) (open_in xs)) lines

-- What the numbers of the first line mean: the version, and the pair that they make with a table.
abbrev pub version_in : List ℕ → ℕ
version_in xs = get_or xs 0 0

abbrev pub pair_in : List ℕ → List Open → Pair
pair_in xs table = record {
  own = get_or xs 1 0;
  peer = get_or xs 2 0;
  next = record { 0 = get_or xs 3 0 };
  marks = get_or xs 4 0;
  lowest = record { 0 = get_or xs 5 0 };
  closed = get_or xs 6 0;
  table = table;
}

-- The first line is fine where no ID is 0, and bit 0 is clear in both mark fields.
unfoldable pub head_fine : Pair → Bool
head_fine p =
    not (eqb p.own 0)
    && (not (eqb p.peer 0)
    && (not (mark p.marks 0)
    && not (mark p.closed 0)))

-- An open transaction's line: received is between 1 and count less 1; the number is inside the window, is not closed,
-- and is neither repeated nor out of order: further past the lowest one than the line before it. `least` is one more
-- than that line's distance, and 0 for the first line.
unfoldable pub open_fine : ℕ → ℕ → ℕ → ℕ → Open → Bool
open_fine lowest closed least number o =
    let d = distance trans_space lowest number in
    leb 1 o.received
    && (leb o.received (o.count - 1)
    && (ltb d 32
    && (not (mark closed d)
    && leb least d)))

unfoldable pub opens_fine : ℕ → ℕ → ℕ → List (List ℕ) → Bool
opens_fine lowest closed least [] = true
opens_fine lowest closed least (xs ∷ lines) =
    open_fine lowest closed least (number_in xs) (open_in xs)
    && opens_fine lowest closed (suc (distance trans_space lowest (number_in xs))) lines

-- The pair after a refused reading is that of a refused opening.
abbrev pub refused_reading : Opened
refused_reading = record { pair = refused_opening.pair; refusal = record { number = 15; place = 0 } }

abbrev pub reading : Pair → Opened
reading p = record { pair = p; refusal = record { number = 0; place = 0 } }

-- The version is the one that is read, and all lines are fine.
abbrev pub judged : ℕ → Option (List ℕ) → Option (List (List ℕ)) → Opened
judged version none lines = refused_reading
judged version (some xs) none = refused_reading
judged version (some xs) (some lines) =
    let p = pair_in xs (table_from empty_table lines) in
    cond (eqb (version_in xs) version && (head_fine p && opens_fine p.lowest.0 p.closed 0 lines)) (reading p)
    refused_reading

-- The numbers of the first line and of the lines behind it, of which there are as many as the text's length says.
unfoldable pub read_as : ℕ → List ℕ → Opened
read_as version text = judged version (read_line head_widths text) (read_all open_widths (drop (line_length head_widths) text))

-- ---- the form that is written and read

abbrev pub text_of : Pair → List ℕ
text_of p = text_as 1 p

abbrev pub stored_of : Pair → List ℕ → Stored
stored_of p buffer = stored_as 1 p buffer

abbrev pub buffer_of : Pair → List ℕ → List ℕ
buffer_of p buffer = buffer_as 1 p buffer

abbrev pub read_text : List ℕ → Opened
read_text text = read_as 1 text
