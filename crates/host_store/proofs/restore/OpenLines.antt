-- One line read, and all lines of open transactions: what is left to read.
-- Assumes nothing.
use mathlib.Core.Path.{◌≡◌, refl, sym, ◌∙◌, ap}
use mathlib.Core.Logic.{◌≢◌}
use mathlib.Core.Bool.{Bool, true, false, cond, ◌&&◌}
use mathlib.Core.List.{List, ◌∷◌}
use mathlib.Core.Option.{Option, none, some}
use Prim.Native.Nat.{ℕ, suc, ◌+◌, ◌-◌, ◌*◌, ◌/◌, ◌%◌, ◌≤◌, ◌<◌}
use native.Mathlib.Numerals.{add-one}
use native.Mathlib.Omega.{arith}
use lib.ListN.{length, drop, set, length-drop, drop_of_length-le}
use lib.Seq.{drop-drop}
use Rattle.octets.specs.Octets.{field}
use Rattle.seq.specs.Ring.{distance, trans_space}
use Rattle.host.specs.declared.Open.{Open}
use Rattle.hexadecimal.specs.Fields.{unhex, numbers_from, total, line_length, read_line, followed, read_lines, read_all}
use Rattle.hexadecimal.proofs.fields.BothWays.{length-lines, read-lines}
use Rattle.host_stored.specs.Form.{open_widths, number_in, open_in, open_fine, opens_fine, empty_table, table_from}
use Rattle.host_stored.proofs.Opens.{fine-line}
use Rattle.host_store.specs.Steps.{Line, bad_line, line_of, bad_lines, lines_from, table_of}

-- ---- the numbers of a line

module _ (ws text bytes : List ℕ) (n : ℕ) (r : Bool) (s : n ≡ total ws) (u : unhex n text ≡ cond r (some bytes) none)
  where
    pub line-none : r ≡ false → read_line ws text ≡ none
    unfolding read_line
    line-none e =
        let w : unhex n text ≡ none = u ∙ rw e in
        rw (← s, w)

    pub line-some : r ≡ true → read_line ws text ≡ some (numbers_from 0 ws bytes)
    unfolding read_line
    line-some e =
        let w : unhex n text ≡ some bytes = u ∙ rw e in
        rw (← s, w)

pub open-total : 16 ≡ total open_widths
unfolding total
open-total = refl

-- ---- an open transaction's line

module _ (lowest closed least : ℕ) (o : Option (List ℕ)) where
  pub bad-none : o ≡ none → bad_line ≡ line_of lowest closed least o
  bad-none e = rw e

  module _ (bytes : List ℕ) (number : ℕ) (entry : Open) (t : Bool) (e : o ≡ some (numbers_from 0 open_widths bytes))
      (n : number ≡ field bytes 0 4) (p : entry ≡ open_in (numbers_from 0 open_widths bytes))
      (f : t ≡ open_fine lowest closed least number entry) where
    tested : open_fine lowest closed least (number_in (numbers_from 0 open_widths bytes))
        (open_in (numbers_from 0 open_widths bytes)) ≡ t
    unfolding numbers_from
    tested = sym (f ∙ rw (n, p))

    pub bad-line : t ≡ false → bad_line ≡ line_of lowest closed least o
    bad-line z = rw (e, tested, z)

    pub good-line : t ≡ true
        → record { fine = true; number = record { 0 = number }; entry = entry } ≡ line_of lowest closed least o
    unfolding numbers_from
    good-line z = rw (e, tested, z, n, p)

-- what a line that is fine says
pub record Fine (lowest closed least : ℕ) (o : Option (List ℕ)) (l : Line) : Type 0 where
  pub numbers : List ℕ
  pub read : o ≡ some numbers
  pub tested : open_fine lowest closed least (number_in numbers) (open_in numbers) ≡ true
  pub number_is : l.number.0 ≡ number_in numbers
  pub entry-is : l.entry ≡ open_in numbers

pub line-fine : (lowest closed least : ℕ) (o : Option (List ℕ)) (l : Line) → l ≡ line_of lowest closed least o
    → l.fine ≡ true
    → Fine lowest closed least o l
line-fine lowest closed least none l e t =
    let z : false ≡ true = sym (ap (λ (l : Line). l.fine) e) ∙ t in
    absurd (let w : ◌≡◌ {A = ℕ} 0 1 = cc in omega arith)
line-fine lowest closed least (some xs) l e t = go (open_fine lowest closed least (number_in xs) (open_in xs)) refl e
  where
    go : (b : Bool) → open_fine lowest closed least (number_in xs) (open_in xs) ≡ b
        → l ≡ cond b (record { fine = true; number = record { 0 = number_in xs }; entry = open_in xs }) bad_line
        → Fine lowest closed least (some xs) l
    go true q w = record {
      numbers = xs;
      read = refl;
      tested = q;
      number_is = ap (λ (l : Line). l.number.0) w;
      entry-is = ap (λ (l : Line). l.entry) w;
    }
    go false q w =
        let z : false ≡ true = sym (ap (λ (l : Line). l.fine) w) ∙ t in
        absurd (let w : ◌≡◌ {A = ℕ} 0 1 = cc in omega arith)

-- ---- all of them

-- lines of which the first is fine, and lines of which it is not
from-fine : (lowest closed least : ℕ) (table : List Open) (xs : List ℕ) (rest : Option (List (List ℕ)))
    → open_fine lowest closed least (number_in xs) (open_in xs) ≡ true
    → lines_from lowest closed least table (followed (some xs) rest)
    ≡ lines_from lowest closed (suc (distance trans_space lowest (number_in xs)))
    (set table (number_in xs % 32) (open_in xs)) rest
unfolding opens_fine table_from
from-fine lowest closed least table xs none e = refl
from-fine lowest closed least table xs (some lines) e = rw e

moved : (lowest closed : ℕ) (table : List Open) (rest : Option (List (List ℕ))) (d number n : ℕ) (entry o : Open)
    → d ≡ distance trans_space lowest number → number ≡ n → entry ≡ o
    → lines_from lowest closed (suc (distance trans_space lowest n)) (set table (n % 32) o) rest
    ≡ lines_from lowest closed (d + 1) (set table (number % 32) entry) rest
moved lowest closed table rest d number n entry o q e p = rw (q, add-one, e, p)

from-bad : (lowest closed least : ℕ) (table : List Open) (o : Option (List ℕ)) (rest : Option (List (List ℕ)))
    (l : Line)
    → l ≡ line_of lowest closed least o → l.fine ≡ false
    → lines_from lowest closed least table (followed o rest) ≡ bad_lines
unfolding opens_fine
from-bad lowest closed least table none rest l e f = refl
from-bad lowest closed least table (some xs) none l e f = refl
from-bad lowest closed least table (some xs) (some lines) l e f =
    go (open_fine lowest closed least (number_in xs) (open_in xs)) e
  where
    go : (b : Bool)
        → l ≡ cond b (record { fine = true; number = record { 0 = number_in xs }; entry = open_in xs }) bad_line
        → cond (b && opens_fine lowest closed (suc (distance trans_space lowest (number_in xs))) lines)
        (record { fine = true; table = table_from table (xs ∷ lines) }) bad_lines ≡ bad_lines
    go true w =
        let z : true ≡ false = sym (ap (λ (l : Line). l.fine) w) ∙ f in
        absurd (let w : ◌≡◌ {A = ℕ} 0 1 = cc in omega arith)
    go false w = refl

open-length : line_length open_widths ≡ 33
unfolding line_length total
open-length = refl

pub record Left (text : List ℕ) (lowest closed : ℕ) (table : List Open) (least at : ℕ) : Type 0 where
  pub lines : ℕ
  pub at-is : at + 33 * lines ≡ length text
  pub is : table_of lowest closed (read_all open_widths (drop 47 text))
      ≡ lines_from lowest closed least table (read_lines lines open_widths (drop at text))

module _ (text : List ℕ) (lowest closed : ℕ) (long : 47 ≤ length text) where
  pub left-start : (length text - 47) % 33 ≡ 0 → Left text lowest closed empty_table 0 47
  unfolding read_all
  left-start e =
      let n = length-drop 47 text in
      let w : (length text - 47) / 33 ≡ length (drop 47 text) / line_length open_widths = rw (n, open-length) in
      record { lines = (length text - 47) / 33; at-is = omega arith; is = rw w }

  -- a length that no lines have
  pub left-none : (length text - 47) % 33 ≢ 0 → bad_lines ≡ table_of lowest closed (read_all open_widths (drop 47 text))
  left-none ne = go (read_all open_widths (drop 47 text)) refl
    where
      go : (o : Option (List (List ℕ))) → read_all open_widths (drop 47 text) ≡ o → bad_lines ≡ table_of lowest closed o
      go none e = refl
      go (some lines) e =
          let l = read-lines open_widths (drop 47 text) lines e in
          let n : length (drop 47 text) ≡ length lines * 33 =
          ap length l.is ∙ length-lines l.fitting ∙ rw open-length in
          let m = length-drop 47 text in
          absurd (ne (omega arith))

module _ {text : List ℕ} {lowest closed : ℕ} {table : List Open} {least at : ℕ}
    (l : Left text lowest closed table least at) where
  module _ (more : at < length text) where
    -- one line fewer
    fewer : (k : ℕ) → at + 33 * k ≡ length text → k ≡ suc (k - 1)
    fewer k e = omega arith

    next : read_lines l.lines open_widths (drop at text)
        ≡ followed (read_line open_widths (drop at text)) (read_lines (l.lines - 1) open_widths (drop (at + 33) text))
    unfolding read_lines
    next =
        ap (λ (k : ℕ). read_lines k open_widths (drop at text)) (fewer l.lines l.at-is)
        ∙ rw (open-length, drop-drop 33 at text)

    pub left-room : at + 33 ≤ length text
    left-room = omega (arith, fewer l.lines l.at-is, l.at-is)

    module _ (line : Line) (e : line ≡ line_of lowest closed least (read_line open_widths (drop at text))) where
      pub left-bad : line.fine ≡ false → bad_lines ≡ table_of lowest closed (read_all open_widths (drop 47 text))
      left-bad f =
          sym
          (l.is ∙ ap (lines_from lowest closed least table) next
          ∙ from-bad lowest closed least table (read_line open_widths (drop at text))
          (read_lines (l.lines - 1) open_widths (drop (at + 33) text)) line e f)

      module _ (f : line.fine ≡ true) where
        fine : Fine lowest closed least (read_line open_widths (drop at text)) line
        fine = line-fine lowest closed least (read_line open_widths (drop at text)) line e f

        pub left-inside : distance trans_space lowest line.number.0 < 32
        left-inside =
            rw fine.number_is
            (fine-line lowest closed least (number_in fine.numbers) (open_in fine.numbers) fine.tested).inside

        pub left-turn : (d : ℕ) → d ≡ distance trans_space lowest line.number.0
            → Left text lowest closed (set table (line.number.0 % 32) line.entry) (d + 1) (at + 33)
        left-turn d q =
            let rest : Option (List (List ℕ)) = read_lines (l.lines - 1) open_widths (drop (at + 33) text) in
            record {
              lines = l.lines - 1;
              at-is = omega (arith, fewer l.lines l.at-is, l.at-is);
              is =
                  l.is ∙ ap (lines_from lowest closed least table)
                  (next ∙ ap (λ (o : Option (List ℕ)). followed o rest) fine.read)
                  ∙ from-fine lowest closed least table fine.numbers rest fine.tested
                  ∙ moved lowest closed table rest d line.number.0 (number_in fine.numbers) line.entry
                  (open_in fine.numbers) q
                  fine.number_is fine.entry-is;
            }

  pub left_end : length text ≤ at
      → record { fine = true; table = table } ≡ table_of lowest closed (read_all open_widths (drop 47 text))
  unfolding read_lines opens_fine table_from
  left_end h =
      let z : l.lines ≡ 0 = omega (arith, l.at-is) in
      sym (l.is ∙ rw (z, drop_of_length-le text h))
