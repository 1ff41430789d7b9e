-- How long a pair's text is: 47 characters, and 33 for each open transaction. Of any pair. Assumes nothing.
use mathlib.Core.Path.{◌≡◌, refl, ◌∙◌}
use mathlib.Core.Bool.{Bool, true, false, cond}
use mathlib.Core.List.{List, ◌∷◌}
use Prim.Native.Nat.{ℕ, zero, suc, ◌+◌, ◌*◌, ◌%◌, ◌≤◌}
use native.Mathlib.Omega.{arith}
use lib.Dec.{eqb}
use lib.ListN.{length, get_or, length-append}
use Rattle.octets.specs.Octets.{little}
use Rattle.seq.specs.Ring.{advance, trans_space}
use Rattle.host.specs.declared.Open.{Open}
use Rattle.host.specs.Terms.{free}
use Rattle.host.specs.declared.Pair.{Pair}
use Rattle.hexadecimal.specs.Fields.{hex, laid, line_of, lines_of}
use Rattle.host_stored.specs.Form.{head_widths, open_widths, first_line, open_line, opens_from, opens_of, text_as}

pub head-length : (version : ℕ) (p : Pair) → length (line_of head_widths (first_line version p)) ≡ 47
unfolding line_of hex laid little
head-length version p = refl

pub open-length : (number : ℕ) (o : Open) → length (line_of open_widths (open_line number o)) ≡ 33
unfolding line_of hex laid little
open-length number o = refl

-- of the k transactions from the one i past the lowest on
module _ (lowest : ℕ) (table : List Open) where
  pub opens-length : (k i : ℕ)
      → length (lines_of open_widths (opens_from k i lowest table)) ≡ 33 * length (opens_from k i lowest table)
  unfolding opens_from lines_of
  opens-length zero i = refl
  opens-length (suc k) i = go (eqb o.received 0) (opens-length k (suc i))
    where
      number : ℕ
      number = advance trans_space lowest i

      o : Open
      o = get_or table (number % 32) free

      rest : List (List ℕ)
      rest = opens_from k (suc i) lowest table

      go : (b : Bool) → length (lines_of open_widths rest) ≡ 33 * length rest
          → length (lines_of open_widths (cond b rest (open_line number o ∷ rest)))
          ≡ 33 * length (cond b rest (open_line number o ∷ rest))
      go true e = e
      go false e =
          omega (
            arith,
            length-append (line_of open_widths (open_line number o)) (lines_of open_widths rest),
            open-length
                number o,
          )

  pub opens-most : (k i : ℕ) → length (opens_from k i lowest table) ≤ k
  unfolding opens_from
  opens-most zero i = omega arith
  opens-most (suc k) i =
      go (eqb (get_or table (advance trans_space lowest i % 32) free).received 0) (opens-most k (suc i))
    where
      number : ℕ
      number = advance trans_space lowest i

      rest : List (List ℕ)
      rest = opens_from k (suc i) lowest table

      go : (b : Bool) → length rest ≤ k
          → length (cond b rest (open_line number (get_or table (number % 32) free) ∷ rest)) ≤ suc k
      go true h = omega arith
      go false h = omega arith

pub text-length : (version : ℕ) (p : Pair) → length (text_as version p) ≡ 47 + 33 * length (opens_of p)
unfolding text_as
text-length version p =
    length-append (line_of head_widths (first_line version p)) (lines_of open_widths (opens_of p))
    ∙ rw (head-length version p, opens-length p.lowest.0 p.table 32 0)

-- 47 characters with no open transaction, 1,103 with 32
pub text-bounds : (version : ℕ) (p : Pair) → (47 ≤ length (text_as version p)) × (length (text_as version p) ≤ 1103)
text-bounds version p =
    let e = text-length version p in
    let h = opens-most p.lowest.0 p.table 32 0 in
    (omega arith, omega arith)
