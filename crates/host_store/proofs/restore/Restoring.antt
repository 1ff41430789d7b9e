-- The answers of restoring, case by case.
-- Assumes nothing.
use mathlib.Core.Path.{◌≡◌, refl, sym, ◌∙◌, ap}
use mathlib.Core.Logic.{◌≢◌}
use mathlib.Core.Bool.{Bool, true, false, cond, ◌&&◌}
use mathlib.Core.List.{List, []}
use mathlib.Core.Option.{Option, none, some}
use Prim.Native.Nat.{ℕ, ◌<◌}
use native.Mathlib.Omega.{arith}
use borrow.Author.Tests.{eq-eqb, ne_eqb}
use lib.Dec.{eqb}
use lib.ListN.{length, drop, get_or, length-append}
use Rattle.octets.proofs.Octets.{field-1}
use Rattle.hexadecimal.specs.Fields.{numbers_from, total, line_length, line_of, read_line, read_all}
use Rattle.hexadecimal.proofs.fields.BothWays.{read-line, length-line}
use Rattle.host.specs.declared.Opened.{Opened}
use Rattle.host_words.specs.declared.Head.{Head}
use Rattle.host_words.specs.Words.{head_part, joined}
use Rattle.host_stored.specs.Form.{
  head_widths,
  open_widths,
  empty_table,
  table_from,
  version_in,
  pair_in,
  head_fine,
  opens_fine,
  refused_reading,
  reading,
  judged,
  read_as,
}
use Rattle.host_store.specs.Steps.{Lines, bad_lines, table_of}

pub head-total : 23 ≡ total head_widths
unfolding total
head-total = refl

head-length : line_length head_widths ≡ 47
unfolding line_length total
head-length = refl

-- the answer of a first line, its version and conditions, and of what the lines behind it come to
abbrev outcome : Head → Bool → Bool → Lines → Opened
outcome h v t ls =
    cond v (cond t (cond ls.fine (reading (joined h ls.table)) refused_reading) refused_reading) refused_reading

by_lines : (version : ℕ) (xs : List ℕ) (o : Option (List (List ℕ)))
    → judged version (some xs) o
    ≡ outcome (head_part (pair_in xs [])) (eqb (version_in xs) version) (head_fine (pair_in xs []))
    (table_of (get_or xs 5 0) (get_or xs 6 0) o)
unfolding bad_lines head_fine
by_lines version xs none = go (eqb (version_in xs) version) (head_fine (pair_in xs []))
  where
    go : (v t : Bool) → refused_reading ≡ cond v (cond t refused_reading refused_reading) refused_reading
    go true true = refl
    go true false = refl
    go false t = refl
by_lines version xs (some lines) =
    go (eqb (version_in xs) version) (head_fine (pair_in xs [])) (opens_fine (get_or xs 5 0) (get_or xs 6 0) 0 lines)
  where
    go : (v t b : Bool)
        → cond (v && (t && b)) (reading (pair_in xs (table_from empty_table lines))) refused_reading
        ≡ outcome (head_part (pair_in xs [])) v t
        (cond b (record { fine = true; table = table_from empty_table lines }) bad_lines)
    go true true true = refl
    go true true false = refl
    go true false b = refl
    go false t b = refl

-- what the lines behind a first line make of it
pub lines-bad : (h : Head) (ls : Lines) → ls.fine ≡ false
    → refused_reading ≡ cond ls.fine (reading (joined h ls.table)) refused_reading
lines-bad h ls e = rw e

pub lines-fine : (h : Head) (ls : Lines) → ls.fine ≡ true
    → reading (joined h ls.table) ≡ cond ls.fine (reading (joined h ls.table)) refused_reading
lines-fine h ls e = rw e

module _ (version : ℕ) (text : List ℕ) where
  pub no_line : read_line head_widths text ≡ none → refused_reading ≡ read_as version text
  unfolding read_as
  no_line e = rw e

  pub too_short : length text < 47 → refused_reading ≡ read_as version text
  too_short h = no_line (go (read_line head_widths text) refl)
    where
      go : (o : Option (List ℕ)) → read_line head_widths text ≡ o → o ≡ none
      go none e = refl
      go (some xs) e =
          let l = read-line head_widths text xs e in
          let n = ap length l.is ∙ length-append (line_of head_widths xs) (drop (line_length head_widths) text) in
          absurd (omega (arith, length-line l.fitting, head-length))

  module _ (bytes : List ℕ) (e : read_line head_widths text ≡ some (numbers_from 0 head_widths bytes)) where
    version-is : version_in (numbers_from 0 head_widths bytes) ≡ get_or bytes 0 0
    unfolding numbers_from
    version-is = field-1 bytes 0

    judges : read_as version text
        ≡ outcome (head_part (pair_in (numbers_from 0 head_widths bytes) [])) (eqb (get_or bytes 0 0) version)
        (head_fine (pair_in (numbers_from 0 head_widths bytes) []))
        (table_of (get_or (numbers_from 0 head_widths bytes) 5 0) (get_or (numbers_from 0 head_widths bytes) 6 0)
        (read_all open_widths (drop 47 text)))
    unfolding read_as
    judges =
        let xs : List ℕ = numbers_from 0 head_widths bytes in
        let o : Option (List (List ℕ)) = read_all open_widths (drop 47 text) in
        let r : read_as version text ≡ judged version (some xs) o = rw (e, head-length) in
        r ∙ by_lines version xs o
        ∙ ap
        (λ (n : ℕ). outcome (head_part (pair_in xs [])) (eqb n version) (head_fine (pair_in xs []))
        (table_of (get_or xs 5 0) (get_or xs 6 0) o))
        version-is

    pub other-version : get_or bytes 0 0 ≢ version → refused_reading ≡ read_as version text
    other-version ne = sym (judges ∙ rw (ne_eqb (get_or bytes 0 0) version ne))

    module _ (v : get_or bytes 0 0 ≡ version) (h : Head) (k : h ≡ head_part (pair_in (numbers_from 0 head_widths bytes) []))
        (t : Bool) (f : t ≡ head_fine (joined h [])) where
      reads : read_as version text
          ≡ outcome h true t (table_of h.lowest.0 h.closed (read_all open_widths (drop 47 text)))
      reads =
          let o : Option (List (List ℕ)) = read_all open_widths (drop 47 text) in
          judges ∙ rw (eq-eqb (get_or bytes 0 0) version v)
          (ap (λ (h : Head). outcome h true (head_fine (joined h [])) (table_of h.lowest.0 h.closed o)) (sym k)
          ∙ rw f)

      pub head-bad : t ≡ false → refused_reading ≡ read_as version text
      head-bad z = sym (reads ∙ rw z)

      pub by-opens : t ≡ true → (ls : Lines)
          → ls ≡ table_of h.lowest.0 h.closed (read_all open_widths (drop 47 text))
          → cond ls.fine (reading (joined h ls.table)) refused_reading ≡ read_as version text
      by-opens z ls w = sym (reads ∙ ap (outcome h true t) (sym w) ∙ rw z)
