-- A line put byte by byte, and lines transaction by transaction: what is left to put.
-- Assumes nothing.
use mathlib.Core.Path.{◌≡◌, refl, sym, ◌∙◌, ap}
use mathlib.Core.Logic.{◌≢◌}
use mathlib.Core.Bool.{Bool, true, false, cond}
use mathlib.Core.List.{List, [], ◌∷◌, ◌++◌, append_assoc, append-nil}
use Prim.Native.Nat.{ℕ, zero, suc, ◌+◌, ◌-◌, ◌*◌, ◌/◌, ◌%◌, ◌≤◌, ◌<◌}
use native.Mathlib.Numerals.{add-one}
use native.Mathlib.Omega.{arith}
use borrow.Author.Tests.{eq-eqb, ne_eqb, eqb-true, eqb-false, lt-ltb, le-ltb}
use lib.Dec.{eqb}
use lib.ListN.{length, drop, get_or, set, length-set, length-append, drop_of_length-le}
use lib.Seq.{sets, drop-cons}
use Rattle.octets.specs.Octets.{little}
use Rattle.octets.proofs.Octets.{sets-append}
use Rattle.hexadecimal.specs.Fields.{digit_of, hex, laid, line_of, lines_of}
use Rattle.host.specs.declared.Open.{Open}
use Rattle.host.specs.declared.Pair.{Pair}
use Rattle.host_words.specs.Describing.{number_at, entry_at, is_open, open_count}
use Rattle.host_stored.specs.Form.{open_widths, open_line, opens_from, opens_of}
use Rattle.host_stored.proofs.Length.{opens-most}
use Rattle.host_store.specs.Lines.{entry_lines, lines_at}

-- ---- a line

pub record Put (out₀ : List ℕ) (at : ℕ) (bytes out : List ℕ) (end i : ℕ) : Type 0 where
  pub range : i ≤ length bytes
  pub at-is : end ≡ at + 2 * i
  pub size : length out ≡ length out₀
  pub is : sets out₀ at (hex bytes ++ (10 ∷ [])) ≡ sets out end (hex (drop i bytes) ++ (10 ∷ []))

pub put-start : (out : List ℕ) (at : ℕ) (bytes : List ℕ) → Put out at bytes out at 0
put-start out at bytes = record { range = omega arith; at-is = omega arith; size = refl; is = refl }

pub put-turn : {out₀ bytes out : List ℕ} {at end i : ℕ} (b high low : ℕ) → Put out₀ at bytes out end i
    → i < length bytes
    → b ≡ get_or bytes i 0 → high ≡ digit_of (b / 16) → low ≡ digit_of (b % 16)
    → Put out₀ at bytes (set (set out end high) (end + 1) low) (end + 2) (i + 1)
unfolding hex
put-turn {out₀} {bytes} {out} {at} {end} {i} b high low p l e h k =
    let d : drop i bytes ≡ get_or bytes i 0 ∷ drop (i + 1) bytes = rw add-one (drop-cons bytes i 0 l) in
    let two : end + 2 ≡ suc (suc end) = omega arith in
    let one : end + 1 ≡ suc end = omega arith in
    record {
      range = omega arith;
      at-is = omega (arith, p.at-is);
      size = simp length-set p.size;
      is = p.is ∙ rw (d, two, one, h, k, e);
    }

pub put-end : {out₀ bytes out : List ℕ} {at end i : ℕ} → Put out₀ at bytes out end i → length bytes ≤ i
    → set out end 10 ≡ sets out₀ at (hex bytes ++ (10 ∷ []))
unfolding hex
put-end {out₀} {bytes} {out} {at} {end} {i} p l = sym (p.is ∙ rw (drop_of_length-le bytes l))

-- ---- one transaction

-- no line, and one line, of which the bytes are given
none-put : (out : List ℕ) (at number : ℕ) (o : Open) → o.received ≡ 0
    → (at ≡ at + 33 * length (entry_lines number o)) × (out ≡ sets out at (lines_of open_widths (entry_lines number o)))
unfolding entry_lines lines_of
none-put out at number o e = let t = eq-eqb o.received 0 e in (rw t (omega arith), rw t)

pub line-bytes : (bytes : List ℕ) (number : ℕ) (o : Open) → bytes ≡ laid open_widths (open_line number o)
    → length bytes ≡ 16
unfolding laid little
line-bytes bytes number o e = ap length e

one_line : (number : ℕ) (o : Open) → o.received ≢ 0 → length (entry_lines number o) ≡ 1
unfolding entry_lines
one_line number o n = rw (ne_eqb o.received 0 n)

one-put : (out last bytes : List ℕ) (at end number : ℕ) (o : Open) → o.received ≢ 0
    → bytes ≡ laid open_widths (open_line number o)
    → (end ≡ at + (2 * length bytes + 1)) × (last ≡ sets out at (hex bytes ++ (10 ∷ [])))
    → (end ≡ at + 33 * length (entry_lines number o)) × (last ≡ sets out at (lines_of open_widths (entry_lines number o)))
unfolding entry_lines lines_of line_of
one-put out last bytes at end number o n e p =
    let t = ne_eqb o.received 0 n in
    let s = line-bytes bytes number o e in
    (p.0 ∙ rw t (omega arith), p.1 ∙ rw (t, e, append-nil (hex (laid open_widths (open_line number o)) ++ (10 ∷ []))))

lines-length : (number : ℕ) (o : Open)
    → length (lines_of open_widths (entry_lines number o)) ≡ 33 * length (entry_lines number o)
unfolding entry_lines lines_of line_of hex laid little
lines-length number o = go (eqb o.received 0)
  where
    go : (b : Bool)
        → length (lines_of open_widths (cond b [] (open_line number o ∷ [])))
        ≡ 33 * length (cond b [] (open_line number o ∷ []))
    go true = refl
    go false = refl

-- the same of the transaction j past the lowest one
pub none-at : (out : List ℕ) (at j : ℕ) (p : Pair) (o : Open) → o ≡ entry_at p j → o.received ≡ 0
    → (at ≡ at + 33 * length (lines_at p j)) × (out ≡ sets out at (lines_of open_widths (lines_at p j)))
none-at out at j p o e z = rw (← e) (none-put out at (number_at p j) o z)

pub one_at : (p : Pair) (j : ℕ) (o : Open) → o ≡ entry_at p j → o.received ≢ 0 → length (lines_at p j) ≡ 1
one_at p j o e z = rw (← e) (one_line (number_at p j) o z)

pub put-at : (out last bytes : List ℕ) (at end j number : ℕ) (p : Pair) (o : Open) → o ≡ entry_at p j
    → o.received ≢ 0 → number ≡ number_at p j → bytes ≡ laid open_widths (open_line number o)
    → (end ≡ at + (2 * length bytes + 1)) × (last ≡ sets out at (hex bytes ++ (10 ∷ [])))
    → (end ≡ at + 33 * length (lines_at p j)) × (last ≡ sets out at (lines_of open_widths (lines_at p j)))
put-at out last bytes at end j number p o e z n b w =
    rw (← e, ← n) (one-put out last bytes at end number o z b w)

-- ---- all of them

lines-append : (ws : List ℕ) (a b : List (List ℕ)) → lines_of ws (a ++ b) ≡ lines_of ws a ++ lines_of ws b
unfolding lines_of
lines-append ws [] b = refl
lines-append ws (x ∷ a) b =
    ap (λ (t : List ℕ). line_of ws x ++ t) (lines-append ws a b) ∙ sym
    (append_assoc (line_of ws x) (lines_of ws a) (lines_of ws b))

module _ (p : Pair) where
  -- the open ones of the k transactions from the j-th past the lowest on
  abbrev opens : ℕ → ℕ → List (List ℕ)
  opens k j = opens_from k j p.lowest.0 p.table

  opens-zero : (j : ℕ) → opens 0 j ≡ []
  unfolding opens_from
  opens-zero j = refl

  opens-suc : (k j : ℕ) → opens (suc k) j ≡ lines_at p j ++ opens k (suc j)
  unfolding opens_from entry_lines
  opens-suc k j = go (eqb (entry_at p j).received 0)
    where
      go : (b : Bool)
          → cond b (opens k (suc j)) (open_line (number_at p j) (entry_at p j) ∷ opens k (suc j))
          ≡ cond b [] (open_line (number_at p j) (entry_at p j) ∷ []) ++ opens k (suc j)
      go true = refl
      go false = refl

  -- how many there are
  count-is : (k j : ℕ) → open_count k j p ≡ length (opens k j)
  unfolding open_count opens_from
  count-is zero j = refl
  count-is (suc k) j = go (eqb (entry_at p j).received 0) refl (count-is k (suc j))
    where
      rest : List (List ℕ)
      rest = opens k (suc j)

      go : (b : Bool) → eqb (entry_at p j).received 0 ≡ b → open_count k (suc j) p ≡ length rest
          → cond (is_open p j) (suc (open_count k (suc j) p)) (open_count k (suc j) p)
          ≡ length (cond b rest (open_line (number_at p j) (entry_at p j) ∷ rest))
      go true e ih = rw (le-ltb 0 (entry_at p j).received (omega (arith, eqb-true (entry_at p j).received 0 e))) ih
      go false e ih =
          let ne = eqb-false (entry_at p j).received 0 e in
          let some : 0 < (entry_at p j).received = omega arith in
          rw (lt-ltb 0 (entry_at p j).received some, ih)

  pub counted : (n : ℕ) → n ≡ open_count 32 0 p → (n ≡ length (opens_of p)) × (n ≤ 32)
  counted n e =
      let h = opens-most p.lowest.0 p.table 32 0 in
      let is : n ≡ length (opens_of p) = e ∙ count-is 32 0 in
      (is, omega arith)

pub record Puts (out₀ : List ℕ) (at : ℕ) (p : Pair) (out : List ℕ) (end j : ℕ) : Type 0 where
  pub range : j ≤ 32
  pub size : length out ≡ length out₀
  pub room : end + 33 * length (opens p (32 - j) j) ≤ length out₀
  pub is : sets out₀ at (lines_of open_widths (opens_of p)) ≡ sets out end (lines_of open_widths (opens p (32 - j) j))

pub puts-start : (out : List ℕ) (at : ℕ) (p : Pair) → at + 33 * length (opens_of p) ≤ length out → Puts out at p out at 0
puts-start out at p h = record { range = omega arith; size = refl; room = h; is = refl }

module _ {out₀ out : List ℕ} {at : ℕ} {p : Pair} {end j : ℕ} (w : Puts out₀ at p out end j) (l : j < 32) where
  left : opens p (32 - j) j ≡ lines_at p j ++ opens p (32 - (j + 1)) (j + 1)
  left =
      let d : 32 - j ≡ suc (32 - (j + 1)) = omega arith in
      let k : suc j ≡ j + 1 = omega arith in
      rw (d, opens-suc p (32 - (j + 1)) j, k)

  counts : length (opens p (32 - j) j) ≡ length (lines_at p j) + length (opens p (32 - (j + 1)) (j + 1))
  counts = ap length left ∙ length-append (lines_at p j) (opens p (32 - (j + 1)) (j + 1))

  pub puts-room : end + 33 * length (lines_at p j) ≤ length out
  puts-room = omega (arith, w.room, w.size, counts)

  pub puts-turn : (last : List ℕ) (stop : ℕ) → length last ≡ length out → stop ≡ end + 33 * length (lines_at p j)
      → last ≡ sets out end (lines_of open_widths (lines_at p j)) → Puts out₀ at p last stop (j + 1)
  puts-turn last stop s q e =
      let ls : List (List ℕ) = lines_at p j in
      let rest : List (List ℕ) = opens p (32 - (j + 1)) (j + 1) in
      let behind : stop ≡ end + length (lines_of open_widths ls) =
      q ∙ ap (λ (n : ℕ). end + n) (sym (lines-length (number_at p j) (entry_at p j))) in
      record {
        range = omega arith;
        size = s ∙ w.size;
        room = omega (arith, w.room, counts);
        is =
            w.is
            ∙ ap (λ (x : List (List ℕ)). sets out end (lines_of open_widths x)) left
            ∙ rw (
              lines-append open_widths ls rest,
              sets-append out (lines_of open_widths ls) (lines_of open_widths rest) end,
              e,
              behind,
            );
      }

pub puts-end : {out₀ : List ℕ} {at : ℕ} {p : Pair} {out : List ℕ} {end j : ℕ} → Puts out₀ at p out end j → 32 ≤ j
    → out ≡ sets out₀ at (lines_of open_widths (opens_of p))
unfolding lines_of
puts-end {out₀} {at} {p} {out} {end} {j} w l =
    let z : 32 - j ≡ 0 = omega arith in
    sym (w.is ∙ rw (z, opens-zero p j))
