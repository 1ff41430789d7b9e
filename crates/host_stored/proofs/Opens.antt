-- Open transactions as lines and in the table: the one as far past the lowest as its line says is in the entry of its
-- number, and lines and table say the same. Assumes nothing.
use mathlib.Core.Path.{◌≡◌, refl, sym, ◌∙◌, ap}
use mathlib.Core.Logic.{◌≢◌, ◌⊎◌, inl, inr}
use mathlib.Core.Bool.{Bool, true, false, true≢false, cond, not}
use mathlib.Core.List.{List, [], ◌∷◌}
use Prim.Native.Nat.{ℕ, zero, suc, ◌+◌, ◌-◌, ◌%◌, ◌≤◌, ◌<◌}
use native.Mathlib.Decide.{dec_le, dec_lt}
use native.Mathlib.Omega.{arith}
use borrow.Author.Tests.{le-leb, lt-ltb, eq-eqb, ne_eqb, eqb-true, eqb-false, ltb-true, leb-true, not-true}
use lib.Dec.{eqb, leb, ltb}
use lib.ListN.{length, get_or, set, replicate, length-set, get_or-replicate, get_or-eq_default}
use lib.Seq.{get_or-set_same, get_or-set_other, ext_get_or}
use Rattle.seq.specs.Ring.{distance, advance, trans_space}
use Rattle.seq.proofs.Ring.{distance-advance, advance-distance}
use Rattle.bitmap.specs.Marks.{mark}
use Rattle.host.specs.declared.Open.{Open}
use Rattle.host.specs.Terms.{free}
use Rattle.host.proofs.Reachable.{entry-is}
use Rattle.hexadecimal.specs.Fields.{Fitting, no_more, and, AllFitting, no_line, line}
use Rattle.hexadecimal.proofs.fields.BothWays.{both}
use Rattle.host_stored.specs.Form.{
  open_widths,
  open_line,
  opens_from,
  number_in,
  open_in,
  open_fine,
  opens_fine,
  empty_table,
  table_from,
}
use Rattle.host_stored.specs.Storable.{TypedOpen, Partly, StorableTable}

same-or-other : (a b : ℕ) → (a ≡ b) ⊎ (a ≢ b)
same-or-other a b = go (eqb a b) refl
  where
    go : (t : Bool) → eqb a b ≡ t → (a ≡ b) ⊎ (a ≢ b)
    go true e = inl (eqb-true a b e)
    go false e = inr (eqb-false a b e)

-- what holds of one entry set, and of all others, holds of all
pub each-place : (P : Open → Type 0) (table : List Open) (i : ℕ) (o : Open) → i < length table → P o
    → ((k : ℕ) → P (get_or table k free)) → (k : ℕ) → P (get_or (set table i o) k free)
each-place P table i o l p all k = go (same-or-other k i)
  where
    go : (k ≡ i) ⊎ (k ≢ i) → P (get_or (set table i o) k free)
    go (inl e) = rw (e, get_or-set_same table i o free l) p
    go (inr ne) = rw (get_or-set_other table i k o free ne) (all k)

-- a table of free entries
pub empty-free : (k : ℕ) → get_or empty_table k free ≡ free
unfolding empty_table
empty-free k = go (dec_lt k 32)
  where
    go : Dec (k < 32) → get_or (replicate 32 free) k free ≡ free
    go (yes h) = get_or-replicate 32 k free free h
    go (no h) =
        let past : length (replicate 32 free) ≤ k = omega arith in
        get_or-eq_default (replicate 32 free) free past

pub empty-length : length empty_table ≡ 32
unfolding empty_table
empty-length = refl

-- ---- entries

-- the place in the table of the transaction i past the lowest one, and the entry there
abbrev place : ℕ → ℕ → ℕ
place lowest i = advance trans_space lowest i % 32

abbrev placed : ℕ → List Open → ℕ → Open
placed lowest table i = get_or table (place lowest i) free

place-lt : (lowest i : ℕ) → place lowest i < 32
place-lt lowest i = omega arith

number_fits : (lowest i : ℕ) → advance trans_space lowest i < trans_space
unfolding advance
number_fits lowest i = omega arith

place_other : (lowest i j : ℕ) → i < 32 → j < 32 → i ≢ j → place lowest i ≢ place lowest j
place_other lowest i j h k ne e =
    ne (let q : (lowest + i) % 32 ≡ (lowest + j) % 32 = sym (entry-is lowest i) ∙ e ∙ entry-is lowest j in omega arith)

-- every entry is that of one transaction of the window
abbrev past : ℕ → ℕ → ℕ
past lowest k = (k + 32 - lowest % 32) % 32

place-past : (lowest k : ℕ) → k < 32 → place lowest (past lowest k) ≡ k
place-past lowest k h =
    entry-is lowest (past lowest k)
    ∙ (let e : (lowest + (k + 32 - lowest % 32) % 32) % 32 ≡ k = omega arith in e)

past-lt : (lowest k : ℕ) → past lowest k < 32
past-lt lowest k = omega arith

-- tables that agree on the window are the same
same-table : (lowest : ℕ) (a b : List Open) → length a ≡ 32 → length b ≡ 32
    → ((j : ℕ) → j < 32 → placed lowest a j ≡ placed lowest b j) → a ≡ b
same-table lowest a b m n h =
    ext_get_or free a b (m ∙ sym n)
    (λ k l. rw (← place-past lowest k (omega arith)) (h (past lowest k) (past-lt lowest k)))

-- ---- one line

-- what makes a line fine, test by test
pub record Fine (lowest closed least number : ℕ) (o : Open) : Type 0 where
  pub some-received : 1 ≤ o.received
  pub some-to-come : o.received ≤ o.count - 1
  pub inside : distance trans_space lowest number < 32
  pub not-closed : mark closed (distance trans_space lowest number) ≡ false
  pub in_order : least ≤ distance trans_space lowest number

pub fine-line : (lowest closed least number : ℕ) (o : Open) → open_fine lowest closed least number o ≡ true
    → Fine lowest closed least number o
unfolding open_fine
fine-line lowest closed least number o e =
    let d : ℕ = distance trans_space lowest number in
    let a = both (leb 1 o.received) _ e in
    let b = both (leb o.received (o.count - 1)) _ a.1 in
    let f = both (ltb d 32) _ b.1 in
    let g = both (not (mark closed d)) (leb least d) f.1 in
    record {
      some-received = leb-true 1 o.received a.0;
      some-to-come = leb-true o.received (o.count - 1) b.0;
      inside = ltb-true d 32 f.0;
      not-closed = not-true (mark closed d) g.0;
      in_order = leb-true least d g.1;
    }

pub line-fine : {lowest closed least number : ℕ} {o : Open} → Fine lowest closed least number o
    → open_fine lowest closed least number o ≡ true
unfolding open_fine
line-fine {lowest} {closed} {least} {number} {o} f =
    rw (
      le-leb 1 o.received f.some-received,
      le-leb o.received (o.count - 1) f.some-to-come,
      lt-ltb
          (distance trans_space lowest number) 32 f.inside,
      f.not-closed,
      le-leb least (distance trans_space lowest number)
          f.in_order,
    )

-- ---- all lines

pub record Fines (lowest closed least : ℕ) (xs : List ℕ) (lines : List (List ℕ)) : Type 0 where
  pub first : Fine lowest closed least (number_in xs) (open_in xs)
  pub rest : opens_fine lowest closed (suc (distance trans_space lowest (number_in xs))) lines ≡ true

pub fine-lines : (lowest closed least : ℕ) (xs : List ℕ) (lines : List (List ℕ))
    → opens_fine lowest closed least (xs ∷ lines) ≡ true → Fines lowest closed least xs lines
unfolding opens_fine
fine-lines lowest closed least xs lines e =
    let a = both (open_fine lowest closed least (number_in xs) (open_in xs)) _ e in
    record { first = fine-line lowest closed least (number_in xs) (open_in xs) a.0; rest = a.1 }

pub lines-fine : {lowest closed least : ℕ} {xs : List ℕ} {lines : List (List ℕ)} → Fines lowest closed least xs lines
    → opens_fine lowest closed least (xs ∷ lines) ≡ true
unfolding opens_fine
lines-fine f = rw (line-fine f.first) f.rest

-- lines whose first is far enough for another bound
fines-from : {lowest closed least : ℕ} {xs : List ℕ} {lines : List (List ℕ)} (bound : ℕ)
    → Fines lowest closed least xs lines
    → bound ≤ distance trans_space lowest (number_in xs) → Fines lowest closed bound xs lines
fines-from bound f h = record {
  first = record {
    some-received = f.first.some-received;
    some-to-come = f.first.some-to-come;
    inside = f.first.inside;
    not-closed = f.first.not-closed;
    in_order = h;
  };
  rest = f.rest;
}

-- ---- one step over the table

pub opens-skip : (k i lowest : ℕ) (table : List Open) → (placed lowest table i).received ≡ 0
    → opens_from (suc k) i lowest table ≡ opens_from k (suc i) lowest table
unfolding opens_from
opens-skip k i lowest table e = rw (eq-eqb (placed lowest table i).received 0 e)

pub opens-take : (k i lowest : ℕ) (table : List Open) → (placed lowest table i).received ≢ 0
    → opens_from (suc k) i lowest table
    ≡ open_line (advance trans_space lowest i) (placed lowest table i) ∷ opens_from k (suc i) lowest table
unfolding opens_from
opens-take k i lowest table e = rw (ne_eqb (placed lowest table i).received 0 e)

-- ---- from a text to the table and back

module _ (lowest closed : ℕ) (low : lowest < trans_space) where
  -- the place of a line's number, and the line that its entry gives back
  place-line : {xs : List ℕ} → Fitting open_widths xs
      → number_in xs % 32 ≡ place lowest (distance trans_space lowest (number_in xs))
  place-line {xs} (and h f) =
      ap (λ (n : ℕ). n % 32) (sym (advance-distance trans_space (omega arith) lowest (number_in xs) low h))

  line-is : {xs : List ℕ} (i : ℕ) → Fitting open_widths xs → distance trans_space lowest (number_in xs) ≡ i
      → open_line (advance trans_space lowest i) (open_in xs) ≡ xs
  line-is i (and {x = n} h (and a (and b (and m (and r no_more))))) e =
      rw (← e, advance-distance trans_space (omega arith) lowest n low h)

  -- a line leaves the entries of other transactions
  set_other : (table : List Open) {xs : List ℕ} (i : ℕ) → Fitting open_widths xs
      → distance trans_space lowest (number_in xs) < 32 → i < 32 → i ≢ distance trans_space lowest (number_in xs)
      → placed lowest (set table (number_in xs % 32) (open_in xs)) i ≡ placed lowest table i
  set_other table {xs} i f h l ne =
      rw (place-line f)
      (get_or-set_other table (place lowest (distance trans_space lowest (number_in xs))) (place lowest i) (open_in xs) free
      (place_other lowest i (distance trans_space lowest (number_in xs)) l h ne))

  set_own : (table : List Open) {xs : List ℕ} → Fitting open_widths xs → length table ≡ 32
      → placed lowest (set table (number_in xs % 32) (open_in xs)) (distance trans_space lowest (number_in xs)) ≡ open_in xs
  set_own table {xs} f n =
      rw (place-line f)
      (get_or-set_same table (place lowest (distance trans_space lowest (number_in xs))) (open_in xs) free
      (omega (arith, place-lt lowest (distance trans_space lowest (number_in xs)))))

  before-lines : (table : List Open) {lines : List (List ℕ)} (least i : ℕ) → AllFitting open_widths lines
      → opens_fine lowest closed least lines ≡ true → i < least → i < 32
      → placed lowest (table_from table lines) i ≡ placed lowest table i
  unfolding table_from
  before-lines table least i no_line e h l = refl
  before-lines table least i (line {xs} {lines} f fs) e h l =
      let k = fine-lines lowest closed least xs lines e in
      let before : i < distance trans_space lowest (number_in xs) = omega (arith, k.first.in_order) in
      before-lines (set table (number_in xs % 32) (open_in xs)) (suc (distance trans_space lowest (number_in xs))) i fs
      k.rest
      (omega arith) l
      ∙ set_other table i f k.first.inside l (λ e. omega arith)

  -- the lines of the table that lines make are these lines: from the transaction i past the lowest on
  Back : ℕ → ℕ → Type 0
  Back k i =
      (table : List Open) (lines : List (List ℕ)) → length table ≡ 32
      → ((j : ℕ) → i ≤ j → j < 32 → placed lowest table j ≡ free) → AllFitting open_widths lines
      → opens_fine lowest closed i lines ≡ true → opens_from k i lowest (table_from table lines) ≡ lines

  back_none : (k i : ℕ) → i + suc k ≡ 32 → Back k (suc i) → (table : List Open) → length table ≡ 32
      → ((j : ℕ) → i ≤ j → j < 32 → placed lowest table j ≡ free) → opens_from (suc k) i lowest (table_from table []) ≡ []
  unfolding Back table_from opens_fine
  back_none k i s ih table n z =
      let none : (placed lowest table i).received ≡ 0 =
      ap (λ (o : Open). o.received) (z i (omega arith) (omega arith)) in
      opens-skip k i lowest table none ∙ ih table [] n (λ j h l. z j (omega arith) l) no_line refl

  module _
      (k i : ℕ)
      (s : i + suc k ≡ 32)
      (ih : Back k (suc i))
      (table : List Open)
      (xs : List ℕ)
      (lines : List (List ℕ))
      (n : length table ≡ 32)
      (z : (j : ℕ) → i ≤ j → j < 32 → placed lowest table j ≡ free)
      (f : Fitting open_widths xs)
      (fs : AllFitting open_widths lines)
      (h : Fines lowest closed i xs lines)
    where
      back-here : distance trans_space lowest (number_in xs) ≡ i
          → opens_from (suc k) i lowest (table_from table (xs ∷ lines)) ≡ xs ∷ lines
      unfolding Back table_from
      back-here q =
          let d : ℕ = distance trans_space lowest (number_in xs) in
          let after : List Open = set table (number_in xs % 32) (open_in xs) in
          let stands : placed lowest (table_from after lines) i ≡ open_in xs =
          before-lines after (suc d) i fs h.rest (omega arith) (omega arith)
          ∙ ap (λ (n : ℕ). placed lowest after n) (sym q) ∙ set_own table f n in
          let some : (placed lowest (table_from after lines) i).received ≢ 0 =
          λ e. (let r = ap (λ (o : Open). o.received) stands in omega (arith, h.first.some-received)) in
          let more = ih after lines (length-set table (number_in xs % 32) (open_in xs) ∙ n)
          (λ j a l. set_other table j f h.first.inside l (λ e. omega arith) ∙ z j (omega arith) l) fs
          (ap (λ (n : ℕ). opens_fine lowest closed (suc n) lines) (sym q) ∙ h.rest) in
          opens-take k i lowest (table_from after lines) some ∙ rw (stands, more, line-is i f q)

      back-later : i < distance trans_space lowest (number_in xs)
          → opens_from (suc k) i lowest (table_from table (xs ∷ lines)) ≡ xs ∷ lines
      unfolding Back
      back-later q =
          let fine : opens_fine lowest closed (suc i) (xs ∷ lines) ≡ true = lines-fine (fines-from (suc i) h q) in
          let stands : placed lowest (table_from table (xs ∷ lines)) i ≡ free =
          before-lines table (suc i) i (line f fs) fine (omega arith) (omega arith) ∙ z i (omega arith) (omega arith) in
          opens-skip k i lowest (table_from table (xs ∷ lines)) (ap (λ (o : Open). o.received) stands)
          ∙ ih table (xs ∷ lines) n (λ j a l. z j (omega arith) l) (line f fs) fine

      back-line : opens_from (suc k) i lowest (table_from table (xs ∷ lines)) ≡ xs ∷ lines
      back-line = go (dec_le (distance trans_space lowest (number_in xs)) i)
        where
          go : Dec (distance trans_space lowest (number_in xs) ≤ i)
              → opens_from (suc k) i lowest (table_from table (xs ∷ lines)) ≡ xs ∷ lines
          go (yes q) = back-here (omega (arith, h.first.in_order))
          go (no q) = back-later (omega arith)

  back : (k i : ℕ) → i + k ≡ 32 → Back k i
  unfolding Back opens_from
  back zero i s table lines n z no_line e = refl
  back zero i s table lines n z (line {xs = xs} {lines = rest} f fs) e =
      let h = fine-lines lowest closed i xs rest e in
      absurd (omega (arith, h.first.in_order, h.first.inside))
  back (suc k) i s table lines n z no_line e = back_none k i s (back k (suc i) (omega arith)) table n z
  back (suc k) i s table lines n z (line {xs = xs} {lines = rest} f fs) e =
      back-line k i s (back k (suc i) (omega arith)) table xs rest n z f fs (fine-lines lowest closed i xs rest e)

  pub opens-of-table : {lines : List (List ℕ)} → AllFitting open_widths lines → opens_fine lowest closed 0 lines ≡ true
      → opens_from 32 0 lowest (table_from empty_table lines) ≡ lines
  unfolding Back
  opens-of-table {lines} fs e = back 32 0 refl empty_table lines empty-length (λ j h l. empty-free (place lowest j)) fs e

  -- ---- from a table to lines and back

  -- a table whose entries up to the i-th transaction are filled and whose further ones are free is filled by the
  -- further lines
  fills : (k i : ℕ) (table partial : List Open) → i + k ≡ 32 → length table ≡ 32 → length partial ≡ 32
      → ((j : ℕ) → j < 32 → (placed lowest table j ≡ free) ⊎ Partly (placed lowest table j))
      → ((j : ℕ) → j < i → placed lowest partial j ≡ placed lowest table j)
      → ((j : ℕ) → i ≤ j → j < 32 → placed lowest partial j ≡ free)
      → table_from partial (opens_from k i lowest table) ≡ table
  unfolding opens_from table_from
  fills zero i table partial s m n each done left =
      same-table lowest partial table n m (λ j l. done j (omega arith))
  fills (suc k) i table partial s m n each done left =
      step (each i (omega arith)) (λ p n d l. fills k (suc i) table p (omega arith) m n each d l)
    where
      o : Open
      o = placed lowest table i

      Ih : Type 0
      Ih =
          (p : List Open) → length p ≡ 32 → ((j : ℕ) → j < suc i → placed lowest p j ≡ placed lowest table j)
          → ((j : ℕ) → suc i ≤ j → j < 32 → placed lowest p j ≡ free)
          → table_from p (opens_from k (suc i) lowest table) ≡ table

      up_to : (p : List Open) → placed lowest p i ≡ o → ((j : ℕ) → j < i → placed lowest p j ≡ placed lowest table j)
          → (j : ℕ) → j < suc i → placed lowest p j ≡ placed lowest table j
      up_to p here below j l = go (dec_lt j i)
        where
          go : Dec (j < i) → placed lowest p j ≡ placed lowest table j
          go (yes h) = below j h
          go (no h) = let e : j ≡ i = omega arith in rw e here

      step : (placed lowest table i ≡ free) ⊎ Partly (placed lowest table i) → Ih
          → table_from partial (opens_from (suc k) i lowest table) ≡ table
      step (inl e) ih =
          rw (opens-skip k i lowest table (ap (λ (o : Open). o.received) e))
          (ih partial n (up_to partial (left i (omega arith) (omega arith) ∙ sym e) done)
          (λ j h l. left j (omega arith) l))
      step (inr p) ih =
          let some : o.received ≢ 0 = λ e. omega (arith, p.some-received) in
          let l : place lowest i < length partial = omega (arith, place-lt lowest i) in
          let after : List Open = set partial (place lowest i) o in
          let other : (j : ℕ) → j < 32 → j ≢ i → placed lowest after j ≡ placed lowest partial j =
          λ j h ne. get_or-set_other partial (place lowest i) (place lowest j) o free
          (place_other lowest j i h (omega arith) ne) in
          rw (opens-take k i lowest table some)
          (ih after (length-set partial (place lowest i) o ∙ n)
          (up_to after (get_or-set_same partial (place lowest i) o free l)
          (λ j h. other j (omega arith) (λ e. omega arith) ∙ done j h))
          (λ j h q. other j q (λ e. omega arith) ∙ left j (omega arith) q))

  pub table-of-opens : (table : List Open) → length table ≡ 32 → StorableTable lowest closed table
      → table_from empty_table (opens_from 32 0 lowest table) ≡ table
  table-of-opens table m s =
      fills 32 0 table empty_table refl m empty-length (λ j l. s.each (place lowest j)) (λ j l. absurd (omega arith))
      (λ j h l. empty-free (place lowest j))

  -- the lines of a storable table are fine
  pub opens-fine : (k i : ℕ) (table : List Open) → i + k ≡ 32 → StorableTable lowest closed table
      → (bound : ℕ) → bound ≤ i → opens_fine lowest closed bound (opens_from k i lowest table) ≡ true
  unfolding opens_from opens_fine
  opens-fine zero i table s t bound b = refl
  opens-fine (suc k) i table s t bound b =
      step (t.each (place lowest i)) (opens-fine k (suc i) table (omega arith) t bound (omega arith))
      (opens-fine k (suc i) table (omega arith) t (suc i) (omega arith))
    where
      o : Open
      o = placed lowest table i

      number : ℕ
      number = advance trans_space lowest i

      d : distance trans_space lowest number ≡ i
      d = distance-advance trans_space (omega arith) lowest i low (omega arith)

      clear : Partly o → (b : Bool) → mark closed i ≡ b → b ≡ false
      clear p false e = refl
      clear p true e =
          let r : o.received ≡ 0 = ap (λ (o : Open). o.received) (t.closed-free i (omega arith) e) in
          absurd (omega (arith, p.some-received))

      step : (placed lowest table i ≡ free) ⊎ Partly (placed lowest table i)
          → opens_fine lowest closed bound (opens_from k (suc i) lowest table) ≡ true
          → opens_fine lowest closed (suc i) (opens_from k (suc i) lowest table) ≡ true
          → opens_fine lowest closed bound (opens_from (suc k) i lowest table) ≡ true
      step (inl e) further next = rw (opens-skip k i lowest table (ap (λ (o : Open). o.received) e)) further
      step (inr p) further next =
          let some : o.received ≢ 0 = λ e. omega (arith, p.some-received) in
          let fines : Fines lowest closed bound (open_line number o) (opens_from k (suc i) lowest table) = record {
            first = record {
              some-received = p.some-received;
              some-to-come = p.some-to-come;
              inside = rw d (omega arith);
              not-closed = rw d (clear p (mark closed i) refl);
              in_order = rw d b;
            };
            rest = rw d next;
          } in
          rw (opens-take k i lowest table some) (lines-fine fines)

  -- ---- what holds of the table that fine lines make

  pub table-storable : (least : ℕ) (table : List Open) {lines : List (List ℕ)} → length table ≡ 32
      → StorableTable lowest closed table → AllFitting open_widths lines → opens_fine lowest closed least lines ≡ true
      → StorableTable lowest closed (table_from table lines)
  unfolding table_from
  table-storable least table n s no_line e = s
  table-storable least table n s (line {xs} {lines} f fs) e =
      table-storable (suc (distance trans_space lowest (number_in xs))) (set table (number_in xs % 32) (open_in xs))
      (length-set table (number_in xs % 32) (open_in xs) ∙ n) (record { each = each; closed-free = closed-free }) fs
      h.rest
    where
      h : Fines lowest closed least xs lines
      h = fine-lines lowest closed least xs lines e

      d : ℕ
      d = distance trans_space lowest (number_in xs)

      after : List Open
      after = set table (number_in xs % 32) (open_in xs)

      each : (k : ℕ) → (get_or after k free ≡ free) ⊎ Partly (get_or after k free)
      each =
          each-place (λ (o : Open). (o ≡ free) ⊎ Partly o) table (number_in xs % 32) (open_in xs) (omega arith)
          (inr (record { some-received = h.first.some-received; some-to-come = h.first.some-to-come })) s.each

      closed-free : (j : ℕ) → j < 32 → mark closed j ≡ true → placed lowest after j ≡ free
      closed-free j l e =
          let ne : j ≢ d = λ q. true≢false (sym e ∙ ap (mark closed) q ∙ h.first.not-closed) in
          set_other table j f h.first.inside l ne ∙ s.closed-free j l e

-- ---- numbers that fit

typed-line : {xs : List ℕ} → Fitting open_widths xs → TypedOpen (open_in xs)
typed-line (and n (and a (and v (and c (and r no_more))))) =
    record { address-fits = a; value-fits = v; count_fits = c; received-fits = r }

pub table-typed : (table : List Open) {lines : List (List ℕ)} → length table ≡ 32
    → ((k : ℕ) → TypedOpen (get_or table k free))
    → AllFitting open_widths lines → (k : ℕ) → TypedOpen (get_or (table_from table lines) k free)
unfolding table_from
table-typed table n t no_line = t
table-typed table n t (line {xs} {lines} f fs) =
    table-typed (set table (number_in xs % 32) (open_in xs)) (length-set table (number_in xs % 32) (open_in xs) ∙ n)
    (each-place (λ (o : Open). TypedOpen o) table (number_in xs % 32) (open_in xs) (omega arith) (typed-line f) t) fs

pub length-table_from : (table : List Open) (lines : List (List ℕ)) → length (table_from table lines) ≡ length table
unfolding table_from
length-table_from table [] = refl
length-table_from table (xs ∷ lines) =
    length-table_from (set table (number_in xs % 32) (open_in xs)) lines ∙ length-set table (number_in xs % 32) (open_in xs)

pub opens-fit : (k i lowest : ℕ) (table : List Open) → ((k : ℕ) → TypedOpen (get_or table k free))
    → AllFitting open_widths (opens_from k i lowest table)
unfolding opens_from
opens-fit zero i lowest table t = no_line
opens-fit (suc k) i lowest table t =
    go (eqb (placed lowest table i).received 0) (t (place lowest i)) (opens-fit k (suc i) lowest table t)
  where
    go : (b : Bool) → TypedOpen (placed lowest table i) → AllFitting open_widths (opens_from k (suc i) lowest table)
        → AllFitting open_widths (cond b (opens_from k (suc i) lowest table)
        (open_line (advance trans_space lowest i) (placed lowest table i) ∷ opens_from k (suc i) lowest table))
    go true f fs = fs
    go false f fs =
        line
        (and (number_fits lowest i)
        (and f.address-fits (and f.value-fits (and f.count_fits (and f.received-fits no_more)))))
        fs
