-- Windows of marks in a word and in a list, of any width: setting a mark, and moving past those that are set.
-- Assumes nothing.
use mathlib.Core.Path.{◌≡◌, refl, sym, ap, ◌∙◌}
use mathlib.Core.Logic.{◌≢◌}
use mathlib.Core.Bool.{Bool, true, false, cond}
use mathlib.Core.List.{List, [], ◌∷◌}
use Prim.Native.Nat.{ℕ, zero, suc, ◌+◌, ◌-◌, ◌/◌, ◌%◌, ◌^◌, ◌≤◌, ◌<◌}
use native.Mathlib.Decide.{dec_lt, dec_le}
use native.Mathlib.Omega.{arith}
use lib.ListN.{length, get_or, set, length-set}
use lib.Seq.{ext_get_or, get_or-set_same, get_or-set_other}
use Rattle.bitmap.specs.Marks.{mark, with_mark, leading, trailing_ones}
use Rattle.bitmap.proofs.Marks.{mark-shift, mark-past, mark-same, mark-other, mark-of-zero}
use Rattle.bitmap.proofs.Marks.{with_mark-lt, ones-le, moved-lt, mark-ext, mark-marks_of, marks_of-lt}
use Rattle.host.specs.declared.Open.{Open}
use Rattle.host.specs.Terms.{free}
use Rattle.host_plain.specs.Plain.{leading_set, moved_by}
use Rattle.host_plain.proofs.Marks.{length_moved, moved_at}
use Rattle.host_equal.specs.Described.{list_of, from_lowest, word_of}

-- ---- lists of the values of a function

pub length-list_of : {A : Type 0} (n : ℕ) (f : ℕ → A) → length (list_of n f) ≡ n
unfolding list_of
length-list_of zero f = refl
length-list_of (suc n) f = ap suc (length-list_of n (λ i. f (suc i)))

pub get_or-list_of : {A : Type 0} (n : ℕ) (f : ℕ → A) (d : A) (i : ℕ) → i < n → get_or (list_of n f) i d ≡ f i
unfolding list_of
get_or-list_of zero f d i h = absurd (omega arith)
get_or-list_of (suc n) f d zero h = refl
get_or-list_of (suc n) f d (suc i) h = get_or-list_of n (λ i. f (suc i)) d i (omega arith)

-- ---- marks in a word of any width, as a list

abbrev pub bits : ℕ → ℕ → List Bool
bits width word = list_of width (mark word)

past_end : (marks : List Bool) (i : ℕ) → length marks ≤ i → get_or marks i false ≡ false
past_end [] i h = refl
past_end (m ∷ marks) zero h = absurd (omega arith)
past_end (m ∷ marks) (suc i) h = past_end marks i (omega arith)

-- a word holds nothing past its width, nor does the list
pub bit_at : (width word : ℕ) → word < 2 ^ width → (i : ℕ) → get_or (bits width word) i false ≡ mark word i
bit_at width word fits i = go (dec_lt i width)
  where
    go : Dec (i < width) → get_or (bits width word) i false ≡ mark word i
    go (yes h) = get_or-list_of width (mark word) false i h
    go (no h) =
        past_end (bits width word) i (omega (arith, length-list_of width (mark word)))
        ∙ sym (mark-past width word i fits (omega arith))

-- a list is the bits of a word where each of its marks is
pub bits_are : (width word : ℕ) (marks : List Bool) → word < 2 ^ width → length marks ≡ width
    → ((i : ℕ) → i < width → get_or marks i false ≡ mark word i) → marks ≡ bits width word
bits_are width word marks fits len each =
    ext_get_or false marks (bits width word) (len ∙ sym (length-list_of width (mark word)))
    (λ i h. each i (omega (arith, len)) ∙ sym (bit_at width word fits i))

pub bits-clear : (width : ℕ) (marks : List Bool) → length marks ≡ width → ((i : ℕ) → get_or marks i false ≡ false)
    → bits width 0 ≡ marks
bits-clear width marks len none =
    ext_get_or false (bits width 0) marks (length-list_of width (mark 0) ∙ sym len)
    (λ i h.
    get_or-list_of width (mark 0) false i (omega (arith, length-list_of width (mark 0)))
    ∙ mark-of-zero i
    ∙ sym (none i))

-- ---- a word's marks as a list, and back

pub word-of-bits : (width word : ℕ) → word < 2 ^ width → word_of width (bits width word) ≡ word
unfolding word_of
word-of-bits width word fits =
    mark-ext width _ word (marks_of-lt width _) fits (λ i h. mark-marks_of width _ i h ∙ bit_at width word fits i)

pub bits-of-word : (width : ℕ) (marks : List Bool) → length marks ≡ width → bits width (word_of width marks) ≡ marks
unfolding word_of
bits-of-word width marks len =
    sym
    (bits_are width (word_of width marks) marks (marks_of-lt width _) len (λ i h. sym (mark-marks_of width _ i h)))

-- ---- the run of set marks

pub run_is : (width : ℕ) (p : ℕ → Bool) → leading_set (list_of width p) ≡ leading p width
unfolding leading_set list_of leading
run_is zero p = refl
run_is (suc n) p = go (p 0) (run_is n (λ i. p (suc i)))
  where
    go : (b : Bool) → leading_set (list_of n (λ i. p (suc i))) ≡ leading (λ i. p (suc i)) n
        → leading_set (b ∷ list_of n (λ i. p (suc i))) ≡ cond b (suc (leading (λ i. p (suc i)) n)) 0
    go true e = ap suc e
    go false e = refl

-- ---- a mark is set, and the window moves past the set ones

module _ (width word d : ℕ) (fits : word < 2 ^ width) (near : d < width) where
  abbrev marked : ℕ
  marked = with_mark width word d

  marked-fits : marked < 2 ^ width
  marked-fits = with_mark-lt width word d fits

  pub set_is : set (bits width word) d true ≡ bits width (with_mark width word d)
  set_is =
      bits_are width marked _ marked-fits (length-set (bits width word) d true ∙ length-list_of width (mark word))
      (λ i h. at i h (dec_le i d) (dec_le d i))
    where
      other : (i : ℕ) → i ≢ d → get_or (set (bits width word) d true) i false ≡ mark marked i
      other i ne =
          get_or-set_other (bits width word) d i true false ne
          ∙ bit_at width word fits i
          ∙ sym (mark-other width word d i ne)

      at : (i : ℕ) → i < width → Dec (i ≤ d) → Dec (d ≤ i) → get_or (set (bits width word) d true) i false ≡ mark marked i
      at i h (no q) r = other i (λ e. q (omega arith))
      at i h (yes q) (no r) = other i (λ e. r (omega arith))
      at i h (yes q) (yes r) =
          let e : i ≡ d = omega arith in
          let l : d < length (bits width word) = omega (arith, length-list_of width (mark word)) in
          rw (e, get_or-set_same (bits width word) d true false l) (sym (mark-same width word d near))

  abbrev ones : ℕ
  ones = trailing_ones width marked

  pub run-set : leading_set (set (bits width word) d true) ≡ trailing_ones width (with_mark width word d)
  unfolding trailing_ones
  run-set = ap leading_set set_is ∙ run_is width (mark marked)

  pub moved-set : moved_by (leading_set (set (bits width word) d true)) (set (bits width word) d true)
      ≡ bits width (marked / 2 ^ ones)
  moved-set =
      rw (run-set, set_is)
      (bits_are width (marked / 2 ^ ones) _ lower
      (length_moved ones (bits width marked) (omega (arith, length-list_of width (mark marked), ones-le width marked))
      ∙ length-list_of width (mark marked))
      (λ i h.
      moved_at ones (bits width marked) i
      ∙ bit_at width marked marked-fits (ones + i)
      ∙ sym (mark-shift marked ones i)))
    where
      lower : marked / 2 ^ ones < 2 ^ width
      lower = moved-lt width marked marked-fits

-- ---- a table from the lowest transaction on has every place of the table

pub same-table : (lowest : ℕ) (a b : List Open) → length a ≡ 32 → length b ≡ 32
    → from_lowest lowest a ≡ from_lowest lowest b → a ≡ b
unfolding from_lowest
same-table lowest a b la lb e = ext_get_or free a b (la ∙ sym lb) at
  where
    at : (k : ℕ) → k < length a → get_or a k free ≡ get_or b k free
    at k h =
        let j : ℕ = (k + (32 - lowest % 32)) % 32 in
        let is : (lowest + j) % 32 ≡ k = omega (arith, la) in
        let in-a = get_or-list_of 32 (λ i. get_or a ((lowest + i) % 32) free) free j (omega arith) in
        let in_b = get_or-list_of 32 (λ i. get_or b ((lowest + i) % 32) free) free j (omega arith) in
        let both : get_or a ((lowest + j) % 32) free ≡ get_or b ((lowest + j) % 32) free
        = sym in-a ∙ ap (λ (l : List Open). get_or l j free) e ∙ in_b in
        rw is at both
