-- Laws of windows of marks, of any length: moving along, and the leading_set of set marks. And the loops that move them.
-- Assumes nothing.
use Rattle.std.proofs.Common.{◌≡◌, ℕ, zero, suc, ◌+◌, ◌<◌, ◌≤◌, Bool, true, false, List, [], ◌∷◌, ◌++◌, length, get_or, drop, take, set, replicate, sym, refl, ap, ◌∙◌, true≢false, suc-add, zero-add, arith, length-append, length-drop, ext_get_or}
use Rattle.host_plain.specs.Plain.{leading_set, moved_by}

-- ---- moving along

length-clear : (n : ℕ) → length (replicate n false) ≡ n
length-clear zero = refl
length-clear (suc n) = ap suc (length-clear n)

pub clear_at : (n i : ℕ) → get_or (replicate n false) i false ≡ false
clear_at zero i = refl
clear_at (suc n) zero = refl
clear_at (suc n) (suc i) = clear_at n i

pub length_moved : (n : ℕ) (marks : List Bool) → n ≤ length marks → length (moved_by n marks) ≡ length marks
unfolding moved_by
length_moved n marks h =
    length-append (drop n marks) (replicate n false)
    ∙ omega (arith, length-drop n marks, length-clear n)

-- mark i is then the one that was n places further on; past the end none is set
pub moved_at : (n : ℕ) (marks : List Bool) (i : ℕ) → get_or (moved_by n marks) i false ≡ get_or marks (n + i) false
unfolding moved_by
moved_at n marks i = behind n n marks i
  where
    with-clear : (marks : List Bool) (k i : ℕ) → get_or (marks ++ replicate k false) i false ≡ get_or marks i false
    with-clear [] k i = clear_at k i
    with-clear (m ∷ marks) k zero = refl
    with-clear (m ∷ marks) k (suc i) = with-clear marks k i

    behind : (k n : ℕ) (marks : List Bool) (i : ℕ)
        → get_or (drop n marks ++ replicate k false) i false ≡ get_or marks (n + i) false
    behind k zero [] i = clear_at k i
    behind k zero (m ∷ marks) zero = refl
    behind k zero (m ∷ marks) (suc i) =
        let e : 0 + suc i ≡ suc i = omega arith in
        rw e (with-clear marks k i)
    behind k (suc n) [] i = clear_at k i
    behind k (suc n) (m ∷ marks) i = rw (suc-add n i) (behind k n marks i)

-- two lists of marks of one length are the same where each mark is
pub same-marks : (a b : List Bool) → length a ≡ length b → ((i : ℕ) → get_or a i false ≡ get_or b i false) → a ≡ b
same-marks a b e at = ext_get_or false a b e (λ i h. at i)

pub moved_on : (k : ℕ) (marks : List Bool) → suc k ≤ length marks → moved_by 1 (moved_by k marks) ≡ moved_by (k + 1) marks
moved_on k marks h =
    same-marks _ _ lengths
    (λ i. moved_at 1 (moved_by k marks) i
    ∙ moved_at k marks (1 + i)
    ∙ ap (λ (j : ℕ). get_or marks j false) (omega arith)
    ∙ sym (moved_at (k + 1) marks i))
  where
    lengths : length (moved_by 1 (moved_by k marks)) ≡ length (moved_by (k + 1) marks)
    lengths =
        let e : length (moved_by k marks) ≡ length marks = length_moved k marks (omega arith) in
        length_moved 1 (moved_by k marks) (omega arith) ∙ e ∙ sym (length_moved (k + 1) marks (omega arith))

pub moved_none : (marks : List Bool) → marks ≡ moved_by 0 marks
moved_none marks =
    same-marks marks (moved_by 0 marks) (sym (length_moved 0 marks (omega arith)))
    (λ i. sym (rw zero-add at (moved_at 0 marks i)))

-- ---- the leading_set of set marks

pub set-le : (marks : List Bool) → leading_set marks ≤ length marks
unfolding leading_set
set-le [] = omega arith
set-le (true ∷ marks) = omega (arith, set-le marks)
set-le (false ∷ marks) = omega arith

set-clear : (marks : List Bool) → leading_set (marks ++ false ∷ []) ≡ leading_set marks
unfolding leading_set
set-clear [] = refl
set-clear (true ∷ marks) = ap suc (set-clear marks)
set-clear (false ∷ marks) = refl

pub set-stops : (marks : List Bool) → get_or marks 0 false ≡ false → leading_set marks ≡ 0
unfolding leading_set
set-stops [] e = refl
set-stops (true ∷ marks) e = absurd (true≢false e)
set-stops (false ∷ marks) e = refl

pub set_on : (marks : List Bool) → get_or marks 0 false ≡ true → leading_set marks ≡ suc (leading_set (moved_by 1 marks))
unfolding leading_set moved_by
set_on [] e = absurd (true≢false (sym e))
set_on (true ∷ marks) e = ap suc (sym (set-clear marks))
set_on (false ∷ marks) e = absurd (true≢false (sym e))

-- ---- moving them along one place: the first is cleared, and goes round to the end

pub moved_round : (marks : List Bool) → 0 < length marks
    → drop 1 (set marks 0 false) ++ take 1 (set marks 0 false) ≡ moved_by 1 marks
unfolding moved_by
moved_round [] h = absurd (omega arith)
moved_round (m ∷ marks) h = refl

-- ---- the loop that moves them past the set ones

pub record Passing (before marks : List Bool) (places : ℕ) : Type 0 where
  pub some : 0 < length before
  pub len : length marks ≡ length before
  pub left : leading_set before ≡ places + leading_set marks
  pub marks-are : marks ≡ moved_by places before

pub passing-start : (before : List Bool) → 0 < length before → Passing before before 0
passing-start before h = record { some = h; len = refl; left = omega arith; marks-are = moved_none before }

pub passing-turn : {before marks now : List Bool} {places : ℕ} → get_or marks 0 false ≡ true → Passing before marks places
    → now ≡ moved_by 1 marks → (Passing before now (places + 1)) × (leading_set now < leading_set marks)
passing-turn {before} {marks} {now} {places} h k e =
    let one = set_on marks h in
    let room : places + 1 ≤ length before = omega (arith, k.left, one, set-le before) in (
      record {
        some = k.some;
        len = ap length e ∙ length_moved 1 marks (omega (arith, k.len, k.some)) ∙ k.len;
        left = rw e (omega (arith, k.left, one));
        marks-are = e ∙ rw k.marks-are (moved_on places before (omega arith));
      },
      rw e (omega (arith, one)),
    )

pub passing-done : {before marks : List Bool} {places : ℕ} → get_or marks 0 false ≡ false → Passing before marks places
    → (places ≡ leading_set before) × (marks ≡ moved_by (leading_set before) before)
passing-done {before} {marks} {places} h k =
    let e : places ≡ leading_set before = omega (arith, k.left, set-stops marks h) in
    (e, k.marks-are ∙ ap (λ (n : ℕ). moved_by n before) e)
