-- Answers, one more at a time: the kinds of answers, how often a frame is accepted, and the sums.
-- Assumes nothing.
use Prim.Native.Nat.{ℕ, ◌+◌}
use native.Mathlib.Omega.{arith}
use lib.Dec.{eqb}
use native.Mathlib.Nat.{zero-add, add-zero, add_assoc}
use mathlib.Core.Path.{◌≡◌, refl, sym, ap, ◌∙◌}
use mathlib.Core.Bool.{Bool, true, false, cond, ◌&&◌}
use mathlib.Core.List.{List, [], ◌∷◌, ◌++◌, map}
use Rattle.host.specs.declared.Sums.{Sums}
use Rattle.host.specs.declared.Answer.{Answer}
use Rattle.host.specs.declared.Answer.TheVariants.{Accepted, Again, NoMessages, Refused}
use Rattle.delivery.specs.Book.{Expected, expect_accepted, expect_again, expect_no_effect}
use Rattle.delivery.specs.Demand3.{seen_as, numbered_as, copy_of, says_accepted, times_accepted, sum_over}

pub map_more : {A B : Type 0} (f : A → B) (xs : List A) (x : A) → map f (xs ++ (x ∷ [])) ≡ map f xs ++ (f x ∷ [])
map_more f [] x = refl
map_more {A} {B} f (y ∷ ys) x = ap {B = List B} (λ r. f y ∷ r) (map_more f ys x)

pub match-more : (xs : List Answer) (rs : List Expected) (a : Answer) (r : Expected) → map seen_as xs ≡ map numbered_as rs
    → seen_as a ≡ numbered_as r → map seen_as (xs ++ (a ∷ [])) ≡ map numbered_as (rs ++ (r ∷ []))
match-more xs rs a r e q =
    map_more seen_as xs a ∙ rw (e, q) (sym (map_more numbered_as rs r))

-- how often the book expects a copy of frame c to be accepted
unfoldable pub expects : ℕ → Expected → Bool
expects c (expect_accepted x sums run) = eqb x c
expects c (expect_again x run) = false
expects c expect_no_effect = false

unfoldable pub times_expected : ℕ → List Expected → ℕ
times_expected c [] = 0
times_expected c (r ∷ rs) = cond (expects c r) 1 0 + times_expected c rs

pub times_more : (c : ℕ) (rs : List Expected) (r : Expected)
    → times_expected c (rs ++ (r ∷ [])) ≡ times_expected c rs + cond (expects c r) 1 0
unfolding times_expected
times_more c [] r = add-zero _ ∙ sym (zero-add _)
times_more c (y ∷ ys) r =
    ap (λ (t : ℕ). cond (expects c y) 1 0 + t) (times_more c ys r)
    ∙ sym (add_assoc (cond (expects c y) 1 0) (times_expected c ys) (cond (expects c r) 1 0))

-- where the answers are those that the book expects, as often as that
abbrev is_first : Expected → Bool
is_first (expect_accepted x sums run) = true
is_first (expect_again x run) = false
is_first expect_no_effect = false

first-seen : (a : Answer) → is_first (seen_as a) ≡ says_accepted a
unfolding seen_as says_accepted
first-seen (Accepted n sums run) = refl
first-seen (Again n run) = refl
first-seen NoMessages = refl
first-seen (Refused r) = refl

first-expects : (c : ℕ) (r : Expected) → (is_first (numbered_as r) && copy_of c r) ≡ expects c r
unfolding numbered_as copy_of expects
first-expects c (expect_accepted x sums run) = refl
first-expects c (expect_again x run) = refl
first-expects c expect_no_effect = refl

pub times-seen : (c : ℕ) (xs : List Answer) (rs : List Expected) → map seen_as xs ≡ map numbered_as rs
    → times_accepted c xs rs ≡ times_expected c rs
unfolding times_accepted times_expected
times-seen c [] [] q = refl
times-seen c [] (r ∷ rs) q = absurd (let z : ◌≡◌ {A = ℕ} 0 1 = cc in omega arith)
times-seen c (a ∷ xs) [] q = absurd (let z : ◌≡◌ {A = ℕ} 0 1 = cc in omega arith)
times-seen c (a ∷ xs) (r ∷ rs) q =
    let one : seen_as a ≡ numbered_as r = cc in
    let later : map seen_as xs ≡ map numbered_as rs = cc in
    let here : (says_accepted a && copy_of c r) ≡ expects c r =
    ap (λ (x : Bool). x && copy_of c r) (sym (first-seen a) ∙ ap is_first one) ∙ first-expects c r in
    rw (here, times-seen c xs rs later)

-- what an answer adds to a sum
abbrev pub summand : (Sums → ℕ) → Answer → ℕ
summand f (Accepted n sums run) = f sums
summand f (Again n run) = 0
summand f NoMessages = 0
summand f (Refused r) = 0

pub sum_more : (f : Sums → ℕ) (xs : List Answer) (a : Answer) → sum_over f (xs ++ (a ∷ [])) ≡ sum_over f xs + summand f a
unfolding sum_over
sum_more f [] (Accepted n sums run) = add-zero (f sums) ∙ sym (zero-add (f sums))
sum_more f [] (Again n run) = refl
sum_more f [] NoMessages = refl
sum_more f [] (Refused r) = refl
sum_more f (Accepted n sums run ∷ zs) a =
    ap (λ (t : ℕ). f sums + t) (sum_more f zs a) ∙ sym (add_assoc (f sums) (sum_over f zs) (summand f a))
sum_more f (Again n run ∷ zs) a = sum_more f zs a
sum_more f (NoMessages ∷ zs) a = sum_more f zs a
sum_more f (Refused r ∷ zs) a = sum_more f zs a
