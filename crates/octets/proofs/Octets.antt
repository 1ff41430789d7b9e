-- Laws of bytes: a number laid out and read back, and writes into a memory.
-- Assumes nothing.
use mathlib.Core.Path.{◌≡◌, refl, sym, ◌∙◌, ap}
use mathlib.Core.Bool.{Bool, true, false, cond}
use mathlib.Core.List.{List, [], ◌∷◌, ◌++◌, append_assoc, append-nil}
use Prim.Native.Nat.{ℕ, zero, suc, ◌+◌, ◌*◌, ◌/◌, ◌%◌, ◌^◌, ◌≤◌, ◌<◌}
use native.Mathlib.Nat.{add-zero, add-suc, suc-add, pow-succ'}
use native.Mathlib.Numerals.{add-one, towards_numerals}
use native.Mathlib.Omega.{arith}
use borrow.Author.Tests.{le-leb, lt-leb, leb-true}
use borrow.Rule.Slice.PartMut.{put_mid}
use mir.Syntax.{w8}
use mir.Val.{Fits}
use lib.ListN.{length, take, drop, get_or, set, replicate, length-append, drop_of_length-le}
use lib.Seq.{
  sets,
  sets-eq,
  length-sets,
  length-take-le,
  take_at,
  drop_at,
  drop-append-add,
  get_or-drop,
  drop-drop,
  drop-nil,
  take-nil,
  take-length,
  take-append_seam,
}
use Rattle.octets.specs.Octets.{Bytes, little, value, field, inside, written}

-- ---- numbers

-- a remainder by 256 is a byte
pub byte_fits : (x : ℕ) → Fits w8 (x % 256)
byte_fits x = omega arith

pub length-little : (k x : ℕ) → length (little k x) ≡ k
unfolding little
length-little zero x = refl
length-little (suc k) x = ap suc (length-little k (x / 256))

pub value-little : (k x : ℕ) → x < 256 ^ k → value (little k x) ≡ x
unfolding value little
value-little zero x h = omega arith
value-little (suc k) x h =
    let ih : value (little k (x / 256)) ≡ x / 256 = value-little k (x / 256) (omega (arith, pow-succ' 256 k)) in
    omega arith

-- a field one byte longer, and one of no bytes
pub field-suc : (s : List ℕ) (at n : ℕ) → field s at (suc n) ≡ get_or s at 0 + 256 * field s (suc at) n
unfolding field value
field-suc [] at n = rw (drop-nil at, take-nil n) refl
field-suc (x ∷ xs) zero n = refl
field-suc (x ∷ xs) (suc at) n = field-suc xs at n

pub field-zero : (s : List ℕ) (at : ℕ) → field s at 0 ≡ 0
unfolding field value
field-zero s at = refl

-- a field of n bytes is below 256 ^ n
pub field_lt : (s : List ℕ) (at n : ℕ) → Bytes s → field s at n < 256 ^ n
field_lt s at zero b = omega (arith, field-zero s at)
field_lt s at (suc n) b = omega (arith, field-suc s at n, b at, field_lt s (suc at) n b, pow-succ' 256 n)

-- fields of one, two and four bytes, byte by byte
pub field-1 : (s : List ℕ) (at : ℕ) → field s at 1 ≡ get_or s at 0
field-1 s at = omega (arith, field-suc s at 0, field-zero s (suc at))

pub field-2 : (s : List ℕ) (at : ℕ) → field s at 2 ≡ get_or s at 0 + 256 * get_or s (at + 1) 0
field-2 s at = rw (field-suc s at 1, add-one at, field-1 s (suc at))

pub field-4 : (s : List ℕ) (at : ℕ)
    → field s at 4 ≡ get_or s at 0 + 256 * (get_or s (at + 1) 0 + 256 * (get_or s (at + 2) 0 + 256 * get_or s (at + 3) 0))
field-4 s at =
    rw (field-suc s at 3, field-suc s (suc at) 2, field-suc s (suc (suc at)) 1, field-1 s (suc (suc (suc at))))
    (simp towards_numerals)

-- bytes past the end are those of a list that is filled up with zeros
zeros_at : (n i : ℕ) → get_or {A = ℕ} (replicate n 0) i 0 ≡ 0
zeros_at zero i = refl
zeros_at (suc n) zero = refl
zeros_at (suc n) (suc i) = zeros_at n i

get_or-zeros : (xs zs : List ℕ) (i : ℕ) → ((k : ℕ) → get_or zs k 0 ≡ 0) → get_or (xs ++ zs) i 0 ≡ get_or xs i 0
get_or-zeros [] zs i h = h i
get_or-zeros (x ∷ xs) zs zero h = refl
get_or-zeros (x ∷ xs) zs (suc i) h = get_or-zeros xs zs i h

pub get_or-filled : (xs : List ℕ) (n i : ℕ) → get_or (xs ++ drop (length xs) (replicate n 0)) i 0 ≡ get_or xs i 0
get_or-filled xs n i =
    get_or-zeros xs (drop (length xs) (replicate n 0)) i
    (λ k. get_or-drop (length xs) (replicate n 0) k 0 ∙ zeros_at n (length xs + k))

-- a field behind some bytes
pub field-behind : (xs ys : List ℕ) (at n : ℕ) → field (xs ++ ys) (length xs + at) n ≡ field ys at n
unfolding field
field-behind xs ys at n = ap (λ (r : List ℕ). value (take n r)) (drop-append-add xs ys at)

-- ---- writes

pub inside-true : (m : List ℕ) (at n : ℕ) → at + n ≤ length m → inside m at n ≡ true
unfolding inside
inside-true m at n h = le-leb (at + n) (length m) h

pub inside-false : (m : List ℕ) (at n : ℕ) → length m < at + n → inside m at n ≡ false
unfolding inside
inside-false m at n h = lt-leb (at + n) (length m) h

pub inside-le : (m : List ℕ) (at n : ℕ) → inside m at n ≡ true → at + n ≤ length m
unfolding inside
inside-le m at n e = leb-true (at + n) (length m) e

pub written-inside : (m : List ℕ) (at : ℕ) (bs : List ℕ) → at + length bs ≤ length m → written m at bs ≡ sets m at bs
unfolding written
written-inside m at bs h = rw (inside-true m at (length bs) h)

pub written-outside : (m : List ℕ) (at : ℕ) (bs : List ℕ) → length m < at + length bs → written m at bs ≡ m
unfolding written
written-outside m at bs h = rw (inside-false m at (length bs) h)

pub length-written : (m : List ℕ) (at : ℕ) (bs : List ℕ) → length (written m at bs) ≡ length m
unfolding written
length-written m at bs = go (inside m at (length bs))
  where
    go : (b : Bool) → length (cond b (sets m at bs) m) ≡ length m
    go true = length-sets m at bs
    go false = refl

-- a part of the memory that came back as bs is a write of bs
pub part-written : (m bs : List ℕ) (at n : ℕ) → n ≡ length bs → at + length bs ≤ length m
    → put_mid at n m bs ≡ written m at bs
part-written m bs at n e h =
    rw (e, drop-drop (length bs) at m)
    (sym (written-inside m at bs h ∙ sets-eq bs m at h ∙ append_assoc (take at m) bs (drop (at + length bs) m)))

-- ---- copies

-- the front of what a copy of all of s leaves is s
pub front-of-copy : (n : ℕ) (s l w : List ℕ) → n ≡ length s → l ≡ take (length s) s ++ w → take n l ≡ s
front-of-copy n s l w e h = rw (e, h, take-length s) (take-append_seam s w)

-- a copy over a list as long leaves nothing of it
pub copy-over : (s d l : List ℕ) → length s ≡ length d → l ≡ take (length s) s ++ drop (length s) d → l ≡ s
copy-over s d l e h =
    let over : length d ≤ length s = omega arith in
    h ∙ rw (take-length s, drop_of_length-le d over) (append-nil s)

-- ---- a run of stores

-- up to its end, and from there on
pub take-sets : (m vs : List ℕ) (at : ℕ) → at + length vs ≤ length m
    → take (at + length vs) (sets m at vs) ≡ take at m ++ vs
take-sets m vs at h =
    let fits : at ≤ length m = omega arith in
    ap (take (at + length vs)) (sets-eq vs m at h)
    ∙ take_at (take at m ++ vs) (drop (at + length vs) m) (at + length vs)
    (length-append (take at m) vs ∙ ap (λ (n : ℕ). n + length vs) (length-take-le at m fits))

pub drop-sets : (m vs : List ℕ) (at : ℕ) → at + length vs ≤ length m
    → drop (at + length vs) (sets m at vs) ≡ drop (at + length vs) m
drop-sets m vs at h =
    let fits : at ≤ length m = omega arith in
    ap (drop (at + length vs)) (sets-eq vs m at h)
    ∙ drop_at (take at m ++ vs) (drop (at + length vs) m) (at + length vs)
    (length-append (take at m) vs ∙ ap (λ (n : ℕ). n + length vs) (length-take-le at m fits))

-- one run behind another is one run
pub sets-append : (m a b : List ℕ) (at : ℕ) → sets m at (a ++ b) ≡ sets (sets m at a) (at + length a) b
sets-append m [] b at = ap (λ (n : ℕ). sets m n b) (sym (add-zero at))
sets-append m (x ∷ a) b at =
    sets-append (set m at x) a b (suc at)
    ∙ ap (λ (n : ℕ). sets (sets (set m at x) (suc at) a) n b)
    (sym (add-suc at (length a) ∙ sym (suc-add at (length a))))

-- the same of what two calls leave
pub wrote : (m m₁ a : List ℕ) (at : ℕ) → m₁ ≡ written m at a → at + length a ≤ length m → m₁ ≡ sets m at a
wrote m m₁ a at e h = e ∙ written-inside m at a h

pub wrote_on : (m m₁ m₂ a b : List ℕ) (at at₂ : ℕ) → m₁ ≡ sets m at a → m₂ ≡ sets m₁ at₂ b → at₂ ≡ at + length a
    → m₂ ≡ sets m at (a ++ b)
wrote_on m m₁ m₂ a b at at₂ e f q = f ∙ rw (e, q) (sym (sets-append m a b at))
