-- One line, one list of numbers: a line reads back as the numbers that it was made of, and a text that reads as numbers
-- is their line. Over any widths. Assumes nothing.
use mathlib.Core.Path.{◌≡◌, refl, sym, ◌∙◌, ap}
use mathlib.Core.Bool.{Bool, true, false, cond, ◌&&◌}
use mathlib.Core.List.{List, [], ◌∷◌, ◌++◌, append_assoc}
use mathlib.Core.Option.{Option, none, some}
use Prim.Native.Nat.{ℕ, zero, suc, ◌+◌, ◌-◌, ◌*◌, ◌/◌, ◌%◌, ◌^◌, ◌≤◌, ◌<◌}
use native.Mathlib.Nat.{suc-mul, mul-div_cancel}
use native.Mathlib.Decide.{dec_lt}
use native.Mathlib.Omega.{arith}
use borrow.Author.Tests.{le-leb, lt-leb, lt-ltb, le-ltb, eqb-true, ltb-true, leb-true}
use lib.Dec.{eqb, leb, ltb}
use lib.ListN.{length, take, drop, length-append, length-take, length-drop, drop_of_length-le, take-append-drop}
use lib.Seq.{drop-drop, drop_at, take_at}
use Rattle.octets.specs.Octets.{Bytes, little, value, field}
use Rattle.octets.proofs.Octets.{length-little, value-little, field_lt}
use Rattle.hexadecimal.specs.Fields.{
  digit_of,
  value_of,
  hex,
  joined,
  unhex,
  laid,
  numbers_from,
  total,
  Fitting,
  no_more,
  and,
  AllFitting,
  no_line,
  line,
  line_of,
  lines_of,
  line_length,
  numbers_of,
  read_line,
  followed,
  read_lines,
  read_all,
}

-- ---- digits

pub both : (a b : Bool) → (a && b) ≡ true → (a ≡ true) × (b ≡ true)
both true true e = (refl, refl)
both true false e = (refl, e)
both false b e = (e, absurd (let z : ◌≡◌ {A = ℕ} 0 1 = cc in omega arith))

pub digit_value : (c : ℕ) → value_of c < 16 → digit_of (value_of c) ≡ c
unfolding value_of digit_of
digit_value c h = go (leb 48 c && leb c 57) refl (leb 97 c && leb c 102) refl h
  where
    go : (a : Bool) → (leb 48 c && leb c 57) ≡ a → (b : Bool) → (leb 97 c && leb c 102) ≡ b
        → cond a (c - 48) (cond b (c - 87) 16) < 16 → digit_of (cond a (c - 48) (cond b (c - 87) 16)) ≡ c
    go true p b q k =
        let r = both (leb 48 c) (leb c 57) p in
        let low = leb-true 48 c r.0 in
        let high = leb-true c 57 r.1 in
        rw (lt-ltb (c - 48) 10 (omega arith)) (omega arith)
    go false p true q k =
        let r = both (leb 97 c) (leb c 102) q in
        let low = leb-true 97 c r.0 in
        let high = leb-true c 102 r.1 in
        rw (le-ltb (c - 87) 10 (omega arith)) (omega arith)
    go false p false q k = absurd (omega arith)

pub value-digit : (d : ℕ) → d < 16 → value_of (digit_of d) ≡ d
unfolding value_of digit_of
value-digit d h = go (dec_lt d 10)
  where
    go : Dec (d < 10) → value_of (digit_of d) ≡ d
    go (yes l) =
        rw (lt-ltb d 10 l, le-leb 48 (48 + d) (omega arith), le-leb (48 + d) 57 (omega arith)) (omega arith)
    go (no l) =
        rw (
          le-ltb d 10 (omega arith),
          le-leb 48 (87 + d) (omega arith),
          lt-leb (87 + d) 57 (omega arith),
          le-leb 97
              (87 + d) (omega arith),
          le-leb (87 + d) 102 (omega arith),
        )
        (omega arith)

-- no character stands past the end of a text
none-past : value_of 0 ≡ 16
unfolding value_of
none-past = refl

-- ---- bytes

pub length-hex : (bs : List ℕ) → length (hex bs) ≡ 2 * length bs
unfolding hex
length-hex [] = refl
length-hex (b ∷ bs) = omega (arith, length-hex bs)

joined-some : (h l : ℕ) (o : Option (List ℕ)) (bs : List ℕ) → joined h l o ≡ some bs
    → (r : List ℕ) × (o ≡ some r) × (h < 16) × (l < 16) × (bs ≡ (h * 16 + l) ∷ r)
joined-some h l none bs e = absurd (let z : ◌≡◌ {A = ℕ} 0 1 = cc in omega arith)
joined-some h l (some r) bs e = go (ltb h 16 && ltb l 16) refl e
  where
    go : (b : Bool) → (ltb h 16 && ltb l 16) ≡ b → cond b (some ((h * 16 + l) ∷ r)) none ≡ some bs
        → (q : List ℕ) × (some r ≡ some q) × (h < 16) × (l < 16) × (bs ≡ (h * 16 + l) ∷ q)
    go true p k =
        let t = both (ltb h 16) (ltb l 16) p in
        (r, refl, ltb-true h 16 t.0, ltb-true l 16 t.1, cc)
    go false p k = absurd (let z : ◌≡◌ {A = ℕ} 0 1 = cc in omega arith)

bytes-tail : (b : ℕ) (bs : List ℕ) → Bytes (b ∷ bs) → Bytes bs
bytes-tail b bs f i = f (suc i)

pub unhex-hex : (bs rest : List ℕ) → Bytes bs → unhex (length bs) (hex bs ++ 10 ∷ rest) ≡ some bs
unfolding unhex hex
unhex-hex [] rest f = refl
unhex-hex (b ∷ bs) rest f =
    let small : b < 256 = f 0 in
    let high = value-digit (b / 16) (omega arith) in
    let low = value-digit (b % 16) (omega arith) in
    let ih = unhex-hex bs rest (bytes-tail b bs f) in
    let e : b / 16 * 16 + b % 16 ≡ b = omega arith in
    rw (high, low, ih, lt-ltb (b / 16) 16 (omega arith), lt-ltb (b % 16) 16 (omega arith))
    (ap (λ (x : ℕ). some (x ∷ bs)) e)

-- what a text begins with where it begins with bytes and a newline
pub record Spelt (n : ℕ) (text bs : List ℕ) : Type 0 where
  pub size : length bs ≡ n
  pub bytes : Bytes bs
  pub is : text ≡ hex bs ++ 10 ∷ drop (2 * n + 1) text

no_bytes : Bytes []
no_bytes i = omega arith

bytes-cons : (b : ℕ) (bs : List ℕ) → b < 256 → Bytes bs → Bytes (b ∷ bs)
bytes-cons b bs h f zero = h
bytes-cons b bs h f (suc i) = f i

pub hex-unhex : (n : ℕ) (text bs : List ℕ) → unhex n text ≡ some bs → Spelt n text bs
unfolding unhex hex
hex-unhex zero [] bs e = absurd (let z : ◌≡◌ {A = ℕ} 0 1 = cc in omega arith)
hex-unhex zero (c ∷ text) bs e = go (eqb c 10) refl e
  where
    go : (b : Bool) → eqb c 10 ≡ b → cond b (some []) none ≡ some bs → Spelt 0 (c ∷ text) bs
    go true p k =
        let q : [] ≡ bs = cc in
        let is10 = eqb-true c 10 p in
        rw (← q) (record { size = refl; bytes = no_bytes; is = ap (λ (x : ℕ). x ∷ text) is10 })
    go false p k = absurd (let z : ◌≡◌ {A = ℕ} 0 1 = cc in omega arith)
hex-unhex (suc n) [] bs e =
    let j = joined-some (value_of 0) (value_of 0) (unhex n []) bs e in
    absurd (omega (arith, none-past, j.2))
hex-unhex (suc n) (c ∷ []) bs e =
    let j = joined-some (value_of c) (value_of 0) (unhex n []) bs e in
    absurd (omega (arith, none-past, j.3))
hex-unhex (suc n) (c ∷ d ∷ text) bs e =
    let j = joined-some (value_of c) (value_of d) (unhex n text) bs e in
    let r : List ℕ = j.0 in
    let high : value_of c < 16 = j.2 in
    let low : value_of d < 16 = j.3 in
    let ih = hex-unhex n text r j.1 in
    let b : ℕ = value_of c * 16 + value_of d in
    let q : b / 16 ≡ value_of c = omega arith in
    let m : b % 16 ≡ value_of d = omega arith in
    let two : 2 * suc n + 1 ≡ suc (suc (2 * n + 1)) = omega arith in
    rw j.4
    (record {
      size = ap suc ih.size;
      bytes = bytes-cons b r (omega arith) ih.bytes;
      is = rw (q, m, digit_value c high, digit_value d low, two) (ap (λ (t : List ℕ). c ∷ d ∷ t) ih.is);
    })

-- ---- numbers

pub length-laid : {ws xs : List ℕ} → Fitting ws xs → length (laid ws xs) ≡ total ws
unfolding laid total
length-laid no_more = refl
length-laid (and {w} {x} {ws} {xs} h f) =
    length-append (little w x) (laid ws xs) ∙ rw (length-little w x, length-laid f)

bytes-append : (a b : List ℕ) → Bytes a → Bytes b → Bytes (a ++ b)
bytes-append [] b f g i = g i
bytes-append (x ∷ a) b f g zero = f 0
bytes-append (x ∷ a) b f g (suc i) = bytes-append a b (bytes-tail x a f) g i

bytes-little : (w x : ℕ) → Bytes (little w x)
unfolding little
bytes-little zero x i = omega arith
bytes-little (suc w) x zero = omega arith
bytes-little (suc w) x (suc i) = bytes-little w (x / 256) i

pub bytes-laid : (ws xs : List ℕ) → Bytes (laid ws xs)
unfolding laid
bytes-laid [] xs = no_bytes
bytes-laid (w ∷ ws) [] = no_bytes
bytes-laid (w ∷ ws) (x ∷ xs) = bytes-append (little w x) (laid ws xs) (bytes-little w x) (bytes-laid ws xs)

-- the number at the seam of what stands before it and its own bytes
field-little : (before rest : List ℕ) (w x : ℕ) → x < 256 ^ w
    → field (before ++ little w x ++ rest) (length before) w ≡ x
unfolding field
field-little before rest w x h =
    let e = append_assoc before (little w x) rest in
    let d = drop_at before (little w x ++ rest) (length before) refl in
    let t = take_at (little w x) rest w (length-little w x) in
    rw (e, d, t) (value-little w x h)

-- numbers read back from where they were laid
numbers-laid-from : {ws xs : List ℕ} (before : List ℕ) → Fitting ws xs
    → numbers_from (length before) ws (before ++ laid ws xs) ≡ xs
unfolding numbers_from laid
numbers-laid-from before no_more = refl
numbers-laid-from before (and {w} {x} {ws} {xs} h f) =
    let one : field (before ++ (little w x ++ laid ws xs)) (length before) w ≡ x =
    rw (← append_assoc before (little w x) (laid ws xs)) (field-little before (laid ws xs) w x h) in
    let next : length before + w ≡ length (before ++ little w x) =
    rw (length-append before (little w x), length-little w x) in
    rw (one, next, ← append_assoc before (little w x) (laid ws xs))
    (ap (λ (t : List ℕ). x ∷ t) (numbers-laid-from (before ++ little w x) f))

pub numbers-laid : {ws xs : List ℕ} → Fitting ws xs → numbers_from 0 ws (laid ws xs) ≡ xs
numbers-laid f = numbers-laid-from [] f

-- bytes laid anew from the number that they are
little-value : (bs : List ℕ) → Bytes bs → little (length bs) (value bs) ≡ bs
unfolding little value
little-value [] f = refl
little-value (b ∷ bs) f =
    let small : b < 256 = f 0 in
    let low : (b + 256 * value bs) % 256 ≡ b = omega arith in
    let rest : (b + 256 * value bs) / 256 ≡ value bs = omega arith in
    rw (low, rest) (ap (λ (t : List ℕ). b ∷ t) (little-value bs (bytes-tail b bs f)))

bytes_take : (n : ℕ) (bs : List ℕ) → Bytes bs → Bytes (take n bs)
bytes_take zero bs f i = omega arith
bytes_take (suc n) [] f i = omega arith
bytes_take (suc n) (b ∷ bs) f zero = f 0
bytes_take (suc n) (b ∷ bs) f (suc i) = bytes_take n bs (bytes-tail b bs f) i

bytes_drop : (n : ℕ) (bs : List ℕ) → Bytes bs → Bytes (drop n bs)
bytes_drop zero bs f i = f i
bytes_drop (suc n) [] f i = omega arith
bytes_drop (suc n) (b ∷ bs) f i = bytes_drop n bs (bytes-tail b bs f) i

little-field : (bs : List ℕ) (at w : ℕ) → Bytes bs → at + w ≤ length bs → little w (field bs at w) ≡ take w (drop at bs)
unfolding field
little-field bs at w f h =
    let n : length (take w (drop at bs)) ≡ w = simp (length-take, length-drop) (omega arith) in
    rw n at (little-value (take w (drop at bs)) (bytes_take w (drop at bs) (bytes_drop at bs f)))

laid-numbers-from : (ws : List ℕ) (at : ℕ) (bs : List ℕ) → Bytes bs → at + total ws ≡ length bs
    → laid ws (numbers_from at ws bs) ≡ drop at bs
unfolding laid numbers_from total
laid-numbers-from [] at bs f h =
    let over : length bs ≤ at = omega arith in
    sym (drop_of_length-le bs over)
laid-numbers-from (w ∷ ws) at bs f h =
    let ih = laid-numbers-from ws (at + w) bs f (omega arith) in
    let one = little-field bs at w f (omega arith) in
    rw (ih, one, ← drop-drop w at bs) (take-append-drop w (drop at bs))

pub laid-numbers : (ws bs : List ℕ) → Bytes bs → length bs ≡ total ws → laid ws (numbers_from 0 ws bs) ≡ bs
laid-numbers ws bs f h = laid-numbers-from ws 0 bs f (omega arith)

pub numbers_fit : (ws : List ℕ) (at : ℕ) (bs : List ℕ) → Bytes bs → Fitting ws (numbers_from at ws bs)
unfolding numbers_from
numbers_fit [] at bs f = no_more
numbers_fit (w ∷ ws) at bs f = and (field_lt bs at w f) (numbers_fit ws (at + w) bs f)

-- ---- a line

pub length-line : {ws xs : List ℕ} → Fitting ws xs → length (line_of ws xs) ≡ line_length ws
unfolding line_of line_length
length-line {ws} {xs} f =
    length-append (hex (laid ws xs)) (10 ∷ []) ∙ rw (length-hex (laid ws xs), length-laid f)

line-then : (ws xs rest : List ℕ) → line_of ws xs ++ rest ≡ hex (laid ws xs) ++ 10 ∷ rest
unfolding line_of
line-then ws xs rest = append_assoc (hex (laid ws xs)) (10 ∷ []) rest

-- a line that was written is read, and the rest stands behind it
pub line_reads : {ws xs : List ℕ} (rest : List ℕ) → Fitting ws xs → read_line ws (line_of ws xs ++ rest) ≡ some xs
unfolding read_line
line_reads {ws} {xs} rest f =
    let u = rw (length-laid f) at (unhex-hex (laid ws xs) rest (bytes-laid ws xs)) in
    rw (line-then ws xs rest, u, numbers-laid f)

pub line-behind : {ws xs : List ℕ} (rest : List ℕ) → Fitting ws xs → drop (line_length ws) (line_of ws xs ++ rest) ≡ rest
line-behind {ws} {xs} rest f = drop_at (line_of ws xs) rest (line_length ws) (length-line f)

-- what reads as numbers is their line
pub record Line (ws text xs : List ℕ) : Type 0 where
  pub fitting : Fitting ws xs
  pub is : text ≡ line_of ws xs ++ drop (line_length ws) text

numbers_of-some : (ws : List ℕ) (o : Option (List ℕ)) (xs : List ℕ) → numbers_of ws o ≡ some xs
    → (bs : List ℕ) × (o ≡ some bs) × (xs ≡ numbers_from 0 ws bs)
numbers_of-some ws none xs e = absurd (let z : ◌≡◌ {A = ℕ} 0 1 = cc in omega arith)
numbers_of-some ws (some bs) xs e = (bs, refl, cc)

line-spelt : (ws text xs bs : List ℕ) → xs ≡ numbers_from 0 ws bs → Spelt (total ws) text bs → Line ws text xs
unfolding line_length
line-spelt ws text xs bs e s =
    let back : laid ws xs ≡ bs = rw e (laid-numbers ws bs s.bytes s.size) in
    record {
      fitting = rw e (numbers_fit ws 0 bs s.bytes);
      is = rw (line-then ws xs (drop (2 * total ws + 1) text), back) s.is;
    }

pub read-line : (ws text xs : List ℕ) → read_line ws text ≡ some xs → Line ws text xs
unfolding read_line
read-line ws text xs e =
    let j = numbers_of-some ws (unhex (total ws) text) xs e in
    line-spelt ws text xs j.0 j.2 (hex-unhex (total ws) text j.0 j.1)

-- ---- lines

pub length-lines : {ws : List ℕ} {lines : List (List ℕ)} → AllFitting ws lines
    → length (lines_of ws lines) ≡ length lines * line_length ws
unfolding lines_of
length-lines no_line = omega arith
length-lines {ws} (line {xs} {lines} f fs) =
    length-append (line_of ws xs) (lines_of ws lines) ∙ rw (length-line f, length-lines fs)
    (omega (arith, suc-mul (length lines) (line_length ws)))

lines-read-of : {ws : List ℕ} {lines : List (List ℕ)} → AllFitting ws lines
    → read_lines (length lines) ws (lines_of ws lines) ≡ some lines
unfolding read_lines lines_of
lines-read-of no_line = refl
lines-read-of {ws} (line {xs} {lines} f fs) =
    rw (line_reads (lines_of ws lines) f, line-behind (lines_of ws lines) f, lines-read-of fs)

length-positive : (ws : List ℕ) → 0 < line_length ws
unfolding line_length
length-positive ws = omega arith

pub lines-read : {ws : List ℕ} {lines : List (List ℕ)} → AllFitting ws lines
    → read_all ws (lines_of ws lines) ≡ some lines
unfolding read_all
lines-read {ws} {lines} fs =
    rw (length-lines fs, mul-div_cancel (length lines) (length-positive ws)) (lines-read-of fs)

pub record Lines (ws text : List ℕ) (lines : List (List ℕ)) : Type 0 where
  pub fitting : AllFitting ws lines
  pub is : text ≡ lines_of ws lines

followed-some : (o : Option (List ℕ)) (r : Option (List (List ℕ))) (lines : List (List ℕ)) → followed o r ≡ some lines
    → (xs : List ℕ) × (rest : List (List ℕ)) × (o ≡ some xs) × (r ≡ some rest) × (lines ≡ xs ∷ rest)
followed-some none r lines e = absurd (let z : ◌≡◌ {A = ℕ} 0 1 = cc in omega arith)
followed-some (some xs) none lines e = absurd (let z : ◌≡◌ {A = ℕ} 0 1 = cc in omega arith)
followed-some (some xs) (some rest) lines e = (xs, rest, refl, refl, cc)

lines_then : (ws text : List ℕ) (lines : List (List ℕ)) (xs : List ℕ) (rest : List (List ℕ)) → lines ≡ xs ∷ rest
    → Line ws text xs → Lines ws (drop (line_length ws) text) rest → Lines ws text lines
unfolding lines_of
lines_then ws text lines xs rest e one more =
    rw e
    (record {
      fitting = line one.fitting more.fitting;
      is = one.is ∙ ap (λ (t : List ℕ). line_of ws xs ++ t) more.is;
    })

pub read-lines-of : (k : ℕ) (ws text : List ℕ) (lines : List (List ℕ)) → read_lines k ws text ≡ some lines
    → Lines ws text lines
unfolding read_lines lines_of
read-lines-of zero ws [] lines e =
    let q : [] ≡ lines = cc in
    rw (← q) (record { fitting = no_line; is = refl })
read-lines-of zero ws (c ∷ text) lines e = absurd (let z : ◌≡◌ {A = ℕ} 0 1 = cc in omega arith)
read-lines-of (suc k) ws text lines e =
    let j = followed-some (read_line ws text) (read_lines k ws (drop (line_length ws) text)) lines e in
    lines_then ws text lines j.0 j.1 j.4 (read-line ws text j.0 j.2)
    (read-lines-of k ws (drop (line_length ws) text) j.1 j.3)

pub read-lines : (ws text : List ℕ) (lines : List (List ℕ)) → read_all ws text ≡ some lines → Lines ws text lines
unfolding read_all
read-lines ws text lines e = read-lines-of (length text / line_length ws) ws text lines e
