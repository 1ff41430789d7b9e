-- The entries of a pair: reading all of them from words, and storing all of them there. Assumes nothing.
use mathlib.Core.Path.{◌≡◌, refl, sym, ◌∙◌, ap, subst}
use mathlib.Core.List.{List}
use Prim.Native.Nat.{ℕ, zero, suc, ◌+◌, ◌%◌, ◌≤◌, ◌<◌}
use native.Mathlib.Decide.{dec_le}
use native.Mathlib.Omega.{arith}
use lib.ListN.{length, get_or, set}
use lib.Seq.{get_or-set_same, get_or-set_other}
use Rattle.std.specs.Fn.{Called, Mut}
use Rattle.std.specs.Array.{IsFromFnResultFrom, IsFromFnResult}
use Rattle.host.specs.declared.Open.{Open}
use Rattle.host.specs.Terms.{free}
use Rattle.host_words.specs.declared.Head.{Head}
use Rattle.host_words.specs.Words.{entry_of, pair_of, head_part, joined}
use Rattle.host_words.proofs.Words.{table-all, length-table, entry_at}
use Rattle.host_words.specs.Updating.{HoldsEntry}

-- ---- reading

-- where no call changes the closure, an array made by calls holds the value of each call at its index
made_at : {F A : Type 0} (g : Mut F (ℕ × Unit {0}) A) (d : A) (value : ℕ → A) (f : F) (n : ℕ)
    → ((i : ℕ) (y : A) (q : F) → i < n → Called g f (i, tt) y q → (y ≡ value i) × (q ≡ f))
    → (ys : List A) (m i : ℕ) → i + m ≤ n → IsFromFnResultFrom g f ys i m → (k : ℕ) → i ≤ k → k < i + m
    → get_or ys k d ≡ value k
made_at g d value f n gives ys zero i room r k low high = absurd (omega arith)
made_at {F} g d value f n gives ys (suc m) i room r k low high =
    go (dec_le k i)
    (λ on. made_at g d value f n gives ys m (i + 1) (omega arith)
    (subst (λ (p : F). IsFromFnResultFrom g p ys (i + 1) m) one.1 r.4) k on
    (omega arith))
  where
    one : (r.1 ≡ value i) × (r.0 ≡ f)
    one = gives i r.1 r.0 (omega arith) r.3

    go : Dec (k ≤ i) → (i + 1 ≤ k → get_or ys k d ≡ value k) → get_or ys k d ≡ value k
    go (yes here) later =
        let e : k ≡ i = omega arith in
        rw e (r.2.1 d ∙ one.0)
    go (no on) later = later (omega arith)

-- so the table of the words is made entry by entry
pub table-made : {F : Type 0} (g : Mut F (ℕ × Unit {0}) Open) (w : List ℕ) (f : F)
    → ((i : ℕ) (y : Open) (q : F) → i < 32 → Called g f (i, tt) y q → (y ≡ entry_of w (i % 32)) × (q ≡ f))
    → (ys : List Open) → IsFromFnResult g f ys 32 → ys ≡ (pair_of w).table
table-made g w f gives ys made =
    table-all w ys made.long
    (λ j lt.
    let here : j % 32 ≡ j = omega (arith, lt) in
    let same : get_or ys j free ≡ entry_of w (j % 32) =
    made_at g free (λ i. entry_of w (i % 32)) f 32 gives ys 32 0 (omega arith) made.each j (omega arith)
    (omega (arith, lt)) in
    rw here at same)

-- ---- storing

-- the first i entries of the table are in the words
pub record Storing (w₀ w : List ℕ) (table : List Open) (i : ℕ) : Type 0 where
  pub most : i ≤ 32
  pub same : length w ≡ length w₀
  pub head : length w₀ ≡ 67 → head_part (pair_of w) ≡ head_part (pair_of w₀)
  pub stored : length w₀ ≡ 67 → (k : ℕ) → k < i → get_or (pair_of w).table k free ≡ get_or table k free

pub storing-start : (w : List ℕ) (table : List Open) → Storing w w table 0
storing-start w table =
    record { most = omega arith; same = refl; head = λ e. refl; stored = λ e k lt. absurd (omega (arith, lt)) }

pub storing-turn : {w₀ w : List ℕ} {table : List Open} {i : ℕ} → Storing w₀ w table i → (left : List ℕ) (o : Open)
    → i < 32
    → length left ≡ length w → o ≡ get_or table i free → HoldsEntry w left (i % 32) o → Storing w₀ left table (i + 1)
storing-turn {w₀} {w} {table} {i} g left o h l o_is p =
    record {
      most = omega (arith, h);
      same = l ∙ g.same;
      head = λ e. rw (p (g.same ∙ e)) (g.head e);
      stored = λ e k lt. rw (p (g.same ∙ e)) (go e k (dec_le i k) lt);
    }
  where
    here : i % 32 ≡ i
    here = omega (arith, h)

    go : length w₀ ≡ 67 → (k : ℕ) → Dec (i ≤ k) → k < i + 1
        → get_or (set (pair_of w).table (i % 32) o) k free ≡ get_or table k free
    go e k (yes m) lt =
        let same : k ≡ i = omega (arith, m, lt) in
        rw (here, same) (get_or-set_same (pair_of w).table i o free (omega (arith, h, length-table w)) ∙ o_is)
    go e k (no m) lt =
        get_or-set_other (pair_of w).table (i % 32) k o free (λ q. m (omega (arith, q, here)))
        ∙ g.stored e k (omega (arith, m))

pub storing-done : {w₀ w : List ℕ} {table : List Open} {i : ℕ} → Storing w₀ w table i → 32 ≤ i → length table ≡ 32
    → length w₀ ≡ 67 → pair_of w ≡ joined (head_part (pair_of w₀)) table
storing-done {w₀} {w} {table} {i} g h l e =
    let t : table ≡ (pair_of w).table =
    table-all w table l (λ j lt. sym (g.stored e j (omega (arith, lt, h))) ∙ entry_at w j lt) in
    ap (λ (x : Head). joined x (pair_of w).table) (g.head e) ∙ rw (← t)
