-- Words copied, a pair taken out of a table and one adopted, test by test. Assumes nothing.
use Prim.Native.Nat.{ℕ, ◌≤◌, ◌<◌}
use native.Mathlib.Omega.{arith}
use mathlib.Core.Path.{◌≡◌, refl, sym, ◌∙◌, ap}
use mathlib.Core.Logic.{◌≢◌, ◌⊎◌, inl, inr}
use mathlib.Core.Bool.{Bool, true, false}
use mathlib.Core.List.{List}
use borrow.Author.Tests.{eq-eqb, ne_eqb, lt-ltb, le-ltb}
use lib.ListN.{length, get_or, take, drop}
use Rattle.host.specs.declared.Pair.{Pair}
use Rattle.host_words.specs.Words.{word_count, other_length, pair_of}
use Rattle.table.specs.Table.{Table, place_of, entry_of, registered, with_entry, register_refusal}
use Rattle.table.specs.Adopting.{take_out, adopt_refusal, adopt}
use Rattle.table_words.specs.TableWords.{table_words, pair_at, entry_at, table_of}
use Rattle.table_words.proofs.Laws.{table-long, table_at}
use Rattle.table_register.specs.TableAdopting.{taken_into, TakesOut, Adopts}

-- ---- copying

pub record Copied (to from : List ℕ) (i : ℕ) : Type 0 where
  pub long : length from ≡ length to
  pub same : (j : ℕ) → j < i → get_or to j 0 ≡ get_or from j 0

-- ---- lengths

-- What is shown of taking and adopting with words of the right numbers and of others, put together.
abbrev pub OtherLengths : List ℕ → List ℕ → Type 0
OtherLengths w pair = (length w ≢ table_words) ⊎ (length pair ≢ word_count)

pub both_right : {A : Type 0} (w pair : List ℕ) → length w ≡ 1121 → length pair ≡ 67 → OtherLengths w pair → A
both_right w pair p q (inl n) = absurd (n p)
both_right w pair p q (inr n) = absurd (n q)

not_none : (r : ℕ) → r ≡ other_length → r ≢ 0
not_none r e z = omega arith

taken-into : (t : Table) (s r : ℕ) (p before : Pair) → r ≡ (take_out t s).refusal → (r ≡ 0 → p ≡ (take_out t s).pair)
    → (r ≢ 0 → p ≡ before) → p ≡ taken_into t s before
unfolding take_out
taken-into t s r p before e found none = go (registered t s) refl
  where
    go : (b : Bool) → registered t s ≡ b → p ≡ taken_into t s before
    go true z = rw z (found (e ∙ rw z) ∙ rw z)
    go false z =
        let three : r ≡ 3 = e ∙ rw z in
        rw z (none (λ q. omega arith))

pub takes_out : (w pair left : List ℕ) (s r : ℕ)
    → (length w ≡ table_words → length pair ≡ word_count
    → (r ≡ (take_out (table_of w) s).refusal) × (r ≡ 0 → pair_of left ≡ (take_out (table_of w) s).pair))
    → (OtherLengths w pair → r ≡ other_length) → (r ≢ 0 → left ≡ pair) → TakesOut w s pair left r
takes_out w pair left s r right others kept = (
  λ p. (
    λ q. (
      (right p q).0,
      taken-into (table_of w) s r (pair_of left) (pair_of pair) (right p q).0 (right p q).1
          (λ z. ap pair_of (kept z)),
    ),
    λ n. (others (inr n), kept (not_none r (others (inr n)))),
  ),
  λ n. (others (inl n), kept (not_none r (others (inl n)))),
  kept,
)

pub adopts : (w pair left : List ℕ) (first size memory r : ℕ)
    → (length w ≡ table_words → length pair ≡ word_count
    → (table_of left ≡ (adopt (table_of w) (pair_of pair) first size memory).table)
    × (r ≡ (adopt (table_of w) (pair_of pair) first size memory).refusal))
    → (OtherLengths w pair → r ≡ other_length) → (r ≢ 0 → left ≡ w) → Adopts w pair first size memory left r
adopts w pair left first size memory r right others kept = (
  λ p. (λ q. right p q, λ n. (kept (not_none r (others (inr n))), others (inr n))),
  λ n. (kept (not_none r (others (inl n))), others (inl n)),
  kept,
)

-- ---- taking

module _ (w : List ℕ) (s : ℕ) where
  pub take_none : s ≡ 0 → 3 ≡ (take_out (table_of w) s).refusal
  unfolding take_out registered
  take_none z = rw (eq-eqb s 0 z)

  module _ (some : s ≢ 0) (k : ℕ) (e : k ≡ place_of (table_of w).entries s) where
    pub take-unknown : 16 ≤ k → 3 ≡ (take_out (table_of w) s).refusal
    unfolding take_out registered
    take-unknown l =
        rw (
          ne_eqb s 0 some,
          le-ltb (place_of (table_of w).entries s) (length (table_of w).entries) (omega (arith, table-long w, e)),
        )

    pub taken : (left : List ℕ) (n : ℕ) → k < 16 → n ≡ 67 → left ≡ take n (drop (pair_at k) w)
        → (0 ≡ (take_out (table_of w) s).refusal) × (pair_of left ≡ (take_out (table_of w) s).pair)
    unfolding take_out registered
    taken left n l n-is is =
        let q : entry_of (table_of w) s ≡ entry_at w k = rw (← e) (table_at w k l) in
        rw (
          ne_eqb s 0 some,
          lt-ltb (place_of (table_of w).entries s) (length (table_of w).entries) (omega (arith, table-long w, e)),
          is,
          n-is,
          q,
        )
        (refl, refl)

-- ---- adopting

module _ (w pair : List ℕ) (first size memory : ℕ) where
  pub adopt-foreign : (o p : ℕ) → o ≡ (pair_of pair).own → p ≡ (table_of w).own → o ≢ p
      → (table_of w ≡ (adopt (table_of w) (pair_of pair) first size memory).table)
      × (13 ≡ (adopt (table_of w) (pair_of pair) first size memory).refusal)
  unfolding adopt adopt_refusal
  adopt-foreign o p x y ne =
      rw (ne_eqb (pair_of pair).own (table_of w).own (λ z. ne (x ∙ z ∙ sym y))) (refl, refl)

  module _ (ours : (pair_of pair).own ≡ (table_of w).own) (s : ℕ) (from : s ≡ (pair_of pair).peer) (r : ℕ)
      (e : r ≡ register_refusal (table_of w) s first size memory) where
    pub adopt-refused : r ≢ 0
        → (table_of w ≡ (adopt (table_of w) (pair_of pair) first size memory).table)
        × (r ≡ (adopt (table_of w) (pair_of pair) first size memory).refusal)
    unfolding adopt adopt_refusal
    adopt-refused ne =
        rw (eq-eqb (pair_of pair).own (table_of w).own ours, ← from, ← e, ne_eqb r 0 ne) (refl, refl)

    pub adopt-done : r ≡ 0 → (left : List ℕ) (k : ℕ) → k ≡ place_of (table_of w).entries 0
        → table_of left
        ≡ with_entry (table_of w) k (record { source = s; first = first; size = size; pair = pair_of pair })
        → (table_of left ≡ (adopt (table_of w) (pair_of pair) first size memory).table)
        × (0 ≡ (adopt (table_of w) (pair_of pair) first size memory).refusal)
    unfolding adopt adopt_refusal
    adopt-done z left k p is =
        let none : register_refusal (table_of w) (pair_of pair).peer first size memory ≡ 0 =
        ap (λ (x : ℕ). register_refusal (table_of w) x first size memory) (sym from) ∙ sym e ∙ z in
        rw (eq-eqb (pair_of pair).own (table_of w).own ours, none) (is ∙ rw (p, from) refl, refl)
