-- The premise on writes as a test that the checker runs, with its soundness; and demand 3 applied to a list that passes
-- all premises, of a card 2 and a host 1. Assumes nothing.
use Prim.Native.Nat.{ℕ, zero, suc, ◌+◌, ◌*◌, ◌<◌}
use native.Mathlib.Omega.{arith}
use mathlib.Core.Path.{◌≡◌, refl, sym, subst}
use mathlib.Core.Logic.{◌⊎◌, inl, inr}
use mathlib.Core.Bool.{Bool, true, false, ◌&&◌, ◌||◌, and-eq-true_iff}
use mathlib.Core.List.Memᴰ
use mathlib.Core.List.{List, [], ◌∷◌, Memᴰ}
use borrow.Author.Tests.{leb-true, eqb-true}
use lib.Dec.{T, leb, eqb, lit<}
use lib.ListN.{length, replicate}
use Rattle.delivery.specs.Book.{
  MessageRecord,
  Transaction,
  Book,
  added_messages,
  transaction_at,
  Write,
  empty_book,
  book_of,
}
use Rattle.delivery.specs.System.{Implementation, Event, RunResult, run, initial}
use Rattle.delivery.specs.Demand3.{
  all_typed,
  not_too_late,
  Apart,
  ApartFrom,
  AllApart,
  NoByteTwice,
  writes_made,
  data_end,
  completion_end,
  WritesAllowed,
  outcome_of,
  Guarantees,
  Demand3For,
}
use Rattle.delivery.proofs.Lists.Same.{T_true, same_book, same-book}

-- ---- tests and what they show

unfoldable pub every : {A : Type 0} → (A → Bool) → List A → Bool
every p [] = true
every p (x ∷ xs) = p x && every p xs

every-by : {A : Type 0} (p : A → Bool) (xs : List A) → every p xs ≡ true → (x : A) → Memᴰ x xs → p x ≡ true
unfolding every
every-by p [] e x m = absurd (Memᴰ.not-nil m)
every-by p (y ∷ ys) e x m = go (every-by p ys ((and-eq-true_iff (p y) (every p ys)).0 e).1 x) (Memᴰ.cases_cons m)
  where
    go : (Memᴰ x ys → p x ≡ true) → (x ≡ y) ⊎ Memᴰ x ys → p x ≡ true
    go r (inl q) = subst (λ z. p z ≡ true) (sym q) ((and-eq-true_iff (p y) (every p ys)).0 e).0
    go r (inr k) = r k

unfoldable pub below : (ℕ → Bool) → ℕ → Bool
below p zero = true
below p (suc n) = p 0 && below (λ i. p (suc i)) n

below_by : (p : ℕ → Bool) (n : ℕ) → below p n ≡ true → (i : ℕ) → i < n → p i ≡ true
unfolding below
below_by p zero e i h = absurd (omega arith)
below_by p (suc n) e zero h = ((and-eq-true_iff (p 0) (below (λ i. p (suc i)) n)).0 e).0
below_by p (suc n) e (suc i) h =
    below_by (λ i. p (suc i)) n ((and-eq-true_iff (p 0) (below (λ i. p (suc i)) n)).0 e).1 i (omega arith)

-- ---- writes with no byte in common

unfoldable pub apart : Write → Write → Bool
apart w v = leb (w.at + length w.bytes) v.at || leb (v.at + length v.bytes) w.at

apart_by : (w v : Write) → apart w v ≡ true → Apart w v
unfolding apart Apart
apart_by w v e x p q = go (leb (w.at + length w.bytes) v.at) refl e
  where
    go : (y : Bool) → leb (w.at + length w.bytes) v.at ≡ y → (y || leb (v.at + length v.bytes) w.at)
        ≡ true → ⊥
    go true h z = omega (arith, leb-true (w.at + length w.bytes) v.at h)
    go false h z = omega (arith, leb-true (v.at + length v.bytes) w.at z)

apart_from-by : (w : Write) (vs : List Write) → every (apart w) vs ≡ true → ApartFrom w vs
unfolding every
apart_from-by w [] e = tt
apart_from-by w (v ∷ vs) e =
    let b = (and-eq-true_iff (apart w v) (every (apart w) vs)).0 e in
    (apart_by w v b.0, apart_from-by w vs b.1)

abbrev pub all_apart : List Write → List Write → Bool
all_apart ws vs = every (λ w. every (apart w) vs) ws

all_apart-by : (ws vs : List Write) → all_apart ws vs ≡ true → AllApart ws vs
unfolding every
all_apart-by [] vs e = tt
all_apart-by (w ∷ ws) vs e =
    let b = (and-eq-true_iff (every (apart w) vs) (all_apart ws vs)).0 e in
    (apart_from-by w vs b.0, all_apart-by ws vs b.1)

unfoldable pub no_byte_twice : List Write → Bool
no_byte_twice [] = true
no_byte_twice (w ∷ ws) = every (apart w) ws && no_byte_twice ws

no_byte_twice-by : (ws : List Write) → no_byte_twice ws ≡ true → NoByteTwice ws
unfolding no_byte_twice
no_byte_twice-by [] e = tt
no_byte_twice-by (w ∷ ws) e =
    let b = (and-eq-true_iff (every (apart w) ws) (no_byte_twice ws)).0 e in
    (apart_from-by w ws b.0, no_byte_twice-by ws b.1)

-- ---- the premise on writes

module _ (b : Book) where
  abbrev pub data_in : MessageRecord → Bool
  data_in e = leb (data_end e) (length b.start)

  abbrev pub completion_in : Transaction → Bool
  completion_in d = leb (completion_end d) (length b.start)

  -- transaction j against those that were unfinished when it was opened
  abbrev pub apart_at : ℕ → Bool
  apart_at j = every (λ i. all_apart (writes_made b i) (writes_made b j)) (transaction_at b j).unfinished_at_opening

  unfoldable pub writes_allowed : Bool
  writes_allowed =
      (every data_in (added_messages b) && every completion_in b.transactions)
      && (below (λ i. no_byte_twice (writes_made b i)) (length b.transactions)
      && below apart_at (length b.transactions))

  pub allowed-by : writes_allowed ≡ true → WritesAllowed b
  unfolding writes_allowed
  allowed-by e =
      let h = (and-eq-true_iff _ _).0 e in
      let k = (and-eq-true_iff _ _).0 h.0 in
      let l = (and-eq-true_iff _ _).0 h.1 in
      record {
        inside = record {
          data_inside = λ x m. leb-true _ _ (every-by data_in (added_messages b) k.0 x m);
          completion_inside = λ x m. leb-true _ _ (every-by completion_in b.transactions k.1 x m);
        };
        apart = record {
          once_each = λ i h.
              no_byte_twice-by (writes_made b i)
              (below_by (λ i. no_byte_twice (writes_made b i)) (length b.transactions) l.0 i h);
          apart_together = λ i j h g m.
              all_apart-by (writes_made b i) (writes_made b j)
              (every-by (λ i. all_apart (writes_made b i) (writes_made b j)) (transaction_at b j).unfinished_at_opening
              (below_by apart_at (length b.transactions) l.1 j g) i m);
        };
      }

-- ---- a list of calls

-- A slot buffer for frames of at most so many bytes. The checker walks through it at each call, so that lists are run
-- with the least that their frames need: 36 bytes for one message with two bytes.
abbrev pub slots_of : ℕ → List ℕ
slots_of limit = replicate (64 * limit) 0

abbrev pub slots₀ : List ℕ
slots₀ = slots_of 64

abbrev pub runs : ℕ → Implementation → List ℕ → List Event → RunResult
runs limit e memory events = run e (initial e 2 1 limit (slots_of limit) memory) events

abbrev pub booked : ℕ → Implementation → List ℕ → List Event → Book
booked limit e memory events = book_of memory (runs limit e memory events).observations

-- Whether a list passes all premises, and its book: in one value, so that the checker runs the list once for both.
pub record Judged : Type 0 where
  pub passed : Bool
  pub book : Book

unfoldable pub judge : ℕ → Implementation → List ℕ → List Event → Judged
judge limit e memory events =
    let card = e.card_end.card_opening 2 1 limit (slots_of limit) in
    let host = e.host_end.host_opening 1 2 in
    let shown = (runs limit e memory events).observations in
    let b = book_of memory shown in
    record {
      passed = (eqb card.refusal 0 && eqb host.refusal.number 0)
          && (all_typed events && (not_too_late (empty_book memory) shown && writes_allowed b));
      book = b;
    }

abbrev pub passes : ℕ → Implementation → List ℕ → List Event → Bool
passes limit e memory events = (judge limit e memory events).passed

pub applied : (limit : ℕ) (e : Implementation) → Demand3For e → (memory : List ℕ) (events : List Event)
    → T (passes limit e memory events)
    → Guarantees (outcome_of (runs limit e memory events).system) (booked limit e memory events)
unfolding Demand3For judge
applied limit e d memory events p =
    let g = (and-eq-true_iff _ _).0 (T_true _ p) in
    let o = (and-eq-true_iff _ _).0 g.0 in
    let t = (and-eq-true_iff _ _).0 g.1 in
    let k = (and-eq-true_iff _ _).0 t.1 in
    d 2 1 limit (slots_of limit) memory events
    (record {
      card_fits = lit< tt;
      host_fits = lit< tt;
      card_opens = eqb-true _ _ o.0;
      host_opens = eqb-true _ _ o.1;
    })
    t.0 k.0 (allowed-by (booked limit e memory events) k.1)

-- A list passes all premises and has this book: a test as well, which fails at the first number that differs.
unfoldable pub judged_as : Judged → Book → Bool
judged_as j b = j.passed && same_book j.book b

pub judged-as : (passed : Bool) (book b : Book) → T (passed && same_book book b) → T passed × (book ≡ b)
judged-as true book b t = (tt, same-book book b (T_true (same_book book b) t))
judged-as false book b t = absurd t

pub judged-passed : (limit : ℕ) (e : Implementation) (memory : List ℕ) (events : List Event) (b : Book)
    → T (judged_as (judge limit e memory events) b) → T (passes limit e memory events)
unfolding judged_as
judged-passed limit e memory events b t =
    (judged-as (passes limit e memory events) (judge limit e memory events).book b t).0

pub judged-book : (limit : ℕ) (e : Implementation) (memory : List ℕ) (events : List Event) (b : Book)
    → T (judged_as (judge limit e memory events) b) → booked limit e memory events ≡ b
unfolding judge judged_as
judged-book limit e memory events b t =
    (judged-as (passes limit e memory events) (booked limit e memory events) b t).1

-- Demand 3 read over a list that passes, with the book written out.
pub record Read (limit : ℕ) (e : Implementation) (memory : List ℕ) (events : List Event) (b : Book) : Type 0 where
  pub guaranteed : Guarantees (outcome_of (runs limit e memory events).system) (booked limit e memory events)
  pub book_is : booked limit e memory events ≡ b

pub read_by : (limit : ℕ) (e : Implementation) → Demand3For e → (memory : List ℕ) (events : List Event) (b : Book)
    → T (judged_as (judge limit e memory events) b) → Read limit e memory events b
read_by limit e d memory events b t = record {
  guaranteed = applied limit e d memory events (judged-passed limit e memory events b t);
  book_is = judged-book limit e memory events b t;
}
