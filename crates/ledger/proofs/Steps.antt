-- Laws of one reading, and of readings one after another. Assumes nothing.
use Prim.Native.Nat.{ℕ, ◌+◌, ◌%◌, ◌≤◌, ◌<◌}
use native.Mathlib.Decide.{dec_le, dec_lt}
use native.Mathlib.Omega.{arith}
use mathlib.Core.Path.{◌≡◌, refl, ap, ◌∙◌}
use mathlib.Core.Logic.{◌≢◌}
use mathlib.Core.Bool.{Bool, true, false, cond}
use mathlib.Core.List.{List, [], ◌∷◌, ◌++◌}
use borrow.Author.Tests.{lt-ltb, le-ltb, le-leb, lt-leb, eqb-true, ne_eqb}
use lib.Dec.{eqb, leb}
use lib.ListN.{length, length-set}
use Rattle.seq.specs.Ring.{distance}
use Rattle.seq.proofs.Ring.{distance-lt}
use Rattle.ledger.specs.Ledger.{Ledger, Reading, Outcome, subscribers, counter_space}
use Rattle.ledger.specs.Ledger.{most, seen_of, counter_of, total_of}
use Rattle.ledger.specs.Ledger.{charge, fault, entered, entered_all, all_or_nothing, taken, readings_of}

-- Every list of the ledger has a place for each subscriber.
pub record Sized (l : Ledger) : Type 0 where
  pub seen : length l.seen ≡ subscribers
  pub counters : length l.counters ≡ subscribers
  pub totals : length l.totals ≡ subscribers

pub sized-entered : (l : Ledger) (r : Reading) → Sized l → Sized (entered l r)
unfolding entered
sized-entered l r z = record {
  seen = length-set l.seen r.subscriber true ∙ z.seen;
  counters = length-set l.counters r.subscriber r.counter ∙ z.counters;
  totals = length-set l.totals r.subscriber (total_of l r.subscriber + charge l r) ∙ z.totals;
}

-- ---- one reading

pub charge-lt : (l : Ledger) (r : Reading) → charge l r < counter_space
unfolding charge
charge-lt l r = go (seen_of l r.subscriber)
  where
    go : (x : Bool) → cond x (distance counter_space (counter_of l r.subscriber) r.counter) 0 < counter_space
    go true = distance-lt counter_space (omega arith) (counter_of l r.subscriber) r.counter
    go false = omega arith

-- What a reading without a fault is.
pub record Clear (l : Ledger) (r : Reading) : Type 0 where
  pub known : r.subscriber < subscribers
  pub total : total_of l r.subscriber + charge l r ≤ most
  pub sum : l.summary + charge l r ≤ most

module _ (l : Ledger) (r : Reading) where
  pub unknown : subscribers ≤ r.subscriber → fault l r ≡ 41
  unfolding fault
  unknown h = rw (le-ltb _ _ h)

  pub total-past : r.subscriber < subscribers → most < total_of l r.subscriber + charge l r → fault l r ≡ 42
  unfolding fault
  total-past h k =
      rw (lt-ltb _ _ h)
      (ap (λ (x : Bool). cond x (cond (leb (l.summary + charge l r) most) 0 42) 42) (lt-leb _ _ k))

  pub sum_past : r.subscriber < subscribers → total_of l r.subscriber + charge l r ≤ most
      → most < l.summary + charge l r
      → fault l r ≡ 42
  unfolding fault
  sum_past h k m = rw (lt-ltb _ _ h, le-leb _ _ k, lt-leb _ _ m)

  pub no-fault : Clear l r → fault l r ≡ 0
  unfolding fault
  no-fault c = rw (lt-ltb _ _ c.known, le-leb _ _ c.total, le-leb _ _ c.sum)

  pub clear : fault l r ≡ 0 → Clear l r
  clear e = go (dec_lt r.subscriber subscribers) (dec_le (total_of l r.subscriber + charge l r) most)
      (dec_le (l.summary + charge l r) most)
    where
      go : Dec (r.subscriber < subscribers) → Dec (total_of l r.subscriber + charge l r ≤ most)
          → Dec (l.summary + charge l r ≤ most) → Clear l r
      go (yes h) (yes k) (yes m) = record { known = h; total = k; sum = m }
      go (no h) k m = absurd (omega (arith, e, unknown (omega arith)))
      go (yes h) (no k) m = absurd (omega (arith, e, total-past h (omega arith)))
      go (yes h) (yes k) (no m) = absurd (omega (arith, e, sum_past h k (omega arith)))

-- ---- readings one after another

pub none_left : (l : Ledger) → entered_all l [] ≡ record { refusal = 0; ledger = l }
unfolding entered_all
none_left l = refl

module _ (l : Ledger) (r : Reading) (rs : List Reading) where
  pub goes_on : fault l r ≡ 0 → entered_all l (r ∷ rs) ≡ entered_all (entered l r) rs
  unfolding entered_all
  goes_on e = rw e

  pub stops : fault l r ≢ 0 → entered_all l (r ∷ rs) ≡ record { refusal = fault l r; ledger = l }
  unfolding entered_all
  stops e = rw (ne_eqb _ _ e)

  pub first-clear : (entered_all l (r ∷ rs)).refusal ≡ 0 → fault l r ≡ 0
  unfolding entered_all
  first-clear e = go (eqb (fault l r) 0) refl e
    where
      go : (x : Bool) → eqb (fault l r) 0 ≡ x
          → (cond x (entered_all (entered l r) rs) (record { refusal = fault l r; ledger = l })).refusal ≡ 0
          → fault l r ≡ 0
      go true h k = eqb-true _ _ h
      go false h k = k

pub sized-all : (l : Ledger) (rs : List Reading) → Sized l → (entered_all l rs).refusal ≡ 0
    → Sized (entered_all l rs).ledger
sized-all l [] z e = rw (none_left l) z
sized-all l (r ∷ rs) z e =
    let f = first-clear l r rs e in
    let g = goes_on l r rs f in
    rw g (sized-all (entered l r) rs (sized-entered l r z) (rw g at e))

-- Readings and then others: where the first ones have no fault.
pub all_append : (l : Ledger) (rs ss : List Reading) → (entered_all l rs).refusal ≡ 0
    → entered_all l (rs ++ ss) ≡ entered_all (entered_all l rs).ledger ss
all_append l [] ss e = rw (none_left l)
all_append l (r ∷ rs) ss e =
    let f = first-clear l r rs e in
    let g = goes_on l r rs f in
    goes_on l r (rs ++ ss) f ∙ rw g (all_append (entered l r) rs ss (rw g at e))

-- ---- a block

pub bad-size : (l : Ledger) (block : List ℕ) → length block % 8 ≢ 0
    → taken l block ≡ record { refusal = 40; ledger = l }
unfolding taken
bad-size l block h =
    ap (λ (x : Bool). cond x (all_or_nothing l (entered_all l (readings_of block))) (record { refusal = 40; ledger = l }))
    (ne_eqb (length block % 8) 0 h)

pub good-size : (l : Ledger) (block : List ℕ) → length block % 8 ≡ 0
    → (taken l block).refusal ≡ (entered_all l (readings_of block)).refusal
unfolding taken all_or_nothing
good-size l block h = rw h

-- A block is accepted where its readings have no fault, and leaves what they leave.
pub accepted-block : (l : Ledger) (block : List ℕ) → (taken l block).refusal ≡ 0
    → taken l block ≡ entered_all l (readings_of block)
unfolding taken all_or_nothing
accepted-block l block e = go (eqb (length block % 8) 0) e
  where
    o : Outcome
    o = entered_all l (readings_of block)

    settled : o.refusal ≡ 0 → record { refusal = o.refusal; ledger = cond (eqb o.refusal 0) o.ledger l } ≡ o
    settled q = rw q

    go : (x : Bool)
        → (cond {A = Outcome} x (record { refusal = o.refusal; ledger = cond (eqb o.refusal 0) o.ledger l })
        (record { refusal = 40; ledger = l })).refusal ≡ 0
        → cond {A = Outcome} x (record { refusal = o.refusal; ledger = cond (eqb o.refusal 0) o.ledger l })
        (record { refusal = 40; ledger = l }) ≡ o
    go true q = settled q
    go false q = absurd (omega (arith, q))

-- A refused block leaves the ledger as it was.
pub refused-block : (l : Ledger) (block : List ℕ) → (taken l block).refusal ≢ 0 → (taken l block).ledger ≡ l
unfolding taken all_or_nothing
refused-block l block n = go (eqb (length block % 8) 0) n
  where
    o : Outcome
    o = entered_all l (readings_of block)

    go : (x : Bool)
        → (cond {A = Outcome} x (record { refusal = o.refusal; ledger = cond (eqb o.refusal 0) o.ledger l })
        (record { refusal = 40; ledger = l })).refusal ≢ 0
        → (cond {A = Outcome} x (record { refusal = o.refusal; ledger = cond (eqb o.refusal 0) o.ledger l })
        (record { refusal = 40; ledger = l })).ledger ≡ l
    go true q = rw (ne_eqb _ _ q)
    go false q = refl
