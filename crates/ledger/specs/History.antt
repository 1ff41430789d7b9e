-- A history of blocks: what it leaves in a ledger, and what it should leave. The latter is said by the readings only,
-- without a ledger.
use Rattle.std.specs.Prelude.{ℕ, zero, suc, ◌+◌, ◌-◌, ◌%◌, ◌≤◌, ◌<◌, ◌≡◌, Bool, true, false, cond, List, [], ◌∷◌, ◌++◌, map, eqb}
use Rattle.seq.specs.Ring.{distance}
use Rattle.ledger.specs.Ledger.{Ledger, Reading, counter_space, readings_of, taken}

-- The ledger after blocks in order; some may be refused.
unfoldable pub after : Ledger → List (List ℕ) → Ledger
after l [] = l
after l (b ∷ bs) = after (taken l b).ledger bs

-- The readings of the accepted blocks, in order.
unfoldable pub accepted : Ledger → List (List ℕ) → List Reading
accepted l [] = []
accepted l (b ∷ bs) =
    cond (eqb (taken l b).refusal 0)
    (readings_of b ++ accepted (taken l b).ledger bs)
    (accepted (taken l b).ledger bs)

-- Whether a subscriber has a reading.
unfoldable pub is_read : ℕ → List Reading → Bool
is_read s [] = false
is_read s (r ∷ rs) = cond (eqb r.subscriber s) true (is_read s rs)

-- ---- sums over readings

-- One subscriber's counters, in order.
unfoldable pub counters_of : ℕ → List Reading → List ℕ
counters_of s [] = []
counters_of s (r ∷ rs) = cond (eqb r.subscriber s) (r.counter ∷ counters_of s rs) (counters_of s rs)

-- The sum of the differences of successive counters, each modulo 4,294,967,296. The first counter has none before it.
unfoldable pub differences_from : ℕ → List ℕ → ℕ
differences_from c [] = 0
differences_from c (d ∷ ds) = distance counter_space c d + differences_from d ds

unfoldable pub differences : List ℕ → ℕ
differences [] = 0
differences (c ∷ cs) = differences_from c cs

-- f 0 + f 1 + .. + f (n - 1)
unfoldable pub sum_below : ℕ → (ℕ → ℕ) → ℕ
sum_below zero f = 0
sum_below (suc n) f = sum_below n f + f n

-- ---- true counts: all bytes that a subscriber has moved so far, a number that does not wrap

-- From the first of the true counts to the last.
unfoldable pub last_of : ℕ → List ℕ → ℕ
last_of t [] = t
last_of t (u ∷ us) = last_of u us

unfoldable pub bytes_passed : List ℕ → ℕ
bytes_passed [] = 0
bytes_passed (t ∷ ts) = last_of t ts - t

-- No count is smaller than the one before it (a late reading would be), and none is 4,294,967,296 or more past it (the
-- counter would have wrapped unseen).
unfoldable pub InStepFrom : ℕ → List ℕ → Type 0
InStepFrom t [] = Unit
InStepFrom t (u ∷ us) = (t ≤ u) × (u - t < counter_space) × InStepFrom u us

unfoldable pub InStep : List ℕ → Type 0
InStep [] = Unit
InStep (t ∷ ts) = InStepFrom t ts

-- The premises on one subscriber: the true counts at its accepted readings. The counters are these counts modulo
-- 4,294,967,296.
pub record TrueCounts (s : ℕ) (rs : List Reading) (counts : List ℕ) : Type 0 where
  pub read : counters_of s rs ≡ map (λ (t : ℕ). t % counter_space) counts
  pub in_step : InStep counts
