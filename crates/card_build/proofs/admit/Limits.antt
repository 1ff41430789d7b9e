-- Sums and products of the card's code that stay inside a word.
-- Assumes nothing.
use mathlib.Core.Path.{◌≡◌}
use Prim.Native.Nat.{ℕ, ◌+◌, ◌-◌, ◌≤◌, ◌<◌}
use native.Mathlib.Decide.{dec_lt}
use native.Mathlib.Omega.{arith}
use borrow.Author.Tests.{lt-ltb, le-ltb}
use lib.Dec.{ltb}

-- what is left of the limit is compared instead of a sum
pub past-limit : (limit start n : ℕ) → start ≤ limit → ltb (limit - start) n ≡ ltb limit (start + n)
past-limit limit start n h = go (dec_lt (limit - start) n)
  where
    go : Dec (limit - start < n) → ltb (limit - start) n ≡ ltb limit (start + n)
    go (yes q) = rw (lt-ltb (limit - start) n q, lt-ltb limit (start + n) (omega arith))
    go (no q) = rw (le-ltb (limit - start) n (omega arith), le-ltb limit (start + n) (omega arith))
