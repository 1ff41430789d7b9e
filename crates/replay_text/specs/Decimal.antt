-- A number's digits in decimal, as characters.
use Rattle.std.specs.Prelude.{ℕ, zero, suc, ◌+◌, ◌/◌, ◌%◌, cond, List, [], ◌∷◌, ◌++◌, nat_lt}

-- A number's digits in decimal, the last at the end: below 10 there is one, else those of a tenth stand before it.
-- The first argument only bounds how many are made, and n has no more than n + 1.
unfoldable pub at_most : ℕ → ℕ → List ℕ
at_most zero n = []
at_most (suc k) n = cond (nat_lt n 10) ((48 + n) ∷ []) (at_most k (n / 10) ++ (48 + n % 10) ∷ [])

unfoldable pub decimal : ℕ → List ℕ
decimal n = at_most (suc n) n
