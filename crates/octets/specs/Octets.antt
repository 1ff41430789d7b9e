-- Bytes: numbers laid out little endian, and writes into a memory that somebody lends.
use Rattle.std.specs.Prelude.{ℕ, zero, suc, ◌+◌, ◌*◌, ◌/◌, ◌%◌, ◌<◌, Bool, cond, List, [], ◌∷◌, leb, length, take, drop, get_or}
use Rattle.std.proofs.lemmas.List.Edits.{sets}

-- A list of bytes: each is below 256. (Past the end stands 0.)
abbrev pub Bytes : List ℕ → Type 0
Bytes s = (i : ℕ) → get_or s i 0 < 256

-- A number as k bytes, the lowest first, and back.
unfoldable pub little : ℕ → ℕ → List ℕ
little zero x = []
little (suc k) x = x % 256 ∷ little k (x / 256)

unfoldable pub value : List ℕ → ℕ
value [] = 0
value (b ∷ bs) = b + 256 * value bs

-- The number in the `size` bytes at `start`. Bytes past the end count as 0.
unfoldable pub field : List ℕ → ℕ → ℕ → ℕ
field s start size = value (take size (drop start s))

-- Whether n bytes at an address lie inside a memory: the sum is taken over all numbers, so nothing wraps.
unfoldable pub inside : List ℕ → ℕ → ℕ → Bool
inside memory at n = leb (at + n) (length memory)

-- A memory with `bytes` written from `at` on where all of them lie inside it, and as it was where not.
-- `sets` is the library's run of stores: bytes at, at + 1, .. and no other.
unfoldable pub written : List ℕ → ℕ → List ℕ → List ℕ
written memory at bytes = cond (inside memory at (length bytes)) (sets memory at bytes) memory
