-- The table of a pair in words, entry by entry. Assumes nothing.
use mathlib.Core.Path.{◌≡◌, ◌∙◌, ap}
use mathlib.Core.List.{List}
use Prim.Native.Nat.{ℕ, ◌<◌}
use native.Mathlib.Omega.{arith}
use lib.ListN.{length, get_or}
use Rattle.words.proofs.Words.{part-lt}
use Rattle.words.proofs.Listed.{length-listed, listed_at, listed-is}
use Rattle.host.specs.declared.Open.{Open}
use Rattle.host.specs.Terms.{free}
use Rattle.host_words.specs.Words.{entry_of, pair_of}

pub table-all : (w : List ℕ) (l : List Open) → length l ≡ 32 → ((j : ℕ) → j < 32 → get_or l j free ≡ entry_of w j)
    → l ≡ (pair_of w).table
unfolding pair_of
table-all w l e h = listed-is (entry_of w) free 32 0 l e (λ j lt. h j lt ∙ ap (entry_of w) (omega arith))

pub length-table : (w : List ℕ) → length (pair_of w).table ≡ 32
unfolding pair_of
length-table w = length-listed (entry_of w) 0 32

pub entry_at : (w : List ℕ) (j : ℕ) → j < 32 → get_or (pair_of w).table j free ≡ entry_of w j
unfolding pair_of
entry_at w j h = listed_at (entry_of w) free 32 0 j h ∙ ap (entry_of w) (omega arith)

-- any words hold a frame number of 16 bits
pub next-lt : (w : List ℕ) → (pair_of w).next.0 < 65536
unfolding pair_of
next-lt w = part-lt 16 (get_or w 0 0) 2
