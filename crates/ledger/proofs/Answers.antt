-- Blocks worked through by computation: their refusals, in order, and what a history leaves, in which a counter wraps
-- and one block is refused. Assumes nothing.
use Prim.Native.Nat.{ℕ}
use mathlib.Core.Path.{◌≡◌, refl}
use mathlib.Core.Bool.{true}
use mathlib.Core.List.{List, [], ◌∷◌, ◌++◌, map}
use lib.ListN.{replicate}
use Rattle.seq.specs.Ring.{distance}
use Rattle.octets.specs.Octets.{little, value, field}
use Rattle.ledger.specs.Ledger.{Ledger, Reading, total_of, reading_of}
use Rattle.ledger.specs.Ledger.{empty, reading_at, readings_from, readings_of}
use Rattle.ledger.specs.Ledger.{charge, fault, entered, entered_all, all_or_nothing, taken}
use Rattle.ledger.specs.History.{after, accepted}

abbrev reading : ℕ → ℕ → List ℕ
reading s c = little 4 s ++ little 4 c

-- ---- refusals and their order

-- Subscriber 0 was read at 0 and has the total t; the sum is s.
abbrev read-once : ℕ → ℕ → Ledger
read-once t s = record { seen = true ∷ []; counters = 0 ∷ []; totals = t ∷ []; summary = s }

abbrev answers : Ledger → List (List ℕ) → List ℕ
answers l bs = map (λ (b : List ℕ). (taken l b).refusal) bs

-- No readings, a first reading of 0 and one of 5, seven bytes, nine and twelve, the last subscriber and the first
-- unknown one.
pub from_empty :
    answers empty
    ([] ∷ reading 0 0 ∷ reading 0 5 ∷ replicate 7 0 ∷ replicate 9 0 ∷ replicate 12 0
    ∷ reading 1023 0 ∷ reading 1024 0 ∷ reading 4294967295 0 ∷ [])
    ≡ 0 ∷ 0 ∷ 0 ∷ 40 ∷ 40 ∷ 40 ∷ 0 ∷ 41 ∷ 41 ∷ []
unfolding taken all_or_nothing entered_all entered fault charge readings_of readings_from reading_at empty field value
    little distance
from_empty = refl

-- A total of 2^64 - 2: 1 more fits, 2 more do not, in one step or in two; the first fault decides, and the size
-- before all.
pub full-total :
    answers (read-once 18446744073709551614 0)
    (reading 0 1 ∷ reading 0 2 ∷ (reading 0 1 ++ reading 0 2) ∷ (reading 0 2 ++ reading 1024 0)
    ∷ (reading 1024 0 ++ reading 0 2)
    ∷ (reading 0 2 ++ 0 ∷ []) ∷ [])
    ≡ 0 ∷ 42 ∷ 42 ∷ 42 ∷ 41 ∷ 40 ∷ []
unfolding taken all_or_nothing entered_all entered fault charge readings_of readings_from reading_at field value little
    distance
full-total = refl

-- The same for the sum.
pub full-sum :
    answers (read-once 0 18446744073709551614)
    (reading 0 1 ∷ reading 0 2 ∷ (reading 0 1 ++ reading 0 2) ∷ (reading 0 2 ++ reading 1024 0)
    ∷ (reading 1024 0 ++ reading 0 2) ∷ [])
    ≡ 0 ∷ 42 ∷ 42 ∷ 42 ∷ 41 ∷ []
unfolding taken all_or_nothing entered_all entered fault charge readings_of readings_from reading_at field value little
    distance
full-sum = refl

-- ---- a history

-- Subscriber 7 is read at 4,294,967,000 and then at 200; the third block has a good reading before the unknown
-- subscriber 1,024.
unfoldable pub blocks : List (List ℕ)
blocks =
    (reading 7 4294967000 ++ reading 3 5) ∷ reading 7 200 ∷ (reading 7 300 ++ reading 1024 0) ∷ []
    ∷ (reading 3 105 ++ reading 7 200 ++ reading 7 201) ∷ []

abbrev pub kept : List Reading
kept =
    reading_of 7 4294967000 ∷ reading_of 3 5 ∷ reading_of 7 200 ∷ reading_of 3 105 ∷ reading_of 7 200 ∷ reading_of 7 201 ∷ []

pub blocks-kept : accepted empty blocks ≡ kept
unfolding blocks accepted after taken all_or_nothing entered_all entered fault charge readings_of readings_from reading_at
    empty field value little distance
blocks-kept = refl

-- 497 of subscriber 7 and 100 of subscriber 3.
pub summary-is-597 : (after empty blocks).summary ≡ 597
unfolding blocks accepted after taken all_or_nothing entered_all entered fault charge readings_of readings_from reading_at
    empty field value little distance
summary-is-597 = refl

-- A refused block is not half applied: the reading of 300 in the third is not entered.
pub totals-are : map (total_of (after empty blocks)) (3 ∷ 7 ∷ 8 ∷ []) ≡ 100 ∷ 497 ∷ 0 ∷ []
unfolding blocks accepted after taken all_or_nothing entered_all entered fault charge readings_of readings_from reading_at
    empty field value little distance
totals-are = refl
