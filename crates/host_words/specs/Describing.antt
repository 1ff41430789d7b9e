-- A pair described in 167 words: own ID, peer ID, next frame, marks, lowest transaction, closed ones, how many are
-- open, and then five words for each open one; the rest is 0.
use Rattle.std.specs.Prelude.{ℕ, zero, suc, ◌+◌, ◌%◌, ◌≡◌, ◌⊎◌, Bool, true, false, cond, List, [], ◌∷◌, ◌++◌, ltb, get_or, replicate}
use Rattle.std.proofs.lemmas.List.Edits.{sets}
use Rattle.seq.specs.Ring.{advance, trans_space}
use Rattle.host.specs.declared.Open.{Open}
use Rattle.host.specs.declared.Pair.{Pair}
use Rattle.host.specs.Terms.{free}

-- The transaction j past the lowest one: its number and its entry, and whether it is open.
abbrev pub number_at : Pair → ℕ → ℕ
number_at p j = advance trans_space p.lowest.0 j

abbrev pub entry_at : Pair → ℕ → Open
entry_at p j = get_or p.table (number_at p j % 32) free

abbrev pub is_open : Pair → ℕ → Bool
is_open p j = ltb 0 (entry_at p j).received

-- Number, completion address and value, count and received messages.
abbrev pub five : ℕ → Open → List ℕ
five number o = number ∷ o.address ∷ o.value ∷ o.count ∷ o.received ∷ []

-- Those of the open ones among the n transactions from the j-th past the lowest on, nearest first; and how many they
-- are.
unfoldable pub open_words : ℕ → ℕ → Pair → List ℕ
open_words zero j p = []
open_words (suc n) j p = cond (is_open p j) (five (number_at p j) (entry_at p j)) [] ++ open_words n (suc j) p

unfoldable pub open_count : ℕ → ℕ → Pair → ℕ
open_count zero j p = 0
open_count (suc n) j p = cond (is_open p j) (suc (open_count n (suc j) p)) (open_count n (suc j) p)

abbrev pub head_words : Pair → ℕ → List ℕ
head_words p count = p.own ∷ p.peer ∷ p.next.0 ∷ p.marks ∷ p.lowest.0 ∷ p.closed ∷ count ∷ []

-- `sets` is the library's run of stores.
abbrev pub description : Pair → List ℕ
description p = sets (replicate 167 0) 0 (head_words p (open_count 32 0 p) ++ open_words 32 0 p)

-- What storing one transaction leaves, which is open or not. (Nothing of this needs to be believed.)
abbrev pub PutsOpen : List ℕ → ℕ → Pair → ℕ → List ℕ → ℕ → Type 0
PutsOpen out at p j left r =
    ((is_open p j ≡ true) × (left ≡ sets out at (five (number_at p j) (entry_at p j))) × (r ≡ at + 5))
    ⊎ ((is_open p j ≡ false) × (left ≡ out) × (r ≡ at))
