-- True counts and the blocks that tell them: if the counts keep to a few premises, no block is refused and the ledger
-- charges what was counted. The premises speak of true counts only, not of a ledger.
use Rattle.std.specs.Prelude.{ℕ, ◌%◌, ◌≤◌, ◌<◌, ◌≡◌, cond, List, [], ◌∷◌, ◌++◌, map, eqb}
use Rattle.octets.specs.Octets.{little}
use Rattle.ledger.specs.Ledger.{
  Ledger,
  Reading,
  subscribers,
  counter_space,
  most,
  reading_of,
  total_of,
  empty,
  taken,
}
use Rattle.ledger.specs.History.{after, sum_below, bytes_passed, InStep}

-- A subscriber's true count at some moment: all its bytes so far. It does not wrap.
pub record Counted : Type 0 where
  pub subscriber : ℕ
  pub count : ℕ

-- The reading that tells a count, modulo 4,294,967,296.
abbrev pub reading_on : Counted → Reading
reading_on c = reading_of c.subscriber (c.count % counter_space)

-- Its 8 bytes, and a block of readings.
abbrev pub reading_bytes : Counted → List ℕ
reading_bytes c = little 4 c.subscriber ++ little 4 (c.count % counter_space)

unfoldable pub block_of : List Counted → List ℕ
block_of [] = []
block_of (c ∷ cs) = reading_bytes c ++ block_of cs

-- All that several blocks tell, in order.
unfoldable pub all_of : List (List Counted) → List Counted
all_of [] = []
all_of (cs ∷ css) = cs ++ all_of css

-- One subscriber's true counts, in order; and its true bytes, from the first of them to the last.
unfoldable pub counts_of : ℕ → List Counted → List ℕ
counts_of s [] = []
counts_of s (c ∷ cs) = cond (eqb c.subscriber s) (c.count ∷ counts_of s cs) (counts_of s cs)

unfoldable pub true_bytes : ℕ → List Counted → ℕ
true_bytes s cs = bytes_passed (counts_of s cs)

-- The true bytes of all subscribers together.
unfoldable pub all_true_bytes : List Counted → ℕ
all_true_bytes cs = sum_below subscribers (λ (s : ℕ). true_bytes s cs)

unfoldable pub AllKnown : List Counted → Type 0
AllKnown [] = Unit
AllKnown (c ∷ cs) = (c.subscriber < subscribers) × AllKnown cs

-- The premises: only subscribers below 1,024; no count of a subscriber is told after a larger one of the same, and
-- fewer than 4,294,967,296 bytes pass from one to the next; all bytes together fit in 64 bits.
pub record Countable (cs : List Counted) : Type 0 where
  pub known : AllKnown cs
  pub in_step : (s : ℕ) → InStep (counts_of s cs)
  pub fits : all_true_bytes cs ≤ most

-- The answers to blocks in order: 0 for each that is accepted.
unfoldable pub answers_to : Ledger → List (List ℕ) → List ℕ
answers_to l [] = []
answers_to l (b ∷ bs) = (taken l b).refusal ∷ answers_to (taken l b).ledger bs

-- A ledger charges what was counted.
pub record Charges (l : Ledger) (cs : List Counted) : Type 0 where
  pub totals_are : (s : ℕ) → total_of l s ≡ true_bytes s cs
  pub summary_is : l.summary ≡ all_true_bytes cs

-- Blocks are charged as told: taken in order from an empty ledger on, none is refused, and in the end what is charged
-- is what was counted.
pub record ChargedAsTold (blocks : List (List ℕ)) (told : List (List Counted)) : Type 0 where
  pub none_refused : answers_to empty blocks ≡ map (λ cs. 0) told
  pub charges : Charges (after empty blocks) (all_of told)
