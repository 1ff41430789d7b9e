-- One ledger, several cards, and no subscriber that is counted at two of them: then the order of taking matters only
-- within a card, and each subscriber is charged what its own card counted.
use Rattle.std.specs.Prelude.{ℕ, ◌≤◌, ◌≡◌, cond, List, [], ◌∷◌, ◌++◌, map, eqb}
use Rattle.table.specs.TableEnd.{TableEnd, specified_table}
use Rattle.table.specs.Calls.{Call}
use Rattle.ledger.specs.Ledger.{subscribers, most, total_of, empty}
use Rattle.ledger.specs.History.{after, sum_below, InStep}
use Rattle.ledger.specs.Counted.{Counted, block_of, all_of, counts_of, true_bytes, AllKnown, answers_to}
use Rattle.delivery_ledger.specs.Blocks.{
  Act,
  does,
  takes,
  calls_of,
  Course,
  blocks_sent,
  blocks_read,
  ReadyEach,
  OfEachTaken,
}
use Rattle.delivery_ledger_table.specs.Together.{CardsCall, Terms, cards_course, Feeds}

-- All that the blocks of one card tell, in the order of taking.
unfoldable pub told_by : {C : Type 0} → ℕ → List (Act C) → List (List Counted) → List Counted
told_by s [] told = []
told_by s (does x ∷ as') told = told_by s as' told
told_by s (takes k ∷ as') [] = []
told_by s (takes k ∷ as') (cs ∷ told) = cond (eqb k.card s) cs [] ++ told_by s as' told

-- Each subscriber has a home, the card at which it is counted; and a block of a card tells only of subscribers whose
-- home that card is.
unfoldable pub AllAt : (ℕ → ℕ) → ℕ → List Counted → Type 0
AllAt home s [] = Unit {0}
AllAt home s (c ∷ cs) = (home c.subscriber ≡ s) × AllAt home s cs

unfoldable pub CountedAtHome : {C : Type 0} → (ℕ → ℕ) → List (Act C) → List (List Counted) → Type 0
CountedAtHome home [] told = Unit {0}
CountedAtHome home (does x ∷ as') told = CountedAtHome home as' told
CountedAtHome home (takes k ∷ as') [] = Unit {0}
CountedAtHome home (takes k ∷ as') (cs ∷ told) = AllAt home k.card cs × CountedAtHome home as' told

module _ {C : Type 0} (home : ℕ → ℕ) (acts : List (Act C)) (told : List (List Counted)) where
  -- A subscriber's true bytes, by what its home told; and those of all.
  abbrev pub home_bytes : ℕ → ℕ
  home_bytes s = true_bytes s (told_by (home s) acts told)

  abbrev pub all_home_bytes : ℕ
  all_home_bytes = sum_below subscribers home_bytes

  -- What the takings have to keep to: within each card, blocks are taken in the order of counting.
  pub record TakenByCard (v : Course C) : Type 0 where
    pub ready_each : ReadyEach v acts
    pub tells : blocks_sent acts ≡ map block_of told
    pub known : AllKnown (all_of told)
    pub at_home : CountedAtHome home acts told
    pub in_step : (s : ℕ) → InStep (counts_of s (told_by (home s) acts told))
    pub fits : all_home_bytes ≤ most

  -- None of the blocks is refused, each subscriber is charged what its home counted, and the sum is that of all.
  pub record ChargedByHome (blocks : List (List ℕ)) : Type 0 where
    pub none_refused : answers_to empty blocks ≡ map (λ cs. 0) told
    pub totals_are : (s : ℕ) → total_of (after empty blocks) s ≡ home_bytes s
    pub summary_is : (after empty blocks).summary ≡ all_home_bytes

unfoldable pub ChargedAtHomeFor : TableEnd → Type 0
ChargedAtHomeFor e =
    (host_id : ℕ) (memory : List ℕ) (setup : List Call) (terms : ℕ → Terms) (acts : List (Act CardsCall))
    (told : List (List Counted)) (home : ℕ → ℕ)
    → OfEachTaken (Feeds e host_id memory setup terms (calls_of acts)) acts
    → let v = cards_course e host_id memory setup terms in
    TakenByCard home acts told v → ChargedByHome home acts told (blocks_read v acts)

-- For the rules' table. proofs/OneCardEach.antt has a term of this type.
abbrev pub ChargedAtHome : Type 0
ChargedAtHome = ChargedAtHomeFor specified_table
