-- Lists of calls in which blocks are taken, along any course: where the book says what stands in memory at each taking,
-- what is read is what was sent, and bytes counted are the bytes charged. Assumes nothing.
use Prim.Native.Nat.{ℕ, ◌≤◌, ◌<◌}
use mathlib.Core.Path.{◌≡◌, refl, sym, ap, ◌∙◌, subst}
use mathlib.Core.List.{List, [], ◌∷◌, ◌++◌, append_assoc}
use lib.ListN.{length}
use Rattle.wire.specs.Format.{needed}
use Rattle.delivery.specs.Book.{Book, added_messages, of_transaction, transaction_at, book_memory}
use Rattle.delivery.specs.Demand3.{WritesAllowed, Outcome, Guarantees}
use Rattle.ledger.specs.Counted.{Counted, ChargedAsTold}
use Rattle.ledger.proofs.Counted.{counted-charged}
use Rattle.delivery_ledger.specs.Blocks.{
  Block,
  block_at,
  Ready,
  Act,
  does,
  takes,
  calls_of,
  Course,
  blocks_sent,
  blocks_after,
  blocks_read,
  ReadyAfter,
  ReadyEach,
  OfEachTaken,
  TakenInOrder,
}
use Rattle.delivery_ledger.proofs.Blocks.InBook.{in-book}

-- What a taking needs of demand 3: memory is what the book says.
pub record Delivered (memory : List ℕ) (b : Book) : Type 0 where
  pub memory_is : memory ≡ book_memory b
  pub none_over : (i : ℕ) → i < length b.transactions
      → length (of_transaction i (added_messages b)) ≤ needed (transaction_at b i).count
  pub allowed : WritesAllowed b

pub delivered : (o : Outcome) (b : Book) → Guarantees o b → WritesAllowed b → Delivered o.memory b
delivered o b g w = record { memory_is = g.memory_agrees; none_over = g.none_over; allowed = w }

one_block : (memory : List ℕ) (b : Book) → Delivered memory b → (k : Block) → Ready b k
    → block_at memory k.at (length k.bytes) ≡ k.bytes
one_block memory b d k r =
    ap (λ (m : List ℕ). block_at m k.at (length k.bytes)) d.memory_is
    ∙ in-book b k d.none_over d.allowed r

module _ {C : Type 0} (v : Course C) where
  -- It is so at each taking.
  unfoldable pub DeliveredAfter : List C → List (Act C) → Type 0
  DeliveredAfter made [] = Unit {0}
  DeliveredAfter made (does x ∷ as') = DeliveredAfter (made ++ (x ∷ [])) as'
  DeliveredAfter made (takes k ∷ as') =
      Delivered (v.memory_after k.card made) (v.book_after k.card made) × DeliveredAfter made as'

  all_blocks : (acts : List (Act C)) (made : List C) → DeliveredAfter made acts → ReadyAfter v made acts
      → blocks_after v made acts ≡ blocks_sent acts
  unfolding DeliveredAfter blocks_after blocks_sent ReadyAfter
  all_blocks [] made d r = refl
  all_blocks (does x ∷ as') made d r = all_blocks as' (made ++ (x ∷ [])) d r
  all_blocks (takes k ∷ as') made d r =
      ap (λ (l : List ℕ). l ∷ blocks_after v made as')
      (one_block (v.memory_after k.card made) (v.book_after k.card made) d.0 k r.0)
      ∙ ap (λ (l : List (List ℕ)). k.bytes ∷ l) (all_blocks as' made d.1 r.1)

  -- What is read is what was sent.
  pub read-as-sent : (acts : List (Act C)) → DeliveredAfter [] acts → ReadyEach v acts
      → blocks_read v acts ≡ blocks_sent acts
  read-as-sent acts d r = all_blocks acts [] d r

  -- Bytes counted are bytes charged.
  pub charged-as-told : (acts : List (Act C)) (told : List (List Counted)) → DeliveredAfter [] acts
      → TakenInOrder v acts told → ChargedAsTold (blocks_read v acts) told
  charged-as-told acts told d t =
      rw (read-as-sent acts d t.ready_each, t.tells) (counted-charged told t.countable)

  -- ---- premises on the whole list

  -- Premises that pass to the front part of a list, and under which demand 3's guarantees hold for a card.
  pub record Guaranteed (P : ℕ → List C → Type 0) : Type 0 where
    pub front : (s : ℕ) (xs ys : List C) → P s (xs ++ ys) → P s xs
    pub holds : (s : ℕ) (xs : List C) → P s xs → Delivered (v.memory_after s xs) (v.book_after s xs)

  module _ (P : ℕ → List C → Type 0) (g : Guaranteed P) where
    at_each : (acts : List (Act C)) (made : List C) → OfEachTaken (λ s. P s (made ++ calls_of acts)) acts
        → DeliveredAfter made acts
    unfolding calls_of OfEachTaken DeliveredAfter
    at_each [] made p = tt
    at_each (does x ∷ as') made p =
        at_each as' (made ++ (x ∷ []))
        (subst (λ (l : List C). OfEachTaken (λ s. P s l) as') (sym (append_assoc made (x ∷ []) (calls_of as'))) p)
    at_each (takes k ∷ as') made p =
        (g.holds k.card made (g.front k.card made (calls_of as') p.0), at_each as' made p.1)

    pub delivered-each : (acts : List (Act C)) → OfEachTaken (λ s. P s (calls_of acts)) acts → DeliveredAfter [] acts
    delivered-each acts p = at_each acts [] p

-- What holds of every card holds of each card of which a block is taken.
pub of-every : {C : Type 0} (P : ℕ → Type 0) (acts : List (Act C)) → ((s : ℕ) → P s) → OfEachTaken P acts
unfolding OfEachTaken
of-every P [] p = tt
of-every P (does x ∷ as') p = of-every P as' p
of-every P (takes k ∷ as') p = (p k.card, of-every P as' p)
