-- Blocks on their way from a card to the ledger: which bytes of the host's memory are a block, when it may be taken,
-- and lists of calls in which blocks are taken. Of the two ends only the book of demand 3 is used.
use Rattle.std.specs.Prelude.{ℕ, zero, suc, ◌+◌, ◌-◌, ◌<◌, ◌≡◌, Bool, true, cond, ◌&&◌, leb, ltb, length, get_or, take, drop}
use mathlib.Core.List.{List, [], ◌∷◌, ◌++◌, map, Memᴰ}
use Rattle.std.proofs.Math.Option.{Option, none, some}
use Rattle.delivery.specs.Book.{
  MessageRecord,
  Book,
  added_messages,
  of_transaction,
  transaction_at,
  complete,
  Write,
}
use Rattle.delivery.specs.Demand3.{ApartFrom, writes_made}
use Rattle.ledger.specs.Counted.{Counted, block_of, all_of, Countable}

-- ---- a block

-- The n bytes at an address.
abbrev pub block_at : List ℕ → ℕ → ℕ → List ℕ
block_at memory at n = take n (drop at memory)

-- A block that a card sent: the card, by its ID; the transaction that carries the block, counted from 0; the block's
-- address; and its bytes, as the card was given them. The host's side knows the address and the length. Where there is
-- only one card, its ID is not asked.
pub record Block : Type 0 where
  pub card : ℕ
  pub trans : ℕ
  pub at : ℕ
  pub bytes : List ℕ

abbrev pub block_write : Block → Write
block_write k = record { at = k.at; bytes = k.bytes }

-- The byte that messages have for address x, if one of them reaches there.
abbrev pub reaches : MessageRecord → ℕ → Bool
reaches e x = leb e.data_address x && ltb x (e.data_address + length e.bytes)

unfoldable pub byte_for : List MessageRecord → ℕ → Option ℕ
byte_for [] x = none
byte_for (e ∷ es) x = cond (reaches e x) (some (get_or e.bytes (x - e.data_address) 0)) (byte_for es x)

-- Those for the n addresses from x on.
unfoldable pub bytes_for : List MessageRecord → ℕ → ℕ → List (Option ℕ)
bytes_for es x zero = []
bytes_for es x (suc n) = byte_for es x ∷ bytes_for es (suc x) n

-- The transaction's messages carry the block: in one message or in several, in any order, with or without other data.
abbrev pub Carries : Book → Block → Type 0
Carries b k =
    bytes_for (of_transaction k.trans (added_messages b)) k.at (length k.bytes) ≡ map some k.bytes

-- The usual way to carry one: all messages of the transaction lie end to end from the block's address on, in the order
-- in which they were added. (proofs/Blocks/Parts.antt: such messages carry what they hold together.)
unfoldable pub EndToEnd : ℕ → List MessageRecord → Type 0
EndToEnd at [] = Unit {0}
EndToEnd at (e ∷ es) = (e.data_address ≡ at) × EndToEnd (at + length e.bytes) es

unfoldable pub data_of : List MessageRecord → List ℕ
data_of [] = []
data_of (e ∷ es) = e.bytes ++ data_of es

-- When a block may be taken from the host's memory; b is the card's book at that moment.
pub record Ready (b : Book) (k : Block) : Type 0 where
  pub opened : k.trans < length b.transactions
  pub carried : Carries b k
  -- its transaction is complete
  pub completed : complete b k.trans ≡ true
  -- and no later transaction has written into it. A transaction that was opened before this one was finished writes
  -- elsewhere, by a premise of demand 3, so only the others have to be looked at.
  pub not_over : (j : ℕ) → k.trans < j → j < length b.transactions
      → (Memᴰ k.trans (transaction_at b j).unfinished_at_opening → ⊥)
      → ApartFrom (block_write k) (writes_made b j)

-- ---- lists of calls in which blocks are taken

-- A call, of whatever kind, or the taking of a block into the ledger.
pub data Act (C : Type 0) : Type 0 where
  does : C → Act C
  takes : Block → Act C

unfoldable pub calls_of : {C : Type 0} → List (Act C) → List C
calls_of [] = []
calls_of (does x ∷ as') = x ∷ calls_of as'
calls_of (takes k ∷ as') = calls_of as'

-- What lists of calls lead to, from one start: for each card, by its ID, the memory that it writes to, and its book.
pub record Course (C : Type 0) : Type 0 where
  pub memory_after : ℕ → List C → List ℕ
  pub book_after : ℕ → List C → Book

-- The blocks taken, in order: as the cards were given them; and as they stand in memory when they are taken, after the
-- calls made by then.
unfoldable pub blocks_sent : {C : Type 0} → List (Act C) → List (List ℕ)
blocks_sent [] = []
blocks_sent (does x ∷ as') = blocks_sent as'
blocks_sent (takes k ∷ as') = k.bytes ∷ blocks_sent as'

unfoldable pub blocks_after : {C : Type 0} → Course C → List C → List (Act C) → List (List ℕ)
blocks_after v made [] = []
blocks_after v made (does x ∷ as') = blocks_after v (made ++ (x ∷ [])) as'
blocks_after v made (takes k ∷ as') =
    block_at (v.memory_after k.card made) k.at (length k.bytes) ∷ blocks_after v made as'

abbrev pub blocks_read : {C : Type 0} → Course C → List (Act C) → List (List ℕ)
blocks_read v acts = blocks_after v [] acts

-- Each block is taken when it may be.
unfoldable pub ReadyAfter : {C : Type 0} → Course C → List C → List (Act C) → Type 0
ReadyAfter v made [] = Unit {0}
ReadyAfter v made (does x ∷ as') = ReadyAfter v (made ++ (x ∷ [])) as'
ReadyAfter v made (takes k ∷ as') = Ready (v.book_after k.card made) k × ReadyAfter v made as'

abbrev pub ReadyEach : {C : Type 0} → Course C → List (Act C) → Type 0
ReadyEach v acts = ReadyAfter v [] acts

-- What holds of each card of which a block is taken.
unfoldable pub OfEachTaken : {C : Type 0} → (ℕ → Type 0) → List (Act C) → Type 0
OfEachTaken P [] = Unit {0}
OfEachTaken P (does x ∷ as') = OfEachTaken P as'
OfEachTaken P (takes k ∷ as') = P k.card × OfEachTaken P as'

-- What the takings have to keep to: each block is taken when it may be, and the blocks tell true counts, in the order
-- of counting.
pub record TakenInOrder {C : Type 0} (v : Course C) (acts : List (Act C)) (told : List (List Counted)) : Type 0 where
  pub ready_each : ReadyEach v acts
  pub tells : blocks_sent acts ≡ map block_of told
  pub countable : Countable (all_of told)
