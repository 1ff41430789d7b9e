-- What adding a message leaves in the slots for a card in lent words: what the definition of card/specs/Card.antt
-- leaves for the card that the words hold, and nothing written for a buffer of another length.
use Rattle.std.specs.Prelude.{ℕ, cond, List, eqb, length}
use Rattle.card.specs.Card.{add_message}
use Rattle.card_words.specs.Words.{card_words, card_of}

-- The slots once a message is added.
unfoldable pub added_in : List ℕ → List ℕ → ℕ → ℕ → List ℕ → List ℕ
added_in w slots t at bytes = cond (eqb (length w) card_words) (add_message (card_of w) slots t at bytes).slots slots
