-- What the steps that give a number answer for a card in lent words: what the definitions of card/specs/Card.antt
-- answer for the card that the words hold, and for a buffer of another length its own refusal and the number 0.
use Rattle.std.specs.Prelude.{ℕ, cond, List, eqb, length}
use Rattle.seq.specs.declared.FrameNo.{FrameNo}
use Rattle.seq.specs.declared.TransNo.{TransNo}
use Rattle.card.specs.Card.{open_transaction, seal_frame}
use Rattle.card_words.specs.Words.{card_words, card_of, other_length}

-- What opening a transaction answers: a refusal, 0 for none, and the transaction's number, 0 where it is refused.
pub record OpenedTransaction : Type 0 where
  pub refusal : ℕ
  pub trans : TransNo

-- What sealing a frame answers: a refusal, 0 for none, and the frame's number, 0 where it is refused.
pub record SealedFrame : Type 0 where
  pub refusal : ℕ
  pub number : FrameNo

unfoldable pub opened_in : List ℕ → ℕ → ℕ → ℕ → OpenedTransaction
opened_in w count address value =
    let o = open_transaction (card_of w) count address value in
    cond (eqb (length w) card_words)
    (record { refusal = o.refusal; trans = o.trans })
    (record { refusal = other_length; trans = record { 0 = 0 } })

unfoldable pub sealed_in : List ℕ → List ℕ → SealedFrame
sealed_in w slots =
    let s = seal_frame (card_of w) slots in
    cond (eqb (length w) card_words)
    (record { refusal = s.refusal; number = s.number })
    (record { refusal = other_length; number = record { 0 = 0 } })
