-- What is chosen for a card in lent words: what the definitions of card/specs/Card.antt say of the card that the words
-- hold, and an empty part and refusal 255 where the words are not 85.
use Rattle.std.specs.Prelude.{ℕ, Bool, true, false, cond, List, [], eqb, length}
use Rattle.card.specs.Window.{oldest_held}
use Rattle.card.specs.Card.{is_ack, choose_refusal, choose_next}
use Rattle.card_words.specs.Words.{card_words, card_of, or_other_length}
use Rattle.card_send.specs.Parts.{no_part, frame_part}
use Rattle.card_send.specs.declared.show.Part.{Part}
use Rattle.card_send.specs.declared.choose.Chosen.{Chosen}
use Rattle.card_send.specs.declared.choose.Chosen.TheVariants.{Acknowledgement, Frame}

-- A choice: its refusal, 0 for none, and a part of the lent acknowledgement, where lent says so, else of the slots; no
-- part where it is refused.
pub record Choice : Type 0 where
  pub refusal : ℕ
  pub lent : Bool
  pub part : Part

-- The same of what is chosen: an acknowledgement is lent whole, its 10 bytes.
abbrev pub choice_of : Chosen → Choice
choice_of Acknowledgement = record { refusal = 0; lent = true; part = record { offset = 0; len = 10 } }
choice_of (Frame p) = record { refusal = 0; lent = false; part = p }

-- The lent acknowledgement whole, or a part of the slots.
unfoldable pub chosen_part : List ℕ → List ℕ → List ℕ → Choice
chosen_part w slots ack =
    let r = or_other_length w (choose_refusal (card_of w) slots ack) in
    cond (eqb r 0)
    (cond (is_ack ack)
    (record { refusal = 0; lent = true; part = record { offset = 0; len = 10 } })
    (record { refusal = 0; lent = false; part = frame_part (card_of w) slots (oldest_held (card_of w).window) }))
    (record { refusal = r; lent = false; part = no_part })

-- The part itself.
unfoldable pub chosen_in : List ℕ → List ℕ → List ℕ → List ℕ
chosen_in w slots ack = cond (eqb (length w) card_words) (choose_next (card_of w) slots ack) []
