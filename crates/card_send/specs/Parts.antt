-- Parts of lent buffers as two numbers, and what is shown for a card in lent words: what the definitions of
-- card/specs/Card.antt say of the card that the words hold; where the words are not 85, an empty part and refusal 255.
use Rattle.std.specs.Prelude.{ℕ, ◌+◌, cond, List, [], eqb, leb, length, take, drop}
use Rattle.card.specs.declared.Card.{Card}
use Rattle.card.specs.Window.{size_of}
use Rattle.card.specs.Card.{slot_start, show_refusal, show_frame}
use Rattle.card_words.specs.Words.{card_words, card_of, or_other_length}
use Rattle.card_send.specs.declared.show.Part.{Part}

-- A showing: its refusal, 0 for none, and where the frame lies in the slots; no part where it is refused.
pub record Showing : Type 0 where
  pub refusal : ℕ
  pub part : Part

abbrev pub part_of : Part → List ℕ → List ℕ
part_of p buffer = take p.len (drop p.offset buffer)

abbrev pub no_part : Part
no_part = record { offset = 0; len = 0 }

-- Where the sealed frame of a number lies. (No part where it would pass the buffer's end, which no run reaches.)
unfoldable pub frame_part : Card → List ℕ → ℕ → Part
frame_part c slots n =
    let size = size_of c.window n in
    cond (leb (slot_start c n + size) (length slots)) (record { offset = slot_start c n; len = size }) no_part

unfoldable pub shown_part : List ℕ → List ℕ → ℕ → Showing
shown_part w slots n =
    let r = or_other_length w (show_refusal (card_of w) slots n) in
    cond (eqb r 0) (record { refusal = 0; part = frame_part (card_of w) slots n }) (record { refusal = r; part = no_part })

-- The part itself.
unfoldable pub shown_in : List ℕ → List ℕ → ℕ → List ℕ
shown_in w slots n = cond (eqb (length w) card_words) (show_frame (card_of w) slots n) []
