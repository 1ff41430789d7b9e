-- What is read of words, and the card that they are.
-- Assumes nothing.
use mathlib.Core.Path.{◌≡◌, ◌∙◌, ap}
use mathlib.Core.List.{List}
use Prim.Native.Nat.{ℕ, ◌%◌}
use native.Mathlib.Omega.{arith}
use Rattle.words.proofs.Listed.{listed_at}
use Rattle.card.specs.Window.{size_of}
use Rattle.card.specs.Sendings.{no_sending, sending_at}
use Rattle.card_words.specs.Words.{size_in, sending_in, card_of}

-- a length, and a transaction
pub size_is : (w : List ℕ) (n : ℕ) → size_of (card_of w).window n ≡ size_in w (n % 64)
unfolding card_of
size_is w n = listed_at (size_in w) 0 64 0 (n % 64) (omega arith) ∙ ap (size_in w) (omega arith)

pub sending-is : (w : List ℕ) (t : ℕ) → sending_at (card_of w).sendings t ≡ sending_in w (t % 32)
unfolding card_of
sending-is w t = listed_at (sending_in w) no_sending 32 0 (t % 32) (omega arith) ∙ ap (sending_in w) (omega arith)
