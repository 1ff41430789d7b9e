-- What follows for a message that is not refused.
-- Assumes nothing.
use Rattle.std.proofs.Common.{◌≡◌, ℕ, ◌<◌, ◌≤◌, arith, le-leb}
use native.Mathlib.Decide.{dec_le}
use Rattle.wire.specs.declared.MessageHeader.{MessageHeader}
use Rattle.host_plain.specs.declared.PlainTransactions.{PlainTransactions}
use Rattle.host_plain.specs.Plain.{away, message_refusal}

-- a message that is not refused lies in the window
pub in_window : (t : PlainTransactions) (h : MessageHeader) (len size r : ℕ) → r ≡ message_refusal t h len size → r ≡ 0
    → away t h < 32
unfolding message_refusal
in_window t h len size r r-is z = go (dec_le 32 (away t h))
  where
    outside : 32 ≤ away t h → message_refusal t h len size ≡ 7
    outside far = rw (le-leb 32 (away t h) far)

    go : Dec (32 ≤ away t h) → away t h < 32
    go (no k) = omega arith
    go (yes k) = absurd (omega (arith, outside k, r-is, z))
