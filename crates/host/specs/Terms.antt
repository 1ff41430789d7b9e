-- What a message is refused for at the host, held against the window of 32 transactions, its transaction's entry in the
-- table, and the memory: refusals 7 to 12.
use Rattle.std.specs.Prelude.{ℕ, ◌+◌, Bool, cond, not, ◌&&◌, ◌||◌, eqb, leb, ltb}
use Rattle.bitmap.specs.Marks.{mark}
use Rattle.wire.specs.declared.MessageHeader.{MessageHeader}
use Rattle.host.specs.declared.Open.{Open}

-- An entry of the table with no open transaction in it.
abbrev pub free : Open
free = record { count = 0; address = 0; value = 0; received = 0 }

-- Whether a message's header agrees with what the first message of its transaction said, if there was one.
unfoldable pub agrees : Open → MessageHeader → Bool
agrees o h =
    eqb o.received 0
    || (eqb o.count h.count
    && (eqb o.address h.completion_address && eqb o.value h.completion_value))

-- Refusals 7 to 10 of a message with `len` data bytes, 0 for none. `d` is how far its transaction lies past the lowest
-- one that is not complete, `closed` marks closed ones from there on, and `o` is its transaction's entry in the table.
unfoldable pub terms_refusal : ℕ → ℕ → Open → MessageHeader → ℕ → ℕ
terms_refusal d closed o h len =
    cond (leb 32 d) 7
    (cond (mark closed d) 8
    (cond (not (agrees o h)) 9
    (cond (eqb h.count 0 && ltb 0 len) 10 0)))

-- Refusals 11 and 12 against a memory of `size` bytes, 0 for none. The sums are over all numbers: nothing wraps.
unfoldable pub address_refusal : ℕ → MessageHeader → ℕ → ℕ
address_refusal size h len =
    cond (ltb size (h.data_address + len)) 11
    (cond (ltb size (h.completion_address + 4)) 12 0)

-- The first of two refusals that is one.
abbrev pub first_of : ℕ → ℕ → ℕ
first_of a b = cond (eqb a 0) b a

-- Refusals 7 to 12: the terms come before the addresses.
abbrev pub message_refusal : ℕ → ℕ → Open → MessageHeader → ℕ → ℕ → ℕ
message_refusal d closed o h len size = first_of (terms_refusal d closed o h len) (address_refusal size h len)
