-- The second pass over a frame's messages: what each of them, none refused, leaves of its transaction's entry and of
-- memory. Nothing of this needs to be believed: host_receive/proofs/Passes.antt shows that both passes come to take_all
-- of host/specs/Host.antt.
use Rattle.std.specs.Prelude.{◌≡◌, ℕ, zero, suc, ◌%◌, cond, ◌≢◌, List, length, nat_le, slice_index_or, slice_set}
use Rattle.wire.specs.declared.MessageHeader.{MessageHeader}
use Rattle.wire.specs.Format.{message_header, next_header, carrying}
use Rattle.wire.specs.Reading.{data_end, message_at}
use Rattle.host.specs.declared.Open.{Open}
use Rattle.host.specs.Terms.{free}
use Rattle.host.specs.Transactions.{fills, left_in}
use Rattle.host.specs.Host.{effect}
use Rattle.host_words.specs.Words.{word_count, entry_of, pair_of, head_part, joined}
use Rattle.host_words.specs.Updating.{HoldsEntry}

-- The table and the memory.
pub record Applied : Type 0 where
  pub table : List Open
  pub memory : List ℕ

-- n messages from the header at an offset on, up to the first that passes the frame's end.
unfoldable pub applied_from : ℕ → List ℕ → ℕ → List Open → List ℕ → Applied
applied_from zero f at table memory = record { table = table; memory = memory }
applied_from (suc n) f at table memory =
    let m = message_at f at in
    let o = slice_index_or table (m.trans % 32) free in
    cond (nat_le (data_end f at) (length f))
    (applied_from n f (next_header (data_end f at)) (slice_set table (m.trans % 32) (left_in o (message_header m)))
    (effect memory m (fills o (message_header m))))
    (record { table = table; memory = memory })

-- One message: its entry in the words, and memory.
abbrev pub TakesEffect : List ℕ → List ℕ → MessageHeader → List ℕ → List ℕ → List ℕ → Type 0
TakesEffect w memory h payload left memory-left =
    HoldsEntry w left (h.trans.0 % 32) (left_in (entry_of w (h.trans.0 % 32)) h)
    × (memory-left ≡ effect memory (carrying h payload) (fills (entry_of w (h.trans.0 % 32)) h))

-- The first n messages of a frame. Where there are not 67 words nothing changes.
abbrev pub Applies : List ℕ → List ℕ → List ℕ → ℕ → List ℕ → List ℕ → Type 0
Applies w f memory n left memory-left =
    (length w ≡ word_count
    → (pair_of left ≡ joined (head_part (pair_of w)) (applied_from n f 10 (pair_of w).table memory).table)
    × (memory-left ≡ (applied_from n f 10 (pair_of w).table memory).memory))
    × (length w ≢ word_count → (left ≡ w) × (memory-left ≡ memory))
