-- A quick test by which no reading of a block can have a fault. It saves work, and nothing of it needs to be believed:
-- proofs/Room.antt shows that no fault is missed. Numbers are or-ed, which is at least as large as each of them, and
-- below a power of 2 if all of them are.
use Rattle.std.specs.Prelude.{ℕ, ◌%◌, Bool, false, cond, List, [], ◌∷◌, length, bit_or, nat_le, nat_lt}
use Rattle.ledger.specs.Ledger.{Ledger, Reading, subscribers, total_of}

-- The subscribers of readings or-ed, and their totals, from a number on.
unfoldable pub or_subscribers : ℕ → List Reading → ℕ
or_subscribers any [] = any
or_subscribers any (r ∷ rs) = or_subscribers (bit_or any r.subscriber) rs

unfoldable pub or_totals : Ledger → ℕ → List Reading → ℕ
or_totals l high [] = high
or_totals l high (r ∷ rs) = or_totals l (bit_or high (total_of l (r.subscriber % subscribers))) rs

-- 2^31 readings add less than 2^63, so that what is below 2^63 stays within 64 bits.
abbrev pub half : ℕ
half = 9223372036854775808

abbrev pub readings_most : ℕ
readings_most = 2147483648

unfoldable pub room_for : Ledger → List Reading → Bool
room_for l rs =
    cond (nat_le (length rs) readings_most)
    (cond (nat_lt l.summary half)
    (cond (nat_le subscribers (or_subscribers 0 rs)) false (nat_lt (or_totals l 0 rs) half))
    false)
    false
