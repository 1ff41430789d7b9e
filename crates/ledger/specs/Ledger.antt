-- The subscriber ledger: what it keeps, and what one reading and one block of readings do to it. Any ledger and any
-- bytes get an answer.
use Rattle.std.specs.Prelude.{ℕ, zero, suc, ◌+◌, ◌*◌, ◌/◌, ◌%◌, Bool, true, false, cond, List, [], ◌∷◌, eqb, leb, ltb, length, get_or, set, replicate}
use Rattle.seq.specs.Ring.{distance}
use Rattle.octets.specs.Octets.{field}

-- Subscribers are the numbers below this.
abbrev pub subscribers : ℕ
subscribers = 1024

-- A counter has 32 bits and wraps: after its last number comes 0.
abbrev pub counter_space : ℕ
counter_space = 4294967296

-- The most that 64 bits hold.
abbrev pub most : ℕ
most = 18446744073709551615

-- For each subscriber, whether it was ever read, the counter of its last reading and the bytes charged to it; beside
-- them the sum of what is charged to all.
pub record Ledger : Type 0 where
  pub seen : List Bool
  pub counters : List ℕ
  pub totals : List ℕ
  pub summary : ℕ

abbrev pub ledger_of : List Bool → List ℕ → List ℕ → ℕ → Ledger
ledger_of seen counters totals summary = record { seen = seen; counters = counters; totals = totals; summary = summary }

abbrev pub seen_of : Ledger → ℕ → Bool
seen_of l s = get_or l.seen s false

abbrev pub counter_of : Ledger → ℕ → ℕ
counter_of l s = get_or l.counters s 0

abbrev pub total_of : Ledger → ℕ → ℕ
total_of l s = get_or l.totals s 0

-- Before the first reading.
unfoldable pub empty : Ledger
empty = record {
  seen = replicate subscribers false;
  counters = replicate subscribers 0;
  totals = replicate subscribers 0;
  summary = 0;
}

-- ---- readings

pub record Reading : Type 0 where
  pub subscriber : ℕ
  pub counter : ℕ

abbrev pub reading_of : ℕ → ℕ → Reading
reading_of subscriber counter = record { subscriber = subscriber; counter = counter }

-- Reading k of a block: 8 bytes, of which the first 4 are the subscriber and the last 4 the counter, each little
-- endian.
unfoldable pub reading_at : List ℕ → ℕ → Reading
reading_at block k = record { subscriber = field block (8 * k) 4; counter = field block (8 * k + 4) 4 }

-- n readings, from reading k on.
unfoldable pub readings_from : ℕ → ℕ → List ℕ → List Reading
readings_from zero k block = []
readings_from (suc n) k block = reading_at block k ∷ readings_from n (k + 1) block

-- All readings of a block. There may be none.
unfoldable pub readings_of : List ℕ → List Reading
readings_of block = readings_from (length block / 8) 0 block

-- ---- one reading

-- What a reading charges: nothing if it is its subscriber's first, else how far the counter has moved since the last
-- one, by the ring of counters.
unfoldable pub charge : Ledger → Reading → ℕ
charge l r =
    cond (seen_of l r.subscriber) (distance counter_space (counter_of l r.subscriber) r.counter) 0

-- The fault of a reading: 41 if nobody has that subscriber number, 42 if the subscriber's total or the sum would not
-- fit in 64 bits, 0 if there is none.
unfoldable pub fault : Ledger → Reading → ℕ
fault l r =
    cond (ltb r.subscriber subscribers)
    (cond (leb (total_of l r.subscriber + charge l r) most)
    (cond (leb (l.summary + charge l r) most) 0 42)
    42)
    41

-- What a reading without a fault leaves.
unfoldable pub entered : Ledger → Reading → Ledger
entered l r = record {
  seen = set l.seen r.subscriber true;
  counters = set l.counters r.subscriber r.counter;
  totals = set l.totals r.subscriber (total_of l r.subscriber + charge l r);
  summary = l.summary + charge l r;
}

-- ---- one block

-- A refusal's number, 0 for none, and the ledger.
pub record Outcome : Type 0 where
  pub refusal : ℕ
  pub ledger : Ledger

-- Readings in order, each against the ledger that those before it leave, up to the first that has a fault.
unfoldable pub entered_all : Ledger → List Reading → Outcome
entered_all l [] = record { refusal = 0; ledger = l }
entered_all l (r ∷ rs) =
    cond (eqb (fault l r) 0) (entered_all (entered l r) rs) (record { refusal = fault l r; ledger = l })

-- Readings are entered all together or not at all.
unfoldable pub all_or_nothing : Ledger → Outcome → Outcome
all_or_nothing l o = record { refusal = o.refusal; ledger = cond (eqb o.refusal 0) o.ledger l }

-- A block: 40 if its length is no multiple of 8; its readings are looked at only if it is one.
unfoldable pub taken : Ledger → List ℕ → Outcome
taken l block =
    cond (eqb (length block % 8) 0)
    (all_or_nothing l (entered_all l (readings_of block)))
    (record { refusal = 40; ledger = l })
