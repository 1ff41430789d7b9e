-- Calls on both hosts in lent words, worked by computation: opened, a frame of the rules received, acknowledged, and
-- received again. The claim of specs/Alike.antt speaks of them, and shuts out plain hosts that go wrong on them.
-- Assumes nothing.
use mathlib.Core.Path.{◌≡◌, refl, sym, ap}
use mathlib.Core.Logic.{◌≢◌}
use mathlib.Core.Bool.{Bool, true, false, true≢false, ◌&&◌}
use mathlib.Core.List.{List, [], ◌∷◌, ◌++◌, map}
use Prim.Native.Nat.{ℕ, zero, suc, ◌^◌, ◌<◌}
use native.Mathlib.Omega.{arith}
use borrow.Author.Tests.{ltb-true}
use lib.Dec.{ltb}
use lib.ListN.{get_or, replicate}
use Rattle.seq.specs.Ring.{distance, advance}
use Rattle.bitmap.specs.Marks.{mark, with_mark, leading, trailing_ones}
use Rattle.octets.specs.Octets.{Bytes, little, value, field, inside, written}
use Rattle.wire.specs.Format.{message_header, needed}
use Rattle.wire.specs.Reading.{addressed, follows, message_at, messages_from, heading_of, read_frame}
use Rattle.wire.specs.Writing.{frame_head, ack_frame}
use Rattle.host.specs.Terms.{agrees, terms_refusal, address_refusal}
use Rattle.host.specs.Transactions as transactions
use Rattle.host.specs.Host as first
use Rattle.words.specs.Words.{part, listed}
use Rattle.host_words.specs.Words.{pair_of}
use Rattle.host_plain.specs.Plain as plain
use Rattle.host_equal.specs.Described.{list_of, from_lowest, describe, describe_plain}
use Rattle.capi_plain.specs.Words.{
  marks_from,
  entry_at,
  table_of,
  plain_of,
  head_word,
  entry_word,
  word_at,
  words_of,
}
use Rattle.capi_plain.specs.Alike.{
  Call,
  opens,
  receives,
  acknowledges,
  AllAllowed,
  Words,
  host_shows,
  host_leaves,
  plain_shows,
  plain_leaves,
  After,
  HostDoes,
  PlainDoes,
  Sequence,
  Seen,
  seen_at_host,
  seen_at_plain,
  AlikeInWords,
}
use Rattle.capi_plain.proofs.Alike.{alike-in-words}

-- ---- the calls, and what is had after each

-- One message of four bytes at 0 from 2 to 1, whose completion writes four bytes at 64.
abbrev frame : List ℕ
frame =
    1 ∷ 0 ∷ 2 ∷ 0 ∷ 0 ∷ 0 ∷ 0 ∷ 0 ∷ 0 ∷ 1
    ∷ 0 ∷ 0 ∷ 0 ∷ 0 ∷ 64 ∷ 0 ∷ 0 ∷ 0 ∷ 68 ∷ 51 ∷ 34 ∷ 17 ∷ 1 ∷ 0 ∷ 0 ∷ 0
    ∷ 0 ∷ 0 ∷ 0 ∷ 0 ∷ 4 ∷ 0 ∷ 0 ∷ 0
    ∷ 10 ∷ 11 ∷ 12 ∷ 13 ∷ []

abbrev before : List ℕ
before = replicate 68 0

abbrev filled : List ℕ
filled = 10 ∷ 11 ∷ 12 ∷ 13 ∷ (replicate 60 0 ++ (68 ∷ 51 ∷ 34 ∷ 17 ∷ []))

abbrev accepted : List ℕ
accepted = 1 ∷ 0 ∷ 1 ∷ 4 ∷ 1 ∷ 0 ∷ 0 ∷ 1 ∷ []

abbrev again : List ℕ
again = 2 ∷ 0 ∷ 0 ∷ 0 ∷ 0 ∷ 0 ∷ 0 ∷ 1 ∷ []

abbrev acknowledged : List ℕ
acknowledged = 2 ∷ 0 ∷ 1 ∷ 0 ∷ 0 ∷ 0 ∷ 0 ∷ 0 ∷ 1 ∷ 0 ∷ []

abbrev calls : List Call
calls = opens 1 2 ∷ receives frame ∷ acknowledges accepted 0 (replicate 10 238) ∷ receives frame ∷ []

abbrev has : ℕ → List ℕ → List ℕ → List ℕ → After
has returned written memory words = record {
  shown = record { returned = returned; written = written; memory = memory };
  words = words;
}

-- The same is shown at both, and the words are their own.
abbrev each : List ℕ → List ℕ → List After
each opened received =
    has 0 [] before opened
    ∷ has 1 accepted filled received
    ∷ has 1 acknowledged filled received
    ∷ has 2 again filled received
    ∷ []

abbrev at_host : List After
at_host = each (131073 ∷ replicate 66 0) (4295098369 ∷ 0 ∷ 1 ∷ replicate 64 0)

-- The plain host's words: just opened, and with the frame accepted.
abbrev fresh : List ℕ
fresh = 1 ∷ 2 ∷ replicate 226 0

abbrev moved : List ℕ
moved = 1 ∷ 2 ∷ 1 ∷ 1 ∷ replicate 224 0

abbrev at_plain : List After
at_plain = each fresh moved

pub host-sequence : Sequence HostDoes (replicate 67 0) before calls at_host
unfolding Sequence host_shows host_leaves pair_of part listed first.opened_of first.fresh first.receive_of
    first.by_number first.settled first.run_from first.take_all first.take_in first.effect first.accepting
    first.after_frame first.acknowledgement_from transactions.verdict transactions.verdict_of transactions.after
    transactions.fills transactions.closed_verdict agrees terms_refusal address_refusal needed message_header addressed
    follows message_at messages_from heading_of read_frame frame_head ack_frame distance advance mark with_mark leading
    trailing_ones little value field inside written
host-sequence = ((refl, refl), ((refl, refl), ((refl, refl), ((refl, refl), tt))))

pub plain-sequence : Sequence PlainDoes (replicate 228 0) before calls at_plain
unfolding Sequence plain_shows plain_leaves plain_of marks_from entry_at table_of head_word entry_word word_at words_of list_of
    plain.opened_of plain.fresh plain.receive_of plain.by_number plain.is_settled plain.run_from plain.take_all plain.take_in
    plain.effect plain.counted plain.accepting plain.after plain.completes plain.closed_by plain.differs
    plain.message_refusal plain.leading_set plain.moved_by message_header addressed follows message_at messages_from heading_of
    read_frame frame_head ack_frame distance advance little value field inside written
plain-sequence = ((refl, refl), ((refl, refl), ((refl, refl), ((refl, refl), tt))))

-- ---- the claim speaks of them

-- whether all numbers of a list are below one, by computation
below : ℕ → List ℕ → Bool
below n [] = true
below n (x ∷ s) = ltb x n && below n s

all-below : (n : ℕ) → 0 < n → (s : List ℕ) → below n s ≡ true → (i : ℕ) → get_or s i 0 < n
unfolding below
all-below n some [] e i = some
all-below n some (x ∷ s) e i = go (λ q j. all-below n some s q j) (ltb x n) refl e i
  where
    go : (below n s ≡ true → (j : ℕ) → get_or s j 0 < n)
        → (b : Bool) → ltb x n ≡ b → (b && below n s) ≡ true → (i : ℕ) → get_or (x ∷ s) i 0 < n
    go ih false z q i = absurd (true≢false (sym q))
    go ih true z q zero = ltb-true x n z
    go ih true z q (suc i) = ih q i

started : describe (pair_of (replicate 67 0)) ≡ describe_plain (plain_of (replicate 228 0))
unfolding describe describe_plain from_lowest list_of pair_of part listed plain_of marks_from entry_at table_of mark
started = refl

words_are : Words (replicate 67 0)
unfolding below
words_are = all-below (2 ^ 64) (omega arith) (replicate 67 0) refl

allowed : AllAllowed calls
unfolding below
allowed =
    let bytes : Bytes frame = all-below 256 (omega arith) frame refl in
    ((omega arith, omega arith), (bytes, (tt, (bytes, tt))))

pub worked : map seen_at_host at_host ≡ map seen_at_plain at_plain
worked =
    alike-in-words (replicate 67 0) (replicate 228 0) before words_are started calls allowed at_host at_plain
    host-sequence plain-sequence

-- ---- plain hosts that it shuts out

-- the number that the k-th call returned
abbrev returned_by : ℕ → List Seen → ℕ
returned_by k l = get_or (map (λ (s : Seen). s.shown.returned) l) k 0

-- a plain host that goes through these calls, and returns another number to one of them than the first host
shut_out : (Does : Call → List ℕ → List ℕ → After → Type 0) (had : List After)
    → Sequence Does (replicate 228 0) before calls had
    → (k : ℕ) → returned_by k (map seen_at_host at_host) ≢ returned_by k (map seen_at_plain had)
    → AlikeInWords Does → ⊥
shut_out Does had runs k other claim =
    other
    (ap (returned_by k)
    (claim (replicate 67 0) (replicate 228 0) before words_are started calls allowed at_host had host-sequence runs))

-- One that forgets what it accepted: its words stay as they were, and the frame is accepted again.
abbrev pub Forgets : Call → List ℕ → List ℕ → After → Type 0
Forgets (opens own peer) w memory a = PlainDoes (opens own peer) w memory a
Forgets (receives f) w memory a = (a.shown ≡ plain_shows (receives f) w memory) × (a.words ≡ w)
Forgets (acknowledges answer num buffer) w memory a = PlainDoes (acknowledges answer num buffer) w memory a

abbrev forgotten : List After
forgotten =
    has 0 [] before fresh
    ∷ has 1 accepted filled fresh
    ∷ has 1 acknowledged filled fresh
    ∷ has 1 accepted filled fresh
    ∷ []

forgets : Sequence Forgets (replicate 228 0) before calls forgotten
unfolding Sequence plain_shows plain_leaves plain_of marks_from entry_at table_of head_word entry_word word_at words_of
    list_of plain.opened_of plain.fresh plain.receive_of plain.by_number plain.is_settled plain.run_from plain.take_all
    plain.take_in plain.effect plain.counted plain.accepting plain.after plain.completes plain.closed_by plain.differs
    plain.message_refusal plain.leading_set plain.moved_by message_header addressed follows message_at messages_from heading_of
    read_frame frame_head ack_frame distance advance little value field inside written
forgets = ((refl, refl), ((refl, refl), ((refl, refl), ((refl, refl), tt))))

pub not-forgets : AlikeInWords Forgets → ⊥
not-forgets = shut_out Forgets forgotten forgets 3 (λ e. omega (arith, e))

-- One that acknowledges nothing.
abbrev pub Silent : Call → List ℕ → List ℕ → After → Type 0
Silent (opens own peer) w memory a = PlainDoes (opens own peer) w memory a
Silent (receives f) w memory a = PlainDoes (receives f) w memory a
Silent (acknowledges answer num buffer) w memory a = a ≡ has 0 buffer memory w

abbrev unacknowledged : List After
unacknowledged =
    has 0 [] before fresh
    ∷ has 1 accepted filled moved
    ∷ has 0 (replicate 10 238) filled moved
    ∷ has 2 again filled moved
    ∷ []

silent : Sequence Silent (replicate 228 0) before calls unacknowledged
unfolding Sequence
silent = (plain-sequence.0, (plain-sequence.1.0, (refl, (plain-sequence.1.1.1.0, tt))))

pub not-silent : AlikeInWords Silent → ⊥
not-silent = shut_out Silent unacknowledged silent 2 (λ e. omega (arith, e))
