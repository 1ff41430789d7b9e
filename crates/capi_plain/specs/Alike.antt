-- The claim for callers in C: the same calls on an lw_host and on an lw_plain, from words that are described alike,
-- return the same numbers, write the same buffers and memory, and leave words that are described alike, after every
-- call.
use Rattle.std.specs.Prelude.{ℕ, ◌^◌, ◌<◌, ◌≡◌, List, [], ◌∷◌, map, get_or, Option}
use Rattle.octets.specs.Octets.{Bytes}
use Rattle.host.specs.declared.Answer.{Answer}
use Rattle.host.specs.declared.Pair.{Pair}
use Rattle.host.specs.Host as first
use Rattle.host_answer.specs.Due.{due_number, written_where_due}
use Rattle.host_words.specs.Words.{pair_of}
use Rattle.host_plain.specs.Plain as plain
use Rattle.host_equal.specs.Described.{Described, describe, describe_plain}
use Rattle.capi_plain.specs.Words.{word, plain_of, words_of, received, left_words, acknowledgement}

-- The claim stands in this crate since it sees what the words of both hosts hold, which host_equal does not. Of the
-- first host only definitions and their laws are taken, so that no function of the plain host rests on its code.

-- ---- calls

-- A call on a host in lent words, with what else is lent to it but the memory.
pub data Call : Type 0 where
  -- open it, with own and peer ID
  opens : ℕ → ℕ → Call
  -- receive a frame
  receives : List ℕ → Call
  -- acknowledge an answer, given by its words, with the number of the own next frame and a buffer of 10 bytes
  acknowledges : List ℕ → ℕ → List ℕ → Call

-- What the parameters' types say: IDs of 16 bits, frames of bytes, words of 64 bits. No more is needed of a call.
abbrev pub Allowed : Call → Type 0
Allowed (opens own peer) = (own < 65536) × (peer < 65536)
Allowed (receives f) = Bytes f
Allowed (acknowledges answer num buffer) = Unit {0}

abbrev pub AllAllowed : List Call → Type 0
AllAllowed [] = Unit {0}
AllAllowed (c ∷ cs) = Allowed c × AllAllowed cs

abbrev pub Words : List ℕ → Type 0
Words w = (i : ℕ) → get_or w i 0 < 2 ^ 64

-- What a call shows: the number that it returns, what it writes beside memory (an answer's words, or the buffer of an
-- acknowledgement), and the memory after it.
pub record Shown : Type 0 where
  pub returned : ℕ
  pub written : List ℕ
  pub memory : List ℕ

abbrev pub opening_shows : ℕ → List ℕ → Shown
opening_shows refusal memory = record { returned = refusal; written = []; memory = memory }

abbrev pub answer_shows : Answer → List ℕ → Shown
answer_shows a memory = record {
  returned = get_or (first.answer_words a) 0 0;
  written = first.answer_words a;
  memory = memory;
}

abbrev pub due_shows : Option (List ℕ) → List ℕ → List ℕ → Shown
due_shows a buffer memory = record { returned = due_number a; written = written_where_due a buffer; memory = memory }

-- ---- what the functions promise

-- Of the first host: lw_raw_host_open, lw_raw_host_receive and lw_raw_host_acknowledge, which promise what the words
-- hold after a call, and not each word. (They name these definitions through logwhisker/specs/Face.antt.)
unfoldable pub host_shows : Call → List ℕ → List ℕ → Shown
host_shows (opens own peer) w memory = opening_shows (first.opened_of own peer).refusal.number memory
host_shows (receives f) w memory =
    let r = first.receive_of (pair_of w) f memory in
    answer_shows r.answer r.memory
host_shows (acknowledges answer num buffer) w memory =
    let told = first.answer_of (word answer 0) (word answer 1) (word answer 7) in
    due_shows (first.acknowledgement_of (pair_of w) told num) buffer memory

unfoldable pub host_leaves : Call → List ℕ → List ℕ → Pair
host_leaves (opens own peer) w memory = (first.opened_of own peer).pair
host_leaves (receives f) w memory = (first.receive_of (pair_of w) f memory).pair
host_leaves (acknowledges answer num buffer) w memory = pair_of w

-- Of the plain host: lw_raw_plain_open, lw_raw_plain_receive and lw_raw_plain_acknowledge, which promise each word.
unfoldable pub plain_shows : Call → List ℕ → List ℕ → Shown
plain_shows (opens own peer) w memory = opening_shows (plain.opened_of own peer).refusal.number memory
plain_shows (receives f) w memory = answer_shows (received w f memory).answer (received w f memory).memory
plain_shows (acknowledges answer num buffer) w memory = due_shows (acknowledgement w answer num) buffer memory

unfoldable pub plain_leaves : Call → List ℕ → List ℕ → List ℕ
plain_leaves (opens own peer) w memory = words_of (plain.opened_of own peer).pair
plain_leaves (receives f) w memory = left_words w (received w f memory)
plain_leaves (acknowledges answer num buffer) w memory = w

-- ---- sequences of calls

-- What a caller has after a call: what it showed, and the words that it left.
pub record After : Type 0 where
  pub shown : Shown
  pub words : List ℕ

abbrev pub HostDoes : Call → List ℕ → List ℕ → After → Type 0
HostDoes c w memory a = (a.shown ≡ host_shows c w memory) × (pair_of a.words ≡ host_leaves c w memory)

abbrev pub PlainDoes : Call → List ℕ → List ℕ → After → Type 0
PlainDoes c w memory a = (a.shown ≡ plain_shows c w memory) × (a.words ≡ plain_leaves c w memory)

-- Calls one after another, each on the words and the memory that the one before left, and what the caller has after
-- each.
unfoldable pub Sequence : (Call → List ℕ → List ℕ → After → Type 0) → List ℕ → List ℕ → List Call → List After → Type 0
Sequence Does w memory [] [] = Unit {0}
Sequence Does w memory [] (a ∷ more) = ⊥
Sequence Does w memory (c ∷ cs) [] = ⊥
Sequence Does w memory (c ∷ cs) (a ∷ more) = Does c w memory a × Sequence Does a.words a.shown.memory cs more

-- The same with the words described.
pub record Seen : Type 0 where
  pub shown : Shown
  pub described : Described

abbrev pub seen_at_host : After → Seen
seen_at_host a = record { shown = a.shown; described = describe (pair_of a.words) }

abbrev pub seen_at_plain : After → Seen
seen_at_plain a = record { shown = a.shown; described = describe_plain (plain_of a.words) }

-- ---- the claim

-- From words that are described alike, any calls show the same, and after each of them the words are described alike.
-- What the calls on the plain host do is a parameter: ours do `PlainDoes`, and wrong ones are refuted.
abbrev pub AlikeInWords : (Call → List ℕ → List ℕ → After → Type 0) → Type 0
AlikeInWords Does =
    (w v memory : List ℕ) → Words w → describe (pair_of w) ≡ describe_plain (plain_of v)
    → (calls : List Call) → AllAllowed calls
    → (at_host at_plain : List After) → Sequence HostDoes w memory calls at_host → Sequence Does v memory calls at_plain
    → map seen_at_host at_host ≡ map seen_at_plain at_plain
