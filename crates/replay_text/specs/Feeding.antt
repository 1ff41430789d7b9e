-- The replay from fragments: what it holds between two of them, feeding one, and now_closed.
use Rattle.std.specs.Prelude.{◌≡◌, ℕ, zero, suc, ◌+◌, ◌*◌, Bool, true, false, cond, not, List, [], ◌∷◌, ◌++◌, length, drop, nat_le, nat_lt, Some, None, Result, Ok, Err}
use Rattle.refusal.specs.declared.Reason.{Reason}
use Rattle.refusal.specs.declared.Reason.TheVariants.{ReplayClosed}
use Rattle.std.proofs.Math.Option.{Option, none, some}
use Rattle.hexadecimal.specs.Line.{digit, up_to_newline, has_newline}
use Rattle.host.specs.declared.Pair.{Pair}
use Rattle.host.specs.declared.Answer.{Answer}
use Rattle.host.specs.Host.{Received, fresh, unchanged, refused, receive_of}
use Rattle.replay_text.specs.declared.line.Totals.{Totals}
use Rattle.replay_text.specs.Report.{totalled}
use Rattle.replay_text.specs.Reply.{Reply}
use Rattle.replay_text.specs.Text.{lines_most, memory_at_start, no_totals}

-- ---- what is held of the line being read

-- As long as 9,000 bytes are enough for it: its bytes, a digit without its partner, and whether some character was no
-- digit. Once it is longer, no bytes are kept, but still whether its digits are odd in number and whether some
-- character was none. (Of a line; a card's frames are held in another sense.)
pub data Held : Type 0 where
  within : List ℕ → Option ℕ → Bool → Held
  past : Bool → Bool → Held

abbrev pub nothing_held : Held
nothing_held = within [] none false

-- A character more, by its value as a digit; `odd` is the digit parity.
abbrev pub held_after_one : Option ℕ → Held → Held
held_after_one none (within bytes half bad) = within bytes half true
held_after_one none (past odd bad) = past odd true
held_after_one (some d) (within bytes none bad) = within bytes (some d) bad
held_after_one (some d) (within bytes (some h) bad) =
    cond (nat_lt (length bytes) 9000) (within (bytes ++ (h * 16 + d) ∷ []) none bad) (past false bad)
held_after_one (some d) (past odd bad) = past (not odd) bad

unfoldable pub held_after : Held → List ℕ → Held
held_after h [] = h
held_after h (c ∷ cs) = held_after (held_after_one (digit c) h) cs

-- What a line is answered where it ends: 14 for a bad character or a half byte, 2 past 9,000 bytes, and else what the
-- host says.
abbrev pub answer_held : Pair → List ℕ → Held → Received
answer_held pair memory (within bytes none bad) =
    cond bad (unchanged pair memory (refused 14 0)) (receive_of pair bytes memory)
answer_held pair memory (within bytes (some h) bad) = unchanged pair memory (refused 14 0)
answer_held pair memory (past odd bad) =
    cond bad (unchanged pair memory (refused 14 0))
    (cond odd (unchanged pair memory (refused 14 0)) (unchanged pair memory (refused 2 0)))

-- Whether the line has no character.
abbrev pub is_empty : Held → Bool
is_empty (within [] none bad) = not bad
is_empty (within [] (some h) bad) = false
is_empty (within (b ∷ bytes) half bad) = false
is_empty (past odd bad) = false

-- ---- the state between calls

pub record Replaying : Type 0 where
  pub pair : Pair
  pub memory : List ℕ
  pub held : Held
  pub totals : Totals
  pub lines : ℕ
  pub closed : Bool

unfoldable pub at_start : Replaying
at_start = record {
  pair = fresh 1 2;
  memory = memory_at_start;
  held = nothing_held;
  totals = no_totals;
  lines = 0;
  closed = false;
}

-- Characters of the line being read.
abbrev pub with_characters : List ℕ → Replaying → Replaying
with_characters cs s = record {
  pair = s.pair;
  memory = s.memory;
  held = held_after s.held cs;
  totals = s.totals;
  lines = s.lines;
  closed = s.closed;
}

-- The line ends: its answer counts in the totals, and the next line has no character yet.
abbrev pub line_answer : Replaying → Answer
line_answer s = (answer_held s.pair s.memory s.held).answer

abbrev pub line_ended : Replaying → Replaying
line_ended s = record {
  pair = (answer_held s.pair s.memory s.held).pair;
  memory = (answer_held s.pair s.memory s.held).memory;
  held = nothing_held;
  totals = totalled s.totals (line_answer s);
  lines = s.lines + 1;
  closed = s.closed;
}

abbrev pub now_closed : Replaying → Replaying
now_closed s = record {
  pair = s.pair;
  memory = s.memory;
  held = s.held;
  totals = s.totals;
  lines = s.lines;
  closed = true;
}

-- ---- the calls

-- Feeding a fragment: what is left of the state, the reply, and how many bytes of the fragment were used up. Where the
-- fragment has a newline that is all up to it and the newline itself, since a call answers one line at most.
pub record Step (S : Type 0) : Type 0 where
  pub state : S
  pub reply : Reply
  pub taken : ℕ

unfoldable pub feed : Replaying → List ℕ → Step Replaying
feed s fragment =
    cond s.closed (record { state = s; reply = Err ReplayClosed; taken = 0 })
    (cond (nat_le lines_most s.lines) (record { state = s; reply = Ok None; taken = length fragment })
    (cond (has_newline fragment)
    (record {
      state = line_ended (with_characters (up_to_newline fragment) s);
      reply = Ok (Some (line_answer (with_characters (up_to_newline fragment) s)));
      taken = length (up_to_newline fragment) + 1;
    })
    (record { state = with_characters fragment s; reply = Ok None; taken = length fragment })))

-- Closing answers a last line, if there is one, and the totals. A second now_closed gets refusal 17.
pub record ClosedStep : Type 0 where
  pub state : Replaying
  pub reply : Reply
  pub totals : Totals

unfoldable pub has_last : Replaying → Bool
has_last s = cond (nat_le lines_most s.lines) false (not (is_empty s.held))

unfoldable pub close : Replaying → ClosedStep
close s =
    cond s.closed (record { state = s; reply = Err ReplayClosed; totals = no_totals })
    (cond (has_last s)
    (record { state = now_closed (line_ended s); reply = Ok (Some (line_answer s)); totals = (line_ended s).totals })
    (record { state = now_closed s; reply = Ok None; totals = s.totals }))

-- A call that is refused with 17 leaves what it was lent as it was, word for word and byte for byte.
abbrev pub LeftIfClosed : {T A : Type 0} → Result T Reason → A → A → Type 0
LeftIfClosed result lent left = result ≡ Err ReplayClosed → left ≡ lent

-- ---- a text, fed in fragments

-- A reply's answer before those of the calls that follow.
abbrev pub answers_of : Reply → List Answer → List Answer
answers_of (Ok (Some a)) rest = a ∷ rest
answers_of (Ok None) rest = rest
answers_of (Err reason) rest = rest

-- What a run of calls answers, and the state that they leave.
pub record Run (S : Type 0) : Type 0 where
  pub answers : List Answer
  pub state : S

-- A fragment is fed until it is taken whole, each time what the call before left of it. n counts the calls, and
-- stands only for their end: a call takes at least one byte where there is any, so that as many calls as the fragment
-- has bytes are enough. `call` is `feed`, or the code's call on its own state.
unfoldable pub feed_whole : {S : Type 0} → (S → List ℕ → Step S) → ℕ → S → List ℕ → Run S
feed_whole call zero s fragment = record { answers = []; state = s }
feed_whole call (suc n) s fragment =
    let r = call s fragment in
    let rest = feed_whole call n r.state (drop r.taken fragment) in
    cond (nat_le (length fragment) r.taken) (record { answers = answers_of r.reply []; state = r.state })
    (record { answers = answers_of r.reply rest.answers; state = rest.state })

-- Fragment after fragment; an empty one is fed too.
unfoldable pub feed_each : {S : Type 0} → (S → List ℕ → Step S) → S → List (List ℕ) → Run S
feed_each call s [] = record { answers = []; state = s }
feed_each call s (fragment ∷ fragments) =
    let r = feed_whole call (suc (length fragment)) s fragment in
    let rest = feed_each call r.state fragments in
    record { answers = r.answers ++ rest.answers; state = rest.state }
