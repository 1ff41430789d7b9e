-- A host that receives one frame after another.
use Rattle.std.specs.Prelude.{ℕ, List, [], ◌∷◌}
use Rattle.host.specs.declared.Answer.{Answer}
use Rattle.host.specs.declared.Pair.{Pair}
use Rattle.host.specs.Host.{receive_of}
use Rattle.host_plain.specs.declared.PlainPair.{PlainPair}
use Rattle.host_plain.specs.Plain as plain
use Rattle.host_equal.specs.Described.{Described, describe, describe_plain}

-- What one frame leaves of a host whose states are those of S. Answers end with their runs.
pub record Step (S : Type 0) : Type 0 where
  pub state : S
  pub memory : List ℕ
  pub answer : Answer

-- The definitions that the promises of logwhisker::receive and of host_plain::receive cite.
abbrev pub first_step : Pair → List ℕ → List ℕ → Step Pair
first_step p f memory =
    let r = receive_of p f memory in
    record { state = r.pair; memory = r.memory; answer = r.answer }

abbrev pub plain_step : PlainPair → List ℕ → List ℕ → Step PlainPair
plain_step q f memory =
    let r = plain.receive_of q f memory in
    record { state = r.pair; memory = r.memory; answer = r.answer }

-- What a sequence of frames leaves: the state, the memory, and the answers in their order.
pub record Left (S : Type 0) : Type 0 where
  pub state : S
  pub memory : List ℕ
  pub answers : List Answer

abbrev pub and_before : {S : Type 0} → Answer → Left S → Left S
and_before a r = record { state = r.state; memory = r.memory; answers = a ∷ r.answers }

-- Any frames, one after another.
unfoldable pub after : {S : Type 0} → (S → List ℕ → List ℕ → Step S) → S → List ℕ → List (List ℕ) → Left S
after receive s memory [] = record { state = s; memory = memory; answers = [] }
after receive s memory (f ∷ fs) =
    let a = receive s f memory in
    and_before a.answer (after receive a.state a.memory fs)

-- The same with the state described.
abbrev pub described : {S : Type 0} → (S → Described) → Left S → Left Described
described describing r = record { state = describing r.state; memory = r.memory; answers = r.answers }

-- What sequences show of the two hosts.
abbrev pub after_first : Pair → List ℕ → List (List ℕ) → Left Described
after_first p memory fs = described describe (after first_step p memory fs)

abbrev pub after_plain : PlainPair → List ℕ → List (List ℕ) → Left Described
after_plain q memory fs = described describe_plain (after plain_step q memory fs)
