-- The claim: fragments, cut anywhere, and then the closing give what the whole text gives.
use Rattle.std.specs.Prelude.{◌≡◌, ℕ, ◌≤◌, true, List, [], ◌∷◌, ◌++◌, length, Err}
use Rattle.refusal.specs.declared.Reason.TheVariants.{ReplayClosed}
use Rattle.host.specs.declared.Answer.{Answer}
use Rattle.replay_text.specs.Text.{replayed, totals_of, answers_text, totals_text, output}
use Rattle.replay_text.specs.Feeding.{
  Held,
  within,
  past,
  Replaying,
  at_start,
  feed,
  ClosedStep,
  close,
  answers_of,
  feed_each,
}

-- The text that fragments are cut from; some of them may be empty.
unfoldable pub joined : List (List ℕ) → List ℕ
joined [] = []
joined (fragment ∷ fragments) = fragment ++ joined fragments

-- Each fragment fed until it is taken whole, and then the closing: all answers, and what closing gives.
unfoldable pub last_call : List (List ℕ) → ClosedStep
last_call fragments = close (feed_each feed at_start fragments).state

unfoldable pub all_answers : List (List ℕ) → List Answer
all_answers fragments = (feed_each feed at_start fragments).answers ++ answers_of (last_call fragments).reply []

pub record Replays (fragments : List (List ℕ)) (text : List ℕ) : Type 0 where
  pub answers-same : all_answers fragments ≡ (replayed text).answers
  pub totals-same : (last_call fragments).totals ≡ totals_of (replayed text).answers
  pub output-same : answers_text (all_answers fragments) ++ totals_text (last_call fragments).totals ≡ output text
  pub pair_same : (last_call fragments).state.pair ≡ (replayed text).pair
  pub memory-same : (last_call fragments).state.memory ≡ (replayed text).memory
  pub closed_after : (last_call fragments).state.closed ≡ true

-- Any call after the closing is refused with 17 and changes nothing.
pub record Refuses17 (s : Replaying) : Type 0 where
  pub feeding-refused : (fragment : List ℕ)
      → ((feed s fragment).reply ≡ Err ReplayClosed) × ((feed s fragment).taken ≡ 0) × ((feed s fragment).state ≡ s)
  pub closing-refused : ((close s).reply ≡ Err ReplayClosed) × ((close s).state ≡ s)

-- No more than 9,000 bytes are held.
abbrev pub HeldMost : Held → Type 0
HeldMost (within bytes half bad) = length bytes ≤ 9000
HeldMost (past odd bad) = Unit
