-- The theorem: fragments, cut anywhere, and then the closing give the answers, the totals and the memory of the whole
-- text. After the closing every call gets 17 and changes nothing.
-- Assumes nothing.
use Rattle.std.proofs.Common.{◌≡◌, ℕ, ◌≤◌, Bool, true, false, List, [], length, take, refl, ap, ◌∙◌, subst, append-nil}
use Rattle.hexadecimal.specs.Line.{has_newline}
use Rattle.host.specs.Host.{fresh}
use Rattle.replay_text.specs.Text.{
  lines_most,
  lines_of,
  memory_at_start,
  no_totals,
  replayed,
  totals_of,
  output,
}
use Rattle.replay_text.specs.Feeding.{held_after, Replaying, at_start, feed, has_last, close, Run, feed_each}
use Rattle.replay_text.specs.Claim.{joined, last_call, all_answers, Replays, Refuses17}
use Rattle.replay_text.proofs.Cutting.{closed, go_on, then, Goes, each_fits}
use Rattle.replay_text.proofs.Whole.{totalling, Reading, Answers, all-answered}
use Rattle.replay_text.proofs.Sums.{AllSmall, answers-small, answers-most, plain-sums}

-- the totals that closing answers are those of the state that it leaves
close-totals : (s : Replaying) → s.closed ≡ false → (close s).totals ≡ (close s).state.totals
unfolding close
close-totals s o = go (has_last s) refl
  where
    go : (b : Bool) → has_last s ≡ b → (close s).totals ≡ (close s).state.totals
    go true e = rw (e, o)
    go false e = rw (e, o)

begun : Reading at_start []
unfolding at_start held_after has_newline
begun = record { held-is = refl; one_line = refl; is_open = refl }

module _ (fragments : List (List ℕ)) where
  run : Run Replaying
  run = then (feed_each feed at_start fragments).answers (closed (feed_each feed at_start fragments).state)

  fed : Goes at_start (joined fragments) [] (feed_each feed at_start fragments)
  unfolding at_start
  fed = each_fits fragments at_start refl

  run_is : go_on at_start (joined fragments) ≡ run
  unfolding go_on run
  run_is = rw (append-nil (joined fragments)) at fed.is

  answered : Answers at_start (take lines_most (lines_of (joined fragments))) run
  unfolding at_start
  answered =
      subst (λ (r : Run Replaying). Answers at_start (take lines_most (lines_of (joined fragments))) r) run_is
      (all-answered (joined fragments) at_start [] begun)

  answers-are : all_answers fragments ≡ (replayed (joined fragments)).answers
  unfolding all_answers last_call replayed run closed at_start
  answers-are = answered.answers-are

  few : length (replayed (joined fragments)).answers ≤ lines_most
  unfolding replayed
  few = answers-most lines_most (lines_of (joined fragments)) (fresh 1 2) memory_at_start

  small : AllSmall (replayed (joined fragments)).answers
  unfolding replayed
  small = answers-small (take lines_most (lines_of (joined fragments))) (fresh 1 2) memory_at_start

  totals-are : (last_call fragments).totals ≡ totals_of (replayed (joined fragments)).answers
  unfolding last_call run closed at_start all_answers
  totals-are =
      close-totals (feed_each feed at_start fragments).state fed.open-left
      ∙ answered.totals-are
      ∙ ap (totalling no_totals) answers-are
      ∙ plain-sums (replayed (joined fragments)).answers small few

  pub replays-joined : Replays fragments (joined fragments)
  unfolding last_call replayed run closed at_start output
  replays-joined =
      record {
        answers-same = answers-are;
        totals-same = totals-are;
        output-same = rw (answers-are, totals-are);
        pair_same = answered.pair_is;
        memory-same = answered.memory-is;
        closed_after = answered.is-closed;
      }

pub fragments-replay : (text : List ℕ) (fragments : List (List ℕ)) → joined fragments ≡ text → Replays fragments text
fragments-replay text fragments e = subst (Replays fragments) e (replays-joined fragments)

pub refuses-17 : (s : Replaying) → s.closed ≡ true → Refuses17 s
unfolding feed close
refuses-17 s c =
    record { feeding-refused = λ (f : List ℕ). (rw c, rw c, rw c); closing-refused = (rw c, rw c) }

pub closed-refuses : (fragments : List (List ℕ)) → Refuses17 (last_call fragments).state
closed-refuses fragments = refuses-17 (last_call fragments).state (replays-joined fragments).closed_after
