-- What demand 3 guarantees goes by what answers come to, the memory and the frames not released. Assumes nothing.
use Prim.Native.Nat.{ℕ, ◌+◌}
use mathlib.Core.Path.{◌≡◌, refl, sym, ◌∙◌, ap}
use mathlib.Core.Bool.{Bool, true, false, cond, ◌&&◌}
use mathlib.Core.List.{List, [], ◌∷◌, map}
use Rattle.host.specs.declared.Sums.{Sums}
use Rattle.host.specs.declared.Answer.{Answer}
use Rattle.host.specs.declared.Answer.TheVariants.{Accepted, Again, NoMessages, Refused}
use Rattle.delivery.specs.System.{run}
use Rattle.delivery.specs.Book.{Expected, expect_accepted, expect_again, expect_no_effect, Book}
use Rattle.delivery.specs.Demand3.{Outcome, seen_as, times_accepted, says_accepted, copy_of, sum_over, Guarantees}

-- sums go by what an answer comes to
sum_seen : (Sums → ℕ) → List Expected → ℕ
sum_seen f [] = 0
sum_seen f (expect_accepted c sums run ∷ es) = f sums + sum_seen f es
sum_seen f (expect_again c run ∷ es) = sum_seen f es
sum_seen f (expect_no_effect ∷ es) = sum_seen f es

sum-seen : (f : Sums → ℕ) (xs : List Answer) → sum_over f xs ≡ sum_seen f (map seen_as xs)
unfolding sum_over sum_seen seen_as
sum-seen f [] = refl
sum-seen f (Accepted n sums run ∷ xs) = ap (λ (m : ℕ). f sums + m) (sum-seen f xs)
sum-seen f (Again n run ∷ xs) = sum-seen f xs
sum-seen f (NoMessages ∷ xs) = sum-seen f xs
sum-seen f (Refused r ∷ xs) = sum-seen f xs

sums_same : (f : Sums → ℕ) (xs ys : List Answer) → map seen_as xs ≡ map seen_as ys → sum_over f xs ≡ sum_over f ys
sums_same f xs ys e = sum-seen f xs ∙ ap (sum_seen f) e ∙ sym (sum-seen f ys)

-- so do acceptances
seen_accepted : Expected → Bool
seen_accepted (expect_accepted c sums run) = true
seen_accepted (expect_again c run) = false
seen_accepted expect_no_effect = false

says-seen : (a : Answer) → says_accepted a ≡ seen_accepted (seen_as a)
unfolding says_accepted seen_accepted seen_as
says-seen (Accepted n sums run) = refl
says-seen (Again n run) = refl
says-seen NoMessages = refl
says-seen (Refused r) = refl

times_seen : ℕ → List Expected → List Expected → ℕ
times_seen c [] arrivals = 0
times_seen c (a ∷ answers) [] = 0
times_seen c (a ∷ answers) (r ∷ arrivals) = cond (seen_accepted a && copy_of c r) 1 0 + times_seen c answers arrivals

times-go : (c : ℕ) (xs : List Answer) (es : List Expected) → times_accepted c xs es ≡ times_seen c (map seen_as xs) es
unfolding times_accepted times_seen
times-go c [] es = refl
times-go c (x ∷ xs) [] = refl
times-go c (x ∷ xs) (e ∷ es) = rw (says-seen x, times-go c xs es)

times-same : (c : ℕ) (xs ys : List Answer) (es : List Expected) → map seen_as xs ≡ map seen_as ys
    → times_accepted c xs es ≡ times_accepted c ys es
times-same c xs ys es e =
    times-go c xs es ∙ ap (λ (l : List Expected). times_seen c l es) e ∙ sym (times-go c ys es)

-- so a guarantee does
pub guarantees-same : (p q : Outcome) (b : Book) → map seen_as p.answers ≡ map seen_as q.answers
    → p.memory ≡ q.memory → p.unreleased_frames ≡ q.unreleased_frames → Guarantees q b → Guarantees p b
guarantees-same p q b e m u g = record {
  answers_match = e ∙ g.answers_match;
  accepted_once = λ c h. once c ∙ g.accepted_once c h;
  released_accepted = λ c h. once c ∙ g.released_accepted c (rw u at h);
  released_agrees = rw u g.released_agrees;
  none_over = g.none_over;
  memory_agrees = m ∙ g.memory_agrees;
  messages_agree = sums_same (λ s. s.messages) p.answers q.answers e ∙ g.messages_agree;
  bytes_agree = sums_same (λ s. s.bytes) p.answers q.answers e ∙ g.bytes_agree;
  complete_agree = sums_same (λ s. s.completed) p.answers q.answers e ∙ g.complete_agree;
  when_all_finished = λ all.
      let f = g.when_all_finished all in
      record {
        messages_whole = sums_same (λ s. s.messages) p.answers q.answers e ∙ f.messages_whole;
        bytes_whole = sums_same (λ s. s.bytes) p.answers q.answers e ∙ f.bytes_whole;
        complete_whole = sums_same (λ s. s.completed) p.answers q.answers e ∙ f.complete_whole;
        memory_in_turn = m ∙ f.memory_in_turn;
      };
}
  where
    once : (c : ℕ) → times_accepted c p.answers b.expected ≡ times_accepted c q.answers b.expected
    once c = times-same c p.answers q.answers b.expected e
