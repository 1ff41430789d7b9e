-- What demand 3 shuts out: for each wrong pair of ends a list of calls that meets the premises, where the demand's
-- conclusion is false. And what it does not: a card that adds nothing meets it. Assumes nothing.
use Prim.Native.Nat.{ℕ, zero, suc, ◌+◌, ◌≤◌, ◌<◌}
use native.Mathlib.Omega.{arith}
use mathlib.Core.Path.{◌≡◌, refl, ap, subst}
use mathlib.Core.Bool.{true}
use mathlib.Core.List.{List, [], ◌∷◌, map}
use lib.Dec.{T, lit<}
use lib.ListN.{length, get_or, replicate}
use Rattle.seq.specs.Ring.{frame_space}
use Rattle.bitmap.specs.Marks.{leading}
use Rattle.wire.specs.Format.{needed}
use Rattle.host.specs.declared.Answer.{Answer}
use Rattle.host.specs.declared.Answer.TheVariants.{Accepted}
use Rattle.host.specs.declared.Sums.{Sums}
use Rattle.card.specs.Window.{unreleased}
use Rattle.delivery.specs.Book.{
  frame_copy,
  Expected,
  expect_accepted,
  expect_again,
  expect_no_effect,
  Book,
  messages_in,
  of_transaction,
  all_messages_in,
  finished,
  data_bytes,
  complete_count,
  enter,
}
use Rattle.delivery.specs.System.{
  open_call,
  add_call,
  seal_call,
  read_call,
  show_call,
  choose_call,
  calls,
  Event,
  opens,
  adds,
  seals,
  reads,
  shows,
  receives,
  System,
  acks_for,
  by_card,
  by_host,
  step,
  initial,
}
use Rattle.delivery.specs.Demand3.{
  Outcome,
  outcome_of,
  seen_as,
  sum_over,
  needed_by,
  bytes_by,
  Guarantees,
  Demand3For,
}
use Rattle.delivery.specs.WrongEnds.{
  Receiving,
  with_host,
  with_acknowledging,
  with_card_opening,
  with_opening,
  with_sealing,
  with_reading,
  with_showing,
  refuses_all,
  again_to_all,
  writes_first,
  acknowledges_rest,
  reporting,
  invents,
  window_short,
  forgets,
  takes_for_old,
  completes_early,
  never_completes,
  acks_two,
  with_run,
  judges_run,
  its_own_only,
  one_too_many,
  before_effect,
  marks_from,
  without_behind,
  silent_on_again,
  releases_early,
  ignores_acks,
  swaps_ids,
  shows_other,
  opens_larger,
  adds_nothing,
}
use Rattle.delivery.proofs.Card.CardSteps.{stays}
use Rattle.delivery.proofs.Demand.{KeepsAgreement, starts, step-any, demand3-by}
use Rattle.delivery.proofs.Lists.Check.{runs, judge, passes, applied, judged_as, judged-passed, judged-book}
use Rattle.delivery.proofs.Lists.Computing.{computing}

-- The kind of the k-th answer, as a number.
unfoldable pub kind : Expected → ℕ
kind (expect_accepted c sums run) = 1
kind (expect_again c run) = 2
kind expect_no_effect = 3

kind_at : ℕ → List Expected → ℕ
kind_at k xs = kind (get_or xs k expect_no_effect)

-- ---- hosts that answer or write at will

-- Two transactions of one byte each, a frame each, delivered in order.
in_order : List Event
in_order =
    opens 1 0 1 ∷ adds 0 4 (9 ∷ []) ∷ seals ∷ shows 0 ∷ receives 0
    ∷ opens 1 5 1 ∷ adds 1 9 (9 ∷ []) ∷ seals ∷ shows 1 ∷ receives 1 ∷ []

-- The premises do not depend on the host.
met : (r : Receiving) → T (passes 36 (with_host r) (replicate 10 0) in_order)
unfolding computing in_order
met r = tt

not-refuses_all : Demand3For (with_host refuses_all) → ⊥
unfolding computing in_order refuses_all kind kind_at
not-refuses_all d =
    let z : ◌≡◌ {A = ℕ} 3 1 = ap (kind_at 0) (applied 36 _ d (replicate 10 0) in_order (met refuses_all)).answers_match in
    omega arith

not-again_to_all : Demand3For (with_host again_to_all) → ⊥
unfolding computing in_order again_to_all kind kind_at
not-again_to_all d =
    let z : ◌≡◌ {A = ℕ} 2 1 = ap (kind_at 0) (applied 36 _ d (replicate 10 0) in_order (met again_to_all)).answers_match in
    omega arith

not-writes_first : Demand3For (with_host writes_first) → ⊥
unfolding computing in_order writes_first
not-writes_first d =
    let z : ◌≡◌ {A = ℕ} 0 9 =
    ap (λ m. get_or m 9 0) (applied 36 _ d (replicate 10 0) in_order (met writes_first)).memory_agrees in
    omega arith

not-acknowledges_rest : Demand3For (with_host acknowledges_rest) → ⊥
unfolding computing in_order acknowledges_rest kind kind_at
not-acknowledges_rest d =
    let z : ◌≡◌ {A = ℕ} 2 1 =
    ap (kind_at 1) (applied 36 _ d (replicate 10 0) in_order (met acknowledges_rest)).answers_match in
    omega arith

sums_in : Expected → Sums
sums_in (expect_accepted c s run) = s
sums_in (expect_again c run) = record { messages = 0; bytes = 0; completed = 0 }
sums_in expect_no_effect = record { messages = 0; bytes = 0; completed = 0 }

-- What each frame of the list brings: one message of one byte, which completes its transaction.
abbrev one : Sums
one = record { messages = 1; bytes = 1; completed = 1 }

-- It reports one of each for such a frame, whatever else it may report. Invented.antt has any other numbers.
not-invents : (f : Sums → Sums) → Demand3For (with_host (invents (λ h s m. f))) → f one ≡ one
unfolding computing in_order invents reporting sums_in
not-invents f d =
    ap (λ xs. sums_in (get_or xs 0 expect_no_effect))
    (applied 36 _ d (replicate 10 0) in_order (met (invents (λ h s m. f)))).answers_match

-- The sums alone tell it too, and they do so again once all is finished.
in_order_read : List Event
in_order_read =
    opens 1 0 1 ∷ adds 0 4 (9 ∷ []) ∷ seals ∷ shows 0 ∷ receives 0 ∷ reads 0
    ∷ opens 1 5 1 ∷ adds 1 9 (9 ∷ []) ∷ seals ∷ shows 1 ∷ receives 1 ∷ reads 1 ∷ []

-- Its book, in which both transactions are finished.
read_book : Book
read_book = record {
  start = replicate 10 0;
  transactions =
      record { count = 1; completion_address = 0; completion_value = 1; unfinished_at_opening = [] }
      ∷ record { count = 1; completion_address = 5; completion_value = 1; unfinished_at_opening = [] } ∷ [];
  frames =
      record {
        messages = record { trans = 0; data_address = 4; bytes = 9 ∷ [] } ∷ [];
        acknowledged = true;
        accepted = true;
      }
      ∷ record {
        messages = record { trans = 1; data_address = 9; bytes = 9 ∷ [] } ∷ [];
        acknowledged = true;
        accepted = true;
      } ∷ [];
  building = [];
  hand_outs = frame_copy 0 ∷ frame_copy 1 ∷ [];
  acks_due = record { first = 0; many = 1 } ∷ record { first = 1; many = 1 } ∷ [];
  expected =
      expect_accepted 0 (record { messages = 1; bytes = 1; completed = 1 }) 1
      ∷ expect_accepted 1 (record { messages = 1; bytes = 1; completed = 1 }) 1 ∷ [];
}

read-finished : (i : ℕ) → i < length read_book.transactions → finished read_book i ≡ true
unfolding read_book finished all_messages_in messages_in of_transaction leading needed
read-finished zero h = refl
read-finished (suc zero) h = refl
read-finished (suc (suc i)) h = absurd (omega arith)

-- The demand, of a host whose list has this book.
applied-read : (r : Receiving) → Demand3For (with_host r)
    → T (judged_as (judge 36 (with_host r) (replicate 10 0) in_order_read) read_book)
    → Guarantees (outcome_of (runs 36 (with_host r) (replicate 10 0) in_order_read).system) read_book
applied-read r d q =
    subst (Guarantees (outcome_of (runs 36 (with_host r) (replicate 10 0) in_order_read).system))
    (judged-book 36 (with_host r) (replicate 10 0) in_order_read read_book q)
    (applied 36 (with_host r) d (replicate 10 0) in_order_read
    (judged-passed 36 (with_host r) (replicate 10 0) in_order_read read_book q))

-- Both frames told so: the sums are 2.
abbrev Told : Sums → Type 0
Told s =
    (s.messages + (s.messages + 0) ≡ 2) × (s.bytes + (s.bytes + 0) ≡ 2) × (s.completed + (s.completed + 0) ≡ 2)

module _ (f : Sums → Sums) (d : Demand3For (with_host (invents (λ h s m. f)))) where
  abbrev inventing : System
  inventing = (runs 36 (with_host (invents (λ h s m. f))) (replicate 10 0) in_order_read).system

  judged : T (judged_as (judge 36 (with_host (invents (λ h s m. f))) (replicate 10 0) in_order_read) read_book)
  unfolding computing in_order_read invents reporting read_book
  judged = tt

  abbrev reported : ℕ → Answer
  reported n = Accepted (record { 0 = n }) (f one) 1

  answers-are : inventing.answers ≡ reported 0 ∷ reported 1 ∷ []
  unfolding computing in_order_read invents reporting
  answers-are = refl

  abbrev answering : List Answer → Outcome
  answering answers = record {
    answers = answers;
    memory = inventing.memory;
    unreleased_frames = unreleased inventing.card.window;
  }

  held : Guarantees (answering (reported 0 ∷ reported 1 ∷ [])) read_book
  held =
      subst (λ (answers : List Answer). Guarantees (answering answers) read_book) answers-are
      (applied-read (invents (λ h s m. f)) d judged)

  sums-told : Told (f one)
  unfolding read_book messages_in of_transaction all_messages_in needed data_bytes complete_count sum_over
  sums-told = (held.messages_agree, held.bytes_agree, held.complete_agree)

  whole-sums-told : Told (f one)
  unfolding read_book messages_in of_transaction needed data_bytes needed_by bytes_by sum_over
  whole-sums-told =
      let w = held.when_all_finished read-finished in
      (w.messages_whole, w.bytes_whole, w.complete_whole)

-- ---- hosts with one fault

many_opens : ℕ → List Event → List Event
many_opens zero xs = xs
many_opens (suc n) xs = opens 0 0 0 ∷ many_opens n xs

last_of_window : List Event
last_of_window = many_opens 32 (adds 31 0 [] ∷ seals ∷ shows 0 ∷ receives 0 ∷ [])

not-window_short : Demand3For (with_host window_short) → ⊥
unfolding computing last_of_window many_opens window_short kind kind_at
not-window_short d =
    let z : ◌≡◌ {A = ℕ} 3 1 = ap (kind_at 0) (applied 36 _ d (replicate 4 0) last_of_window tt).answers_match in
    omega arith

twice : List Event
twice = opens 2 0 1 ∷ adds 0 4 (9 ∷ []) ∷ seals ∷ shows 0 ∷ receives 0 ∷ receives 0 ∷ []

-- It accepts the frame twice.
not-forgets : Demand3For (with_host forgets) → ⊥
unfolding computing twice forgets
not-forgets d =
    let z : ◌≡◌ {A = ℕ} 2 1 = (applied 36 _ d (replicate 10 0) twice tt).accepted_once 0 refl in
    omega arith

swapped : List Event
swapped =
    opens 2 0 1 ∷ adds 0 4 (9 ∷ []) ∷ seals ∷ adds 0 5 (9 ∷ []) ∷ seals
    ∷ shows 0 ∷ shows 1 ∷ receives 1 ∷ receives 0 ∷ []

not-takes_for_old : Demand3For (with_host takes_for_old) → ⊥
unfolding computing swapped takes_for_old kind kind_at
not-takes_for_old d =
    let z : ◌≡◌ {A = ℕ} 2 1 = ap (kind_at 1) (applied 36 _ d (replicate 6 0) swapped tt).answers_match in
    omega arith

run_in : Expected → ℕ
run_in (expect_accepted c s run) = run
run_in (expect_again c run) = run
run_in expect_no_effect = 0

-- One frame arrives: its run is its own number. Before it takes effect it is not in its own run; after that it is
-- behind.
arrived_one : List Event
arrived_one = opens 0 0 0 ∷ adds 0 0 [] ∷ seals ∷ shows 0 ∷ receives 0 ∷ []

own-run : (r : Receiving) → Demand3For (with_host r)
    → map run_in (map seen_as (runs 36 (with_host r) (replicate 4 0) arrived_one).system.answers) ≡ 1 ∷ []
unfolding computing arrived_one run_in
own-run r d = ap (map run_in) (applied 36 _ d (replicate 4 0) arrived_one tt).answers_match

not-one_too_many : Demand3For (with_host one_too_many) → ⊥
unfolding computing arrived_one judges_run with_run run_in
not-one_too_many d =
    let z : ◌≡◌ {A = ℕ} 2 1 = ap (λ xs. get_or xs 0 0) (own-run one_too_many d) in
    omega arith

not-before_effect : Demand3For (with_host before_effect) → ⊥
unfolding computing arrived_one judges_run with_run run_in
not-before_effect d =
    let z : ◌≡◌ {A = ℕ} 0 1 = ap (λ xs. get_or xs 0 0) (own-run before_effect d) in
    omega arith

not-without_behind : Demand3For (with_host without_behind) → ⊥
unfolding computing arrived_one judges_run with_run marks_from run_in
not-without_behind d =
    let z : ◌≡◌ {A = ℕ} 0 1 = ap (λ xs. get_or xs 0 0) (own-run without_behind d) in
    omega arith

-- Frame 0 fills the hole before frame 1, and its run has both.
not-its_own_only : Demand3For (with_host its_own_only) → ⊥
unfolding computing swapped judges_run with_run run_in
not-its_own_only d =
    let z : ◌≡◌ {A = ℕ} 1 2 =
    ap (λ xs. run_in (get_or xs 1 expect_no_effect)) (applied 36 _ d (replicate 6 0) swapped tt).answers_match in
    omega arith

-- Of two messages one arrives: no completion yet.
not-completes_early : Demand3For (with_host completes_early) → ⊥
unfolding computing twice completes_early
not-completes_early d =
    let z : ◌≡◌ {A = ℕ} 1 0 = ap (λ m. get_or m 0 0) (applied 36 _ d (replicate 10 0) twice tt).memory_agrees in
    omega arith

-- Both transactions are finished, and no completion is written.
never-judged : T (judged_as (judge 36 (with_host never_completes) (replicate 10 0) in_order_read) read_book)
unfolding computing in_order_read never_completes read_book
never-judged = tt

not-never_completes : Demand3For (with_host never_completes) → ⊥
unfolding computing in_order_read never_completes read_book
not-never_completes d =
    let z : ◌≡◌ {A = ℕ} 0 1 =
    ap (λ m. get_or m 0 0)
    ((applied-read never_completes d never-judged).when_all_finished read-finished).memory_in_turn in
    omega arith

one_of_two : List Event
one_of_two =
    opens 2 0 1 ∷ adds 0 4 (9 ∷ []) ∷ seals ∷ adds 0 5 (9 ∷ []) ∷ seals ∷ shows 0 ∷ receives 0 ∷ reads 0 ∷ []

not-acks_two : Demand3For (with_acknowledging acks_two) → ⊥
unfolding computing one_of_two acks_two
not-acks_two d =
    let z : ◌≡◌ {A = ℕ} 2 1 = (applied 36 _ d (replicate 6 0) one_of_two tt).released_agrees in
    omega arith

-- The second acknowledgement called for is of frame 0 again, and not yet of frame 1.
repeated : List Event
repeated =
    opens 2 0 1 ∷ adds 0 4 (9 ∷ []) ∷ seals ∷ adds 0 5 (9 ∷ []) ∷ seals ∷ shows 0 ∷ shows 1
    ∷ receives 0 ∷ receives 0 ∷ receives 1 ∷ reads 1 ∷ []

not-silent_on_again : Demand3For (with_acknowledging silent_on_again) → ⊥
unfolding computing repeated silent_on_again
not-silent_on_again d =
    let z : ◌≡◌ {A = ℕ} 2 3 = (applied 36 _ d (replicate 6 0) repeated tt).released_agrees in
    omega arith

-- ---- cards

sealed_one : List Event
sealed_one = opens 0 0 0 ∷ adds 0 0 [] ∷ seals ∷ []

-- What it releases never reached the host.
not-releases_early : Demand3For (with_sealing releases_early) → ⊥
unfolding computing sealed_one releases_early
not-releases_early d =
    let z : ◌≡◌ {A = ℕ} 0 1 = (applied 36 _ d (replicate 4 0) sealed_one tt).released_accepted 0 (lit< tt) in
    omega arith

acknowledged_one : List Event
acknowledged_one = opens 0 0 0 ∷ adds 0 0 [] ∷ seals ∷ shows 0 ∷ receives 0 ∷ reads 0 ∷ []

not-ignores_acks : Demand3For (with_reading ignores_acks) → ⊥
unfolding computing acknowledged_one ignores_acks
not-ignores_acks d =
    let z : ◌≡◌ {A = ℕ} 1 2 = (applied 36 _ d (replicate 4 0) acknowledged_one tt).released_agrees in
    omega arith

not-swaps_ids : Demand3For (with_card_opening swaps_ids) → ⊥
unfolding computing in_order swaps_ids kind kind_at
not-swaps_ids d =
    let z : ◌≡◌ {A = ℕ} 3 1 = ap (kind_at 0) (applied 36 _ d (replicate 10 0) in_order tt).answers_match in
    omega arith

sealed_two : List Event
sealed_two =
    opens 2 0 1 ∷ adds 0 4 (9 ∷ []) ∷ seals ∷ adds 0 5 (9 ∷ []) ∷ seals ∷ shows 0 ∷ receives 0 ∷ []

count_in : Expected → ℕ
count_in (expect_accepted c s run) = c
count_in (expect_again c run) = c
count_in expect_no_effect = 0

not-shows_other : Demand3For (with_showing shows_other) → ⊥
unfolding computing sealed_two shows_other count_in
not-shows_other d =
    let z : ◌≡◌ {A = ℕ} 1 0 =
    ap (λ xs. count_in (get_or xs 0 expect_no_effect)) (applied 36 _ d (replicate 6 0) sealed_two tt).answers_match in
    omega arith

-- Two messages are added of a transaction that takes one.
one_over : List Event
one_over = opens 1 0 1 ∷ adds 0 4 [] ∷ seals ∷ adds 0 4 [] ∷ []

not-opens_larger : Demand3For (with_opening opens_larger) → ⊥
unfolding computing one_over opens_larger
not-opens_larger d =
    let z : 2 ≤ 1 = (applied 36 _ d (replicate 4 0) one_over tt).none_over 0 (lit< tt) in
    omega arith

-- A card that adds nothing meets demand 3: the demand asks nothing to be sent. (Nor does it speak of the numbers that
-- opening and sealing hand back: a CardResult has none.)
adds-nothing : Demand3For adds_nothing
unfolding step enter by_card by_host acks_for initial
adds-nothing = demand3-by adds_nothing starts keeps
  where
    keeps : (card_id host_id : ℕ) (p : card_id < frame_space) (q : host_id < frame_space)
        → KeepsAgreement card_id host_id p q adds_nothing
    keeps c h p q w b f (calls (open_call count address value)) t i k =
        step-any c h p q w b f (calls (open_call count address value)) t i k
    keeps c h p q w b f (calls (add_call n at bytes)) t i k = stays c h p q w b f
    keeps c h p q w b f (calls seal_call) t i k = step-any c h p q w b f (calls seal_call) t i k
    keeps c h p q w b f (calls (read_call n)) t i k = step-any c h p q w b f (calls (read_call n)) t i k
    keeps c h p q w b f (calls (show_call n)) t i k = step-any c h p q w b f (calls (show_call n)) t i k
    keeps c h p q w b f (calls (choose_call ack)) t i k = step-any c h p q w b f (calls (choose_call ack)) t i k
    keeps c h p q w b f (receives n) t i k = step-any c h p q w b f (receives n) t i k
