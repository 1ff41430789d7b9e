-- The limits of lateness, at their edge: after n rounds frame 0 comes once more, or its acknowledgement does, n numbers
-- late. Up to 32,768 the list meets the premises, and demand 3 gives that the frame is answered "again", counted once
-- and not written again, and released once. At 32,769 the premise fails; the copy's number then lies ahead of the
-- host's window, and the host refuses it with 6; the card does nothing about the acknowledgement. Assumes nothing.
use Prim.Native.Nat.{ℕ, zero, suc, ◌+◌, ◌-◌, ◌≤◌, ◌<◌, min}
use native.Mathlib.Nat.{add-zero, mod-lt, mod-eq_of_lt}
use native.Mathlib.Omega.{arith}
use mathlib.Core.Path.{◌≡◌, refl, sym, ap, ◌∙◌, subst}
use mathlib.Core.Logic.{◌⊎◌, inl, inr}
use mathlib.Core.Bool.{Bool, true, false, cond}
use mathlib.Core.List.Memᴰ
use mathlib.Core.List.{List, [], ◌∷◌, ◌++◌, map, Memᴰ}
use mathlib.Core.Option.{some}
use borrow.Author.Tests.{le-leb, lt-leb}
use lib.Dec.{lit≤, lit<}
use lib.ListN.{length, get_or, get_elem?}
use Rattle.seq.specs.Ring.{distance, advance, frame_space}
use Rattle.seq.proofs.Ring.{distance-behind}
use Rattle.bitmap.specs.Marks.{mark, leading, trailing_ones, marks_of}
use Rattle.bitmap.proofs.Marks.{mark-marks_of, leading-fails}
use Rattle.host.specs.Host.{Received, unchanged, refused, receive_of}
use Rattle.host.proofs.Receiving.{by-number-ahead}
use Rattle.octets.specs.Octets.{little}
use Rattle.card.specs.declared.SendWindow.{SendWindow}
use Rattle.card.specs.Window.{unreleased, acknowledged_by, releasing, acknowledging}
use Rattle.card.specs.Card.{acknowledged}
use Rattle.delivery.specs.Book.{
  MessageRecord,
  FrameRecord,
  AckRange,
  covers,
  HandOut,
  frame_copy,
  Expected,
  expect_again,
  expect_no_effect,
  Book,
  messages_in,
  is_accepted,
  frame_at,
  lowest_not_accepted,
  released_count,
  accepted_messages,
  of_transaction,
  all_messages_in,
  perform,
  data_writes,
  completion_write,
  writes_of,
  book_writes,
  book_memory,
  change_at,
  mark_where,
  mark_acknowledged,
  mark_accepted,
  with_frames,
  enter_ack,
  enter_arrival,
  book_from,
  empty_book,
  book_of,
}
use Rattle.delivery.specs.System.{
  Event,
  reads,
  receives,
  System,
  RunResult,
  by_card,
  by_host,
  step,
  run,
  initial,
  specified,
}
use Rattle.delivery.specs.Demand3.{
  typed,
  all_typed,
  copy_late_most,
  ack_late_most,
  frame_in_time,
  ack_in_time,
  in_time,
  not_too_late,
  WritesAllowed,
  outcome_of,
  seen_as,
  numbered_as,
  messages_sum,
  Guarantees,
  Demand3For,
}
use Rattle.delivery.proofs.Lists.Check.{slots₀}
use Rattle.delivery.proofs.Book.Along.{still-at, last, last-is, last-plain}
use Rattle.delivery.proofs.Book.Writes.{perform-append}
use Rattle.delivery.proofs.Demand.{demand3}
use Rattle.delivery.proofs.Card.CardFor.{unreleased-is}
use Rattle.delivery.proofs.Card.CardSteps.{read-ack}
use Rattle.delivery.proofs.Lists.Entered.{ack-at, reading-entered}
use Rattle.delivery.proofs.Lists.NoBytes.{NoBytes, no_bytes}
use Rattle.delivery.proofs.Lists.Rounds.{
  message,
  done,
  past,
  past-length,
  past-at,
  past-done,
  past-leads,
  one_frame,
  run-through,
  past-where,
  bare,
  spent,
  spent-bare,
  round_memory,
  page,
  TermsFit,
  message-fits,
  bares,
  fitting-none,
  page-allowed,
}
use Rattle.delivery.proofs.Lists.RoundsRun.{
  rounds,
  For,
  card_fits,
  host_fits,
  round_copies,
  round_acks,
  Arrival,
  by-its-number,
  specified-in-turn,
  Leads,
  Leading,
  before,
  arrived,
  whole,
}

-- ---- the lists

late_copy : ℕ → List Event
late_copy n = rounds n 0 (receives 0 ∷ [])

late_ack : ℕ → List Event
late_ack n = rounds n 0 (reads 0 ∷ [])

abbrev pub ran : List Event → RunResult
ran events = run specified (initial specified 2 1 64 slots₀ round_memory) events

abbrev pub book_after : List Event → Book
book_after events = book_of round_memory (ran events).observations

-- The premises of demand 3 on a list, for a card 2 and a host 1.
pub record Premises (events : List Event) : Type 0 where
  pub typed_all : all_typed events ≡ true
  pub in_time_all : not_too_late (empty_book round_memory) (ran events).observations ≡ true
  pub writes : WritesAllowed (book_after events)

-- ---- after n rounds

pub first-copy : (n : ℕ) → 0 < n → get_elem? (round_copies n) 0 ≡ some (frame_copy 0)
unfolding round_copies
first-copy zero h = absurd (omega arith)
first-copy (suc zero) h = refl
first-copy (suc (suc n)) h =
    still-at (round_copies (suc n)) (frame_copy (suc n) ∷ []) 0 (frame_copy 0) (first-copy (suc n) (omega arith))

first-ack : (n : ℕ) → 0 < n → get_elem? (round_acks n) 0 ≡ some (one_frame 0)
unfolding round_acks
first-ack zero h = absurd (omega arith)
first-ack (suc zero) h = refl
first-ack (suc (suc n)) h = still-at (round_acks (suc n)) (one_frame (suc n) ∷ []) 0 (one_frame 0)
    (first-ack (suc n) (omega arith))

-- a frame that is through, marked again
past_same : (n : ℕ) (f : FrameRecord → FrameRecord) → ((t : ℕ) → f (done t) ≡ done t)
    → change_at (past 0 n []) 0 f ≡ past 0 n []
unfolding past change_at
past_same zero f q = refl
past_same (suc n) f q = ap {B = List FrameRecord} (λ x. x ∷ past 1 n []) (q 0)

-- the messages accepted: one for each round, without bytes
abbrev through : ℕ → List MessageRecord
through n = messages_in is_accepted (past 0 n [])

through-length : (k n : ℕ) → length (messages_in is_accepted (past k n [])) ≡ n
unfolding past messages_in
through-length k zero = refl
through-length k (suc n) = ap suc (through-length (suc k) n)

through_empty : (k n : ℕ) (e : MessageRecord) → Memᴰ e (messages_in is_accepted (past k n [])) → e.bytes ≡ []
unfolding past messages_in
through_empty k zero e m = absurd (Memᴰ.not-nil m)
through_empty k (suc n) e m = go (through_empty (suc k) n e) (Memᴰ.cases_cons m)
  where
    go : (Memᴰ e (messages_in is_accepted (past (suc k) n [])) → e.bytes ≡ [])
        → (e ≡ message k) ⊎ Memᴰ e (messages_in is_accepted (past (suc k) n [])) → e.bytes ≡ []
    go later (inl q) = rw q refl
    go later (inr x) = later x

-- Their completions write zeros over zeros.
no-data : (m : List ℕ) (es : List MessageRecord) → NoBytes es → perform m (data_writes es) ≡ m
unfolding data_writes perform
no-data m [] h = refl
no-data m (e ∷ es) h = rw h.0 (no-data m es h.1)

zeros : (x : Bool) → perform round_memory (cond x (completion_write bare ∷ []) []) ≡ round_memory
unfolding perform completion_write little round_memory
zeros true = refl
zeros false = refl

unwritten-from : (m j : ℕ) (es : List MessageRecord) → ((e : MessageRecord) → Memᴰ e es → e.bytes ≡ [])
    → perform round_memory (book_writes j (spent m []) es) ≡ round_memory
unfolding spent book_writes writes_of perform
unwritten-from zero j es h = refl
unwritten-from (suc m) j es h =
    perform-append round_memory (writes_of bare j es) (book_writes (suc j) (spent m []) es)
    ∙ ap (λ (x : List ℕ). perform x (book_writes (suc j) (spent m []) es)) one
    ∙ unwritten-from m (suc j) es h
  where
    one : perform round_memory (writes_of bare j es) ≡ round_memory
    one =
        perform-append round_memory (data_writes (of_transaction j es))
        (cond (all_messages_in bare j es) (completion_write bare ∷ []) [])
        ∙ ap (λ (x : List ℕ). perform x (cond (all_messages_in bare j es) (completion_write bare ∷ []) []))
        (no-data round_memory (of_transaction j es) (no_bytes j es h))
        ∙ zeros (all_messages_in bare j es)

module _ (n : ℕ) (hs : List HandOut) (ds : List AckRange) (ys : List Expected) where
  page-memory : book_memory (page n [] [] [] hs ds ys) ≡ round_memory
  unfolding book_memory
  page-memory = unwritten-from n 0 (through n) (through_empty 0 n)

module _ (n : ℕ) (some-round : 0 < n) (ys : List Expected) where
  abbrev pub now : Book
  now = page n [] [] [] (round_copies n) (round_acks n) ys

  pub lowest : lowest_not_accepted now ≡ n
  lowest = past-leads (λ x. x.accepted) (λ t. refl) n [] refl

  pub released : released_count now ≡ n
  released = past-leads (λ x. x.acknowledged) (λ t. refl) n [] refl

  first-through : frame_at now 0 ≡ done 0
  first-through = past-done 0 n 0 0 [] some-round refl

  -- the book after frame 0 came once more, and after its acknowledgement did
  abbrev pub copied : Book
  copied = page n [] [] [] (round_copies n) (round_acks n ++ (record { first = 0; many = min 255 n } ∷ []))
      (ys ++ (expect_again 0 (min 255 n) ∷ []))

  pub copy-entered : enter_arrival now 0 ≡ copied
  unfolding enter_arrival
  copy-entered =
      rw (ap (λ (x : FrameRecord). x.accepted) first-through, past_same n mark_accepted (λ t. refl), run-through n)

  ack-entered : enter_ack now (some (one_frame 0)) ≡ now
  unfolding enter_ack mark_where
  ack-entered = ap (λ (l : List FrameRecord). with_frames now l [])
      (past-where mark_acknowledged (λ t. refl) (covers (one_frame 0)) 0 n [])

  pub arrival : (w : System) → For w now → Arrival w now 0 0 (message 0)
  arrival w f = record {
    agree = f;
    copied = first-copy n some-round;
    holds = ap (λ (x : FrameRecord). x.messages) first-through;
    fits =
        message-fits (spent n []) 0
        (subst TermsFit (sym (spent-bare n 0 [] some-round))
        (record { count_fits = lit< tt; address-fits = lit< tt; value-fits = lit< tt }));
  }

-- ---- a copy in time

-- how the list ends: the book expects "again" last
record AgainLast (n : ℕ) (w : System) (b : Book) : Type 0 where
  hand_outs : List HandOut
  acks_due : List AckRange
  earlier : List Expected
  book_is : b ≡ page n [] [] [] hand_outs acks_due (earlier ++ (expect_again 0 (min 255 n) ∷ []))

copy-leads : (n : ℕ) → 0 < n → n ≤ 32768 → (ys : List Expected)
    → Leading specified specified-in-turn true (AgainLast n) (receives 0 ∷ [])
    (page n [] [] [] (round_copies n) (round_acks n) ys)
unfolding typed all_typed run book_from not_too_late in_time frame_in_time messages_in step
copy-leads n h few ys w f =
    before specified specified-in-turn true (AgainLast n) (receives 0) [] w (now n h ys) (copied n h ys) _ refl refl
    (rw (first-copy n h) (le-leb (lowest_not_accepted (now n h ys)) (0 + copy_late_most) (omega (arith, lowest n h ys))))
    (arrived specified specified-in-turn true (AgainLast n) w (now n h ys) 0 0 (message 0) (arrival n h ys w f)
    ∙ copy-entered n h ys)
    (record {
      fitting = refl;
      timing = refl;
      allowed = page-allowed n [] [] (fitting-none n) (bares []) _ _ _;
      reached = record { hand_outs = _; acks_due = _; earlier = ys; book_is = refl };
    })

-- What demand 3 gives: frame 0 was answered "again" at last, with a run of all n frames or of 255, n messages were
-- counted for n rounds, and memory is as it was.
record CopyAgain (n : ℕ) : Type 0 where
  premises : Premises (late_copy n)
  again : last expect_no_effect (map seen_as (ran (late_copy n)).system.answers) ≡ expect_again 0 (min 255 n)
  counted : messages_sum (ran (late_copy n)).system.answers ≡ n
  unwritten : (ran (late_copy n)).system.memory ≡ round_memory

pub guaranteed : (events : List Event) → Premises events
    → Guarantees (outcome_of (ran events).system) (book_after events)
unfolding Demand3For
guaranteed events p =
    demand3 2 1 64 slots₀ round_memory events specified-in-turn.opens_both
    p.typed_all p.in_time_all p.writes

-- Where n frames were sealed and all are through, the card has none left.
pub none_left_lem : (events : List Event) (n : ℕ) (hs : List HandOut) (ds : List AckRange) (ys : List Expected)
    → Premises events → book_after events ≡ page n [] [] [] hs ds ys
    → (length (book_after events).frames ≡ n) × (unreleased (ran events).system.card.window ≡ 0)
none_left_lem events n hs ds ys p e = (sealed, omega (arith, (guaranteed events p).released_agrees, sealed, free))
  where
    sealed : length (book_after events).frames ≡ n
    sealed = ap (λ (b : Book). length b.frames) e ∙ past-length 0 n [] ∙ add-zero n

    free : released_count (book_after events) ≡ n
    free = ap released_count e ∙ past-leads (λ x. x.acknowledged) (λ t. refl) n [] refl

copy-in-time : (n : ℕ) → 0 < n → n ≤ 32768 → CopyAgain n
unfolding late_copy numbered_as
copy-in-time n h few = go (whole specified specified-in-turn true (AgainLast n) n (receives 0 ∷ [])
    (copy-leads n h few))
  where
    go : Leads specified specified-in-turn true (AgainLast n) (late_copy n) (initial specified 2 1 64 slots₀ round_memory)
        (empty_book round_memory)
        → CopyAgain n
    go l =
        let p : Premises (late_copy n) =
        record {
          typed_all = l.fitting;
          in_time_all = l.timing;
          writes = l.allowed;
        } in
        let g = guaranteed (late_copy n) p in
        let e = l.reached in
        record {
          premises = p;
          again =
              ap (last expect_no_effect) g.answers_match
              ∙ ap (λ (b : Book). last expect_no_effect (map numbered_as b.expected)) e.book_is
              ∙ last-is numbered_as e.earlier (expect_again 0 (min 255 n)) expect_no_effect;
          counted = g.messages_agree ∙ ap (λ (b : Book). length (accepted_messages b)) e.book_is ∙ through-length 0 n;
          unwritten =
              g.memory_agrees ∙ ap book_memory e.book_is
              ∙ page-memory n e.hand_outs e.acks_due (e.earlier ++ (expect_again 0 (min 255 n) ∷ []));
        }

copy-at-limit : CopyAgain 32768
copy-at-limit = copy-in-time 32768 (lit< tt) (lit≤ tt)

-- ---- a copy too late

record CopyRefused (n : ℕ) : Type 0 where
  premise_fails : not_too_late (empty_book round_memory) (ran (late_copy n)).observations ≡ false
  answer : last (refused 0 0) (ran (late_copy n)).system.answers ≡ refused 6 0

abbrev RefusedLast : System → Book → Type 0
RefusedLast w b = last (refused 0 0) w.answers ≡ refused 6 0

late-leads : (n : ℕ) → 32768 < n → n ≤ 65472 → (ys : List Expected)
    → Leading specified specified-in-turn false RefusedLast (receives 0 ∷ [])
    (page n [] [] [] (round_copies n) (round_acks n) ys)
unfolding typed all_typed run book_from not_too_late in_time frame_in_time messages_in step by_host
late-leads n far few ys w f = record {
  fitting = refl;
  timing = rw (first-copy n h, lt-leb (lowest_not_accepted here) (0 + copy_late_most) (omega (arith, lowest n h ys))) refl;
  allowed =
      subst WritesAllowed (sym (arrived specified specified-in-turn true RefusedLast w here 0 0 (message 0) a
      ∙ copy-entered n h ys))
      (page-allowed n [] [] (fitting-none n) (bares []) _ _ _);
  reached =
      subst (λ (r : Received). last (refused 0 0) (w.answers ++ (r.answer ∷ [])) ≡ refused 6 0) (sym ahead)
      (last-plain w.answers (refused 6 0) (refused 0 0));
}
  where
    h : 0 < n
    h = omega arith

    here : Book
    here = now n h ys

    a : Arrival w here 0 0 (message 0)
    a = arrival n h ys w f

    d : distance frame_space w.host.next.0 0 ≡ 65536 - n
    d =
        rw (f.rest.host_for.next_is, lowest n h ys)
        (distance-behind frame_space (lit< tt) n 0 (omega arith) (omega arith) ∙ omega arith)

    ahead : receive_of w.host (get_or w.hand_outs 0 []) w.memory ≡ unchanged w.host w.memory (refused 6 0)
    ahead =
        by-its-number w here 0 0 (message 0) a
        ∙ by-number-ahead w.host w.memory 0 (65536 - n) _ (sym d) (omega arith) (omega arith)

copy-too-late : (n : ℕ) → 32768 < n → n ≤ 65472 → CopyRefused n
unfolding late_copy
copy-too-late n far few =
    let l = whole specified specified-in-turn false RefusedLast n (receives 0 ∷ []) (late-leads n far few) in
    record { premise_fails = l.timing; answer = l.reached }

-- ---- an acknowledgement

abbrev Through : ℕ → System → Book → Type 0
Through n w b = (hs : List HandOut) × (ds : List AckRange) × (ys : List Expected) × (b ≡ page n [] [] [] hs ds ys)

ack-leads : (n : ℕ) → 0 < n → n ≤ 32768 → (ys : List Expected)
    → Leading specified specified-in-turn true (Through n) (reads 0 ∷ [])
    (page n [] [] [] (round_copies n) (round_acks n) ys)
unfolding typed all_typed run book_from not_too_late in_time ack_in_time messages_in step
ack-leads n h few ys w f =
    before specified specified-in-turn true (Through n) (reads 0) [] w (now n h ys) (now n h ys) _ refl refl
    (rw (first-ack n h) (le-leb (released_count (now n h ys)) (0 + ack_late_most) (omega (arith, released n h ys))))
    (reading-entered 2 1 card_fits host_fits w (now n h ys) f 0 (one_frame 0) (first-ack n h) ∙ ack-entered n h ys)
    (record {
      fitting = refl;
      timing = refl;
      allowed = page-allowed n [] [] (fitting-none n) (bares []) _ _ _;
      reached = (_, _, ys, refl);
    })

-- What demand 3 gives: all n frames are released, and none twice.
record AckAgain (n : ℕ) : Type 0 where
  premises : Premises (late_ack n)
  released : length (book_after (late_ack n)).frames ≡ n
  none_left : unreleased (ran (late_ack n)).system.card.window ≡ 0

ack-in-time : (n : ℕ) → 0 < n → n ≤ 32768 → AckAgain n
unfolding late_ack
ack-in-time n h few = go (whole specified specified-in-turn true (Through n) n (reads 0 ∷ []) (ack-leads n h few))
  where
    go : Leads specified specified-in-turn true (Through n) (late_ack n) (initial specified 2 1 64 slots₀ round_memory)
        (empty_book round_memory)
        → AckAgain n
    go l =
        let p : Premises (late_ack n) =
        record {
          typed_all = l.fitting;
          in_time_all = l.timing;
          writes = l.allowed;
        } in
        let r = l.reached in
        let k = none_left_lem (late_ack n) n r.0 r.1 r.2 p r.3 in
        record { premises = p; released = k.0; none_left = k.1 }

ack-at-limit : AckAgain 32768
ack-at-limit = ack-in-time 32768 (lit< tt) (lit≤ tt)

-- ---- an acknowledgement too late

-- With nothing left to release there is nothing that a range could cover, however its numbers lie.
nothing_left : (w : SendWindow) (start count : ℕ) → unreleased w ≡ 0 → mark w.acked 0 ≡ false
    → w.base.0 < frame_space → unreleased (acknowledging w start count) ≡ 0
unfolding acknowledging releasing acknowledged_by advance trailing_ones
nothing_left w start count none clear fits =
    let unmarked : mark (marks_of 64 (acknowledged_by w start count)) 0 ≡ false =
    mark-marks_of 64 (acknowledged_by w start count) 0 (lit< tt) ∙ rw (clear, none) refl in
    let still : leading (mark (marks_of 64 (acknowledged_by w start count))) 64 ≡ 0 =
    omega (arith, leading-fails (mark (marks_of 64 (acknowledged_by w start count))) 64 0 unmarked) in
    rw (still, add-zero w.base.0, mod-eq_of_lt fits) none

-- The premise fails, and the card does nothing about it.
record AckIgnored (n : ℕ) : Type 0 where
  premise_fails : not_too_late (empty_book round_memory) (ran (late_ack n)).observations ≡ false
  none_left : unreleased (ran (late_ack n)).system.card.window ≡ 0

abbrev NoneLeft : System → Book → Type 0
NoneLeft w b = unreleased w.card.window ≡ 0

late-ack-leads : (n : ℕ) → 32768 < n → (ys : List Expected)
    → Leading specified specified-in-turn false NoneLeft (reads 0 ∷ [])
    (page n [] [] [] (round_copies n) (round_acks n) ys)
unfolding typed all_typed run book_from not_too_late in_time ack_in_time messages_in step by_card acknowledged
late-ack-leads n far ys w f = record {
  fitting = refl;
  timing = rw (first-ack n h, lt-leb (released_count here) (0 + ack_late_most) (omega (arith, released n h ys))) refl;
  allowed =
      subst WritesAllowed
      (sym (reading-entered 2 1 card_fits host_fits w here f 0 (one_frame 0) (first-ack n h) ∙ ack-entered n h ys))
      (page-allowed n [] [] (fitting-none n) (bares []) _ _ _);
  reached =
      rw (
        ack-at 2 1 card_fits host_fits w here f 0 (one_frame 0) (first-ack n h),
        read-ack 2 1 card_fits host_fits w here f 0 1 (lit< tt) (lit< tt) (lit< tt),
      )
      (nothing_left w.card.window 0 1 none clear (rw f.card_for.low_is (mod-lt (released_count here) (lit< tt))));
}
  where
    h : 0 < n
    h = omega arith

    here : Book
    here = now n h ys

    none : unreleased w.card.window ≡ 0
    none =
        omega (
          arith,
          unreleased-is w.card w.slots here f.card_for f.sound,
          released n h ys,
          past-length 0 n [],
        )

    clear : mark w.card.window.acked 0 ≡ false
    clear =
        f.card_for.marks_are 0
        ∙ ap (λ (x : FrameRecord). x.acknowledged)
        (past-at 0 n 0 (released_count here + 0) [] (omega (arith, released n h ys)))

ack-too-late : (n : ℕ) → 32768 < n → AckIgnored n
unfolding late_ack
ack-too-late n far =
    let l = whole specified specified-in-turn false NoneLeft n (reads 0 ∷ []) (late-ack-leads n far) in
    record { premise_fails = l.timing; none_left = l.reached }
