-- The limit of lateness for the acknowledgement of a long run, read on the run's first number. After n rounds a copy of
-- frame 0 comes, and its answer acknowledges n frames, at most 255. Read at once, that acknowledgement is n numbers
-- late: up to 32,768 the list meets the premises. One round later, at the limit, it is a number too late, though the
-- run's last number is not. Assumes nothing.
use Prim.Native.Nat.{ℕ, suc, ◌+◌, ◌%◌, ◌≤◌, ◌<◌, min}
use native.Mathlib.Omega.{arith}
use mathlib.Core.Path.{◌≡◌, refl, ap, ◌∙◌, sym, subst}
use mathlib.Core.Bool.{Bool, true, false}
use mathlib.Core.List.{List, [], ◌∷◌, ◌++◌}
use mathlib.Core.Option.{some}
use borrow.Author.Tests.{le-leb, lt-leb}
use lib.Dec.{lit≤, lit<}
use lib.ListN.{length, get_elem?, length-append}
use Rattle.seq.specs.Ring.{frame_space, trans_space}
use Rattle.card.specs.Window.{unreleased}
use Rattle.delivery.specs.Book.{
  FrameRecord,
  AckRange,
  covers,
  HandOut,
  frame_copy,
  Expected,
  Book,
  messages_in,
  released_count,
  lowest_not_accepted,
  mark_where,
  mark_acknowledged,
  with_frames,
  enter_ack,
  book_step,
  book_from,
  empty_book,
}
use Rattle.delivery.specs.System.{
  specified,
  Event,
  opens,
  adds,
  seals,
  reads,
  shows,
  receives,
  read_call,
  specified_card,
  specified_host,
  System,
  by_card,
  card_step,
  host_step,
  step,
  run,
  initial,
}
use Rattle.delivery.specs.Demand3.{
  copy_late_most,
  ack_late_most,
  typed,
  all_typed,
  frame_in_time,
  ack_in_time,
  in_time,
  not_too_late,
  WritesAllowed,
}
use Rattle.delivery.proofs.Book.Along.{still-at}
use Rattle.delivery.proofs.Host.Receive.{step-receives}
use Rattle.delivery.proofs.Lists.Check.{slots₀}
use Rattle.delivery.proofs.Lists.Entered.{reading-entered}
use Rattle.delivery.proofs.Lists.Rounds.{
  message,
  past-leads,
  past-where,
  one_frame,
  round_memory,
  page,
  bares,
  fitting-none,
  page-allowed,
}
use Rattle.delivery.proofs.Lists.RoundsRun.{
  rounds,
  For,
  card_fits,
  host_fits,
  seam,
  round_copies,
  round_acks,
  copies_length,
  acks-length,
  specified-in-turn,
  Leads,
  Leading,
  before,
  arrived,
  round,
  whole,
}
use Rattle.delivery.proofs.Lists.Late.{
  ran,
  book_after,
  Premises,
  none_left_lem,
  first-copy,
  now,
  lowest,
  copied,
  copy-entered,
  arrival,
}

-- ---- the lists

-- The run from frame 0 on, after n rounds.
abbrev run_of : ℕ → AckRange
run_of n = record { first = 0; many = min 255 n }

late_run : ℕ → List Event
late_run n = rounds n 0 (receives 0 ∷ reads n ∷ [])

-- one round in between
later_run : ℕ → List Event
later_run n =
    rounds n 0 (receives 0 ∷ opens 0 0 0 ∷ adds (n % trans_space) 0 [] ∷ seals ∷ shows (n % frame_space)
    ∷ receives n ∷ reads (suc n) ∷ reads n ∷ [])

-- ---- the copy, and its acknowledgement

module _ (timely : Bool) (End : System → Book → Type 0) where
  then-copy : (n : ℕ) (h : 0 < n) → n ≤ 32768 → (ys : List Expected) (xs : List Event)
      → Leading specified specified-in-turn timely End xs (copied n h ys)
      → Leading specified specified-in-turn timely End (receives 0 ∷ xs) (now n h ys)
  unfolding typed in_time frame_in_time step messages_in
  then-copy n h few ys xs later w f =
      before specified specified-in-turn timely End (receives 0) xs w (now n h ys) (copied n h ys) _ refl refl late came
      (later _ (subst (For (host_step specified_host w 0).system) came
      (step-receives 2 1 card_fits host_fits w (now n h ys) f 0 late
      (subst WritesAllowed (sym came) (page-allowed n [] [] (fitting-none n) (bares []) _ _ _)))))
    where
      late : in_time (now n h ys) (receives 0) ≡ true
      late =
          rw (first-copy n h)
          (le-leb (lowest_not_accepted (now n h ys)) (0 + copy_late_most) (omega (arith, lowest n h ys)))

      came : book_step (now n h ys) (host_step specified_host w 0).observation ≡ copied n h ys
      came =
          arrived specified specified-in-turn timely End w (now n h ys) 0 0 (message 0) (arrival n h ys w f)
          ∙ copy-entered n h ys

-- the run's acknowledgement, which is called for n-th, releases nothing more
module _ (n m : ℕ) (hs : List HandOut) (ds : List AckRange) (ys : List Expected)
    (due : get_elem? ds n ≡ some (run_of n)) where
  abbrev through : Book
  through = page m [] [] [] hs ds ys

  released : released_count through ≡ m
  released = past-leads (λ x. x.acknowledged) (λ t. refl) m [] refl

  run-entered : enter_ack through (some (run_of n)) ≡ through
  unfolding enter_ack mark_where
  run-entered = ap (λ (l : List FrameRecord). with_frames through l [])
      (past-where mark_acknowledged (λ t. refl) (covers (run_of n)) 0 m [])

  run-read : (w : System) → For w through
      → book_step through (card_step specified_card w (read_call n)).observation ≡ through
  run-read w f = reading-entered 2 1 card_fits host_fits w through f n (run_of n) due ∙ run-entered

  -- it is in time up to 32,768 numbers after its first, and too late after that
  run-timely : m ≤ 32768 → ack_in_time through (some (run_of n)) ≡ true
  unfolding ack_in_time
  run-timely h = le-leb (released_count through) (0 + ack_late_most) (omega (arith, released))

  run-late : 32768 < m → ack_in_time through (some (run_of n)) ≡ false
  unfolding ack_in_time
  run-late h = lt-leb (released_count through) (0 + ack_late_most) (omega (arith, released))

-- ---- in time

abbrev ReadRun : ℕ → System → Book → Type 0
ReadRun n w b =
    (hs : List HandOut) × (ys : List Expected) × (b ≡ page n [] [] [] hs (round_acks n ++ (run_of n ∷ [])) ys)

run-due : (n : ℕ) → get_elem? (round_acks n ++ (run_of n ∷ [])) n ≡ some (run_of n)
run-due n = seam (round_acks n) (run_of n) n (acks-length n)

run-leads : (n : ℕ) → 0 < n → n ≤ 32768 → (ys : List Expected)
    → Leading specified specified-in-turn true (ReadRun n) (receives 0 ∷ reads n ∷ [])
    (page n [] [] [] (round_copies n) (round_acks n) ys)
unfolding typed all_typed run book_from not_too_late in_time messages_in step
run-leads n h few ys =
    then-copy true (ReadRun n) n h few ys (reads n ∷ [])
    (λ w f. before specified specified-in-turn true (ReadRun n) (reads n) [] w (copied n h ys) (copied n h ys) _ refl
    refl (rw (run-due n) (run-timely n n (round_copies n) _ (copied n h ys).expected (run-due n) few))
    (run-read n n (round_copies n) _ (copied n h ys).expected (run-due n) w f)
    (record {
      fitting = refl;
      timing = refl;
      allowed = page-allowed n [] [] (fitting-none n) (bares []) _ _ _;
      reached = (_, _, refl);
    }))

-- The premises hold, and the acknowledgement that was read last is of the run; demand 3 gives that none is left.
record RunInTime (n : ℕ) : Type 0 where
  premises : Premises (late_run n)
  is_run : get_elem? (book_after (late_run n)).acks_due n ≡ some (run_of n)
  none_left : unreleased (ran (late_run n)).system.card.window ≡ 0

run-in-time : (n : ℕ) → 0 < n → n ≤ 32768 → RunInTime n
unfolding late_run
run-in-time n h few = go (whole specified specified-in-turn true (ReadRun n) n _ (run-leads n h few))
  where
    go : Leads specified specified-in-turn true (ReadRun n) (late_run n) (initial specified 2 1 64 slots₀ round_memory)
        (empty_book round_memory)
        → RunInTime n
    go l =
        let p : Premises (late_run n) =
        record {
          typed_all = l.fitting;
          in_time_all = l.timing;
          writes = l.allowed;
        } in
        let r = l.reached in
        record {
          premises = p;
          is_run = ap (λ (b : Book). get_elem? b.acks_due n) r.2 ∙ run-due n;
          none_left = (none_left_lem (late_run n) n r.0 (round_acks n ++ (run_of n ∷ [])) r.1 p r.2).1;
        }

-- 255 frames are acknowledged from frame 0 on, 32,768 numbers late.
run-at-limit : RunInTime 32768
run-at-limit = run-in-time 32768 (lit< tt) (lit≤ tt)

-- ---- a number too late

abbrev Anyhow : System → Book → Type 0
Anyhow w b = Unit {0}

-- hand-outs and acknowledgements after the copy and a round more
abbrev later_copies : List HandOut
later_copies = round_copies 32768 ++ (frame_copy 32768 ∷ [])

abbrev copy_acks : List AckRange
copy_acks = round_acks 32768 ++ (run_of 32768 ∷ [])

abbrev later_acks : List AckRange
later_acks = copy_acks ++ (one_frame 32768 ∷ [])

later-due : get_elem? later_acks 32768 ≡ some (run_of 32768)
later-due = still-at copy_acks (one_frame 32768 ∷ []) 32768 (run_of 32768) (run-due 32768)

last-leads : (zs : List Expected) → Leading specified specified-in-turn false Anyhow (reads 32768 ∷ [])
    (page 32769 [] [] [] later_copies later_acks zs)
unfolding typed all_typed run book_from not_too_late in_time messages_in step by_card
last-leads zs w f = record {
  fitting = refl;
  timing = rw (later-due, run-late 32768 32769 later_copies later_acks zs later-due (lit< tt)) refl;
  allowed =
      subst WritesAllowed (sym (run-read 32768 32769 later_copies later_acks zs later-due w f))
      (page-allowed 32769 [] [] (fitting-none 32769) (bares []) _ _ _);
  reached = tt;
}

later-leads : (ys : List Expected)
    → Leading specified specified-in-turn false Anyhow (receives 0 ∷ opens 0 0 0 ∷ adds (32768 % trans_space) 0 []
    ∷ seals ∷ shows (32768 % frame_space) ∷ receives 32768 ∷ reads 32769 ∷ reads 32768 ∷ [])
    (page 32768 [] [] [] (round_copies 32768) (round_acks 32768) ys)
later-leads ys =
    then-copy false Anyhow 32768 (lit< tt) (lit≤ tt) ys _
    (round specified specified-in-turn false Anyhow 32768 (round_copies 32768) copy_acks _ 32769 (copies_length 32768)
    many _ last-leads)
  where
    many : length copy_acks ≡ 32769
    many = omega (arith, length-append (round_acks 32768) (run_of 32768 ∷ []), acks-length 32768)

-- The run's last number, 254, is not too late there: it is the first that counts.
run-too-late : not_too_late (empty_book round_memory) (ran (later_run 32768)).observations ≡ false
unfolding later_run
run-too-late = (whole specified specified-in-turn false Anyhow 32768 _ later-leads).timing
