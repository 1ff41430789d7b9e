-- Demand 3 shuts out a card that compares frame numbers by plain less-than where it reads acknowledgements. Nothing of
-- it shows before the numbers wrap: so the list that refutes it brings 65,535 frames through, seals two more and
-- has the acknowledgement of the second, whose number is 0, come first. The card takes it for an old one, and has a
-- frame left in the end. Assumes nothing.
use Prim.Native.Nat.{ℕ, suc, ◌+◌, ◌%◌, ◌≤◌, ◌<◌}
use native.Mathlib.Nat.{mod-lt}
use native.Mathlib.Decide.{dec_lt, ℕ_discrete}
use native.Mathlib.Omega.{arith}
use mathlib.Core.Path.{◌≡◌, refl, sym, ap, ◌∙◌, subst}
use mathlib.Core.Bool.{true, false}
use mathlib.Core.List.{List, [], ◌∷◌, ◌++◌}
use mathlib.Core.Option.{some}
use borrow.Author.Tests.{le-leb, lt-leb, lt-ltb, le-ltb}
use lib.Dec.{lit<}
use lib.ListN.{length, get_or, get_elem?, length-append}
use Rattle.seq.specs.Ring.{frame_space}
use Rattle.bitmap.proofs.Marks.{leading-is, leading-fails}
use Rattle.wire.specs.Reading.{ack_start}
use Rattle.wire.proofs.RoundTrip.{ack-start}
use Rattle.delivery.specs.Book.{
  Transaction,
  no_transaction,
  FrameRecord,
  no_frame,
  AckRange,
  covers,
  HandOut,
  frame_copy,
  Expected,
  Book,
  messages_in,
  released_count,
  lowest_not_accepted,
  change_at,
  mark_where,
  mark_acknowledged,
  with_frames,
  enter_ack,
  enter,
  book_step,
  book_from,
}
use Rattle.delivery.specs.System.{
  CardResult,
  handed_over,
  Implementation,
  specified_card,
  Event,
  opens,
  adds,
  seals,
  reads,
  shows,
  receives,
  read_call,
  System,
  by_card,
  card_step,
  step,
  run,
}
use Rattle.delivery.specs.Demand3.{
  ack_late_most,
  typed,
  all_typed,
  ack_in_time,
  in_time,
  not_too_late,
  outcome_of,
  Guarantees,
  Demand3For,
}
use Rattle.delivery.specs.WrongEnds.{plainly_behind, reads_plainly, with_reading}
use Rattle.delivery.proofs.Book.Along.{still-at}
use Rattle.delivery.proofs.Card.CardFor.{unreleased-is}
use Rattle.delivery.proofs.Card.CardSteps.{stays, read-ack, step-reads}
use Rattle.delivery.proofs.Lists.Check.{slots₀}
use Rattle.delivery.proofs.Lists.Entered.{ack-at, reading-entered}
use Rattle.delivery.proofs.Wrong.Older.{not_behind}
use Rattle.delivery.proofs.Lists.RoundsRun.{
  rounds,
  For,
  card_fits,
  host_fits,
  round_copies,
  round_acks,
  copies_length,
  acks-length,
  InTurn,
  card-in-turn,
  seam,
  Leading,
  before,
  then-showing,
  then-receiving,
  two-sealed,
  whole,
}
use Rattle.delivery.proofs.Lists.Rounds.{
  sealed_frame,
  accepted_frame,
  done,
  past,
  past-length,
  past-where,
  past-at,
  past-done,
  past-leads,
  one_frame,
  run_alone,
  double,
  spent,
  spent-at,
  round_memory,
  page,
  TermsFit,
  bares,
  fitting-one,
  page-allowed,
}

abbrev ends : Implementation
ends = with_reading reads_plainly

-- ---- the list

-- After the rounds two frames are sealed and handed out, and both arrive. Of their acknowledgements that of the second,
-- whose number is 0, comes first.
abbrev after : ℕ → List Event
after n =
    opens 2 0 0 ∷ adds n 0 [] ∷ seals ∷ adds n 0 [] ∷ seals ∷ shows 65535 ∷ shows 0
    ∷ receives n ∷ receives (suc n) ∷ reads (suc n) ∷ reads n ∷ []

events : List Event
events = rounds 65535 0 (after 65535)

abbrev Wrong : System → Book → Type 0
Wrong w b = Guarantees (outcome_of w) b → ⊥

-- ---- how the card reads

module _ (w : System) (b : Book) (k c : ℕ) (f : For w b) (due : get_elem? b.acks_due k ≡ some (one_frame c)) where
  abbrev ack : List ℕ
  ack = get_or w.acks k []

  num-fits : c % frame_space < frame_space
  num-fits = mod-lt c (lit< tt)

  start_is : ack_start ack ≡ c % frame_space
  start_is =
      ap ack_start (ack-at 2 1 card_fits host_fits w b f k (one_frame c) due)
      ∙ ack-start 2 1 0 (c % frame_space) 1 card_fits host_fits (lit< tt) num-fits (lit< tt)

  base-is : w.card.window.base.0 ≡ released_count b % frame_space
  base-is = f.card_for.low_is

  unrefused : (specified_card.reading w.card w.slots ack).refusal ≡ 0
  unrefused =
      rw (
        ack-at 2 1 card_fits host_fits w b f k (one_frame c) due,
        read-ack 2 1 card_fits host_fits w b f (c % frame_space) 1 num-fits (lit< tt) (lit< tt),
      )
      refl

  -- the acknowledgement of the oldest frame: as the rules say
  in-turn : released_count b ≡ c → step ends w (reads k) ≡ card_step specified_card w (read_call k)
  unfolding step reads_plainly
  in-turn oldest = rw none
    where
      none : plainly_behind (ack_start ack) w.card.window.base.0 ≡ false
      none = rw (start_is, base-is, oldest) (not_behind (c % frame_space))

  -- one whose number is below the oldest one's: nothing is done about it
  ignored : plainly_behind (c % frame_space) (released_count b % frame_space) ≡ true
      → reads_plainly w.card w.slots ack ≡ handed_over 0 w.card w.slots []
  unfolding reads_plainly
  ignored below = rw (less, unrefused)
    where
      less : plainly_behind (ack_start ack) w.card.window.base.0 ≡ true
      less = rw (start_is, base-is) below

turns : InTurn ends
turns = card-in-turn reads_plainly in-turn

-- ---- the list, from its end on

module _ (n : ℕ) (is : n ≡ 65535) where
  abbrev terms : List Transaction
  terms = double ∷ []

  fit : TermsFit (get_or (spent n terms) n no_transaction)
  fit =
      subst TermsFit (sym (spent-at n 0 n terms (omega arith)))
      (record { count_fits = lit< tt; address-fits = lit< tt; value-fits = lit< tt })

  -- the acknowledgements of the two frames, each for its own
  second-marked : (x y : FrameRecord)
      → mark_where (λ i. covers (one_frame (suc n)) (n + i)) mark_acknowledged (x ∷ y ∷ []) ≡ x ∷ mark_acknowledged y ∷ []
  unfolding mark_where
  second-marked x y =
      rw (
        lt-leb (suc n) (n + 0) (omega arith),
        le-leb (suc n) (n + 1) (omega arith),
        lt-ltb (n + 1) (suc n + 1) (omega arith),
      )
      refl

  first-marked : (x y : FrameRecord)
      → mark_where (λ i. covers (one_frame n) (n + i)) mark_acknowledged (x ∷ y ∷ []) ≡ mark_acknowledged x ∷ y ∷ []
  unfolding mark_where
  first-marked x y =
      rw (
        le-leb n (n + 0) (omega arith),
        lt-ltb (n + 0) (n + 1) (omega arith),
        le-leb n (n + 1) (omega arith),
        le-ltb (n + 1) (n + 1) (omega arith),
      )
      refl

  module _ (hs : List HandOut) (ds : List AckRange) (ys : List Expected) where
    abbrev with-frames : FrameRecord → FrameRecord → Book
    with-frames x y = page n terms (x ∷ y ∷ []) [] hs ds ys

    released-two : released_count (with-frames (done n) (done n)) ≡ n + 2
    released-two =
        leading-is (λ c. (get_or (past 0 n two) c no_frame).acknowledged) (length (past 0 n two)) (n + 2)
        (omega (arith, past-length 0 n two)) (λ i h. all i h (dec_lt i n) (ℕ_discrete i n))
        (λ h. absurd (omega (arith, past-length 0 n two)))
      where
        two : List FrameRecord
        two = done n ∷ done n ∷ []

        all : (i : ℕ) → i < n + 2 → Dec (i < n) → Dec (i ≡ n) → (get_or (past 0 n two) i no_frame).acknowledged ≡ true
        all i h (yes p) q = ap (λ (x : FrameRecord). x.acknowledged) (past-done 0 n i i two p (omega arith))
        all i h (no p) (yes q) = ap (λ (x : FrameRecord). x.acknowledged) (past-at 0 n 0 i two (omega arith))
        all i h (no p) (no q) = ap (λ (x : FrameRecord). x.acknowledged) (past-at 0 n 1 i two (omega arith))

    accepted-one : lowest_not_accepted (with-frames (accepted_frame n) (sealed_frame n)) ≤ n + 1
    accepted-one =
        leading-fails (λ c. (get_or (past 0 n two) c no_frame).accepted) (length (past 0 n two)) (n + 1)
        (ap (λ (x : FrameRecord). x.accepted) (past-at 0 n 1 (n + 1) two (omega arith)))
      where
        two : List FrameRecord
        two = accepted_frame n ∷ sealed_frame n ∷ []

    released-one : released_count (with-frames (done n) (accepted_frame n)) ≡ n + 1
    released-one =
        leading-is (λ c. (get_or (past 0 n two) c no_frame).acknowledged) (length (past 0 n two)) (n + 1)
        (omega (arith, past-length 0 n two)) (λ i h. all i h (dec_lt i n))
        (λ h. ap (λ (x : FrameRecord). x.acknowledged) (past-at 0 n 1 (n + 1) two (omega arith)))
      where
        two : List FrameRecord
        two = done n ∷ accepted_frame n ∷ []

        all : (i : ℕ) → i < n + 1 → Dec (i < n) → (get_or (past 0 n two) i no_frame).acknowledged ≡ true
        all i h (yes p) = ap (λ (x : FrameRecord). x.acknowledged) (past-done 0 n i i two p (omega arith))
        all i h (no p) = ap (λ (x : FrameRecord). x.acknowledged) (past-at 0 n 0 i two (omega arith))

    -- Both acknowledgements are read, that of the second frame first.
    left_over : get_elem? ds (suc n) ≡ some (one_frame (suc n)) → get_elem? ds n ≡ some (one_frame n)
        → Leading ends turns true Wrong (reads (suc n) ∷ reads n ∷ []) (with-frames (accepted_frame n) (accepted_frame n))
    unfolding plainly_behind typed all_typed in_time ack_in_time not_too_late run book_from step by_card enter enter_ack
        messages_in
    left_over second first w f =
        before ends turns true Wrong (reads (suc n)) (reads n ∷ []) w b b₁ (by_card w (read_call (suc n)) unread)
        (ap (by_card w (read_call (suc n))) (ignored w b (suc n) (suc n) f second compared)) refl late₁ entered₁
        (before ends turns true Wrong (reads n) [] w₁ b₁ b₂ _ (in-turn w₁ b n n g first released) refl late₂
        entered₂
        (record {
          fitting = refl;
          timing = refl;
          allowed = page-allowed n terms (done n ∷ done n ∷ []) (fitting-one n 2 0) (bares (n ∷ n ∷ [])) _ _ _;
          reached = λ k. omega (
            arith,
            k.released_agrees,
            released-two,
            released-one,
            past-length 0 n (done n ∷ done n ∷ []),
            past-length 0 n (done n ∷ accepted_frame n ∷ []),
            unreleased-is w₂.card w₂.slots (with-frames (done n) (accepted_frame n)) later.card_for
                later.sound,
          );
        }))
      where
        b : Book
        b = with-frames (accepted_frame n) (accepted_frame n)

        b₁ : Book
        b₁ = with-frames (accepted_frame n) (done n)

        b₂ : Book
        b₂ = with-frames (done n) (done n)

        unread : CardResult
        unread = handed_over 0 w.card w.slots []

        w₁ : System
        w₁ = (by_card w (read_call (suc n)) unread).system

        -- the card is as it was before
        g : For w₁ b
        g = stays 2 1 card_fits host_fits w b f

        released : released_count b ≡ n
        released = past-leads (λ x. x.acknowledged) (λ t. refl) n (accepted_frame n ∷ accepted_frame n ∷ []) refl

        released₁ : released_count b₁ ≡ n
        released₁ = past-leads (λ x. x.acknowledged) (λ t. refl) n (accepted_frame n ∷ done n ∷ []) refl

        -- number 0 against number 65,535
        compared : plainly_behind (suc n % frame_space) (released_count b % frame_space) ≡ true
        compared = rw (released, is) refl

        late₁ : in_time b (reads (suc n)) ≡ true
        late₁ = rw second (le-leb (released_count b) (suc n + ack_late_most) (omega (arith, released)))

        late₂ : in_time b₁ (reads n) ≡ true
        late₂ = rw first (le-leb (released_count b₁) (n + ack_late_most) (omega (arith, released₁)))

        late : in_time b (reads n) ≡ true
        late = rw first (le-leb (released_count b) (n + ack_late_most) (omega (arith, released)))

        entered₁ : book_step b (by_card w (read_call (suc n)) unread).observation ≡ b₁
        entered₁ =
            rw second
            (ap (λ (l : List FrameRecord). with_frames b l [])
            (past-where mark_acknowledged (λ t. refl) (covers (one_frame (suc n))) 0 n
            (accepted_frame n ∷ accepted_frame n ∷ [])
            ∙ ap (past 0 n) (second-marked (accepted_frame n) (accepted_frame n))))

        w₂ : System
        w₂ = (card_step specified_card w₁ (read_call n)).system

        read-second : book_step b (card_step specified_card w₁ (read_call n)).observation
            ≡ with-frames (done n) (accepted_frame n)
        read-second =
            reading-entered 2 1 card_fits host_fits w₁ b g n (one_frame n) first
            ∙ ap (λ (l : List FrameRecord). with_frames b l [])
            (past-where mark_acknowledged (λ t. refl) (covers (one_frame n)) 0 n (accepted_frame n ∷ accepted_frame n ∷ [])
            ∙ ap (past 0 n) (first-marked (accepted_frame n) (accepted_frame n)))

        later : For w₂ (with-frames (done n) (accepted_frame n))
        later = subst (For w₂) read-second (step-reads 2 1 card_fits host_fits w₁ b g n late)

        unrefused₂ : (specified_card.reading w₁.card w₁.slots (get_or w₁.acks n [])).refusal ≡ 0
        unrefused₂ = unrefused w₁ b n n g first

        entered₂ : book_step b₁ (card_step specified_card w₁ (read_call n)).observation ≡ b₂
        entered₂ =
            rw (unrefused₂, first)
            (ap (λ (l : List FrameRecord). with_frames b₁ l [])
            (past-where mark_acknowledged (λ t. refl) (covers (one_frame n)) 0 n (accepted_frame n ∷ done n ∷ [])
            ∙ ap (past 0 n) (first-marked (accepted_frame n) (done n))))

  module _ (hs : List HandOut) (ds : List AckRange) (ys : List Expected) where
    after-rounds : length hs ≡ n → length ds ≡ n → Leading ends turns true Wrong (after n) (page n [] [] [] hs ds ys)
    unfolding change_at messages_in step
    after-rounds long due =
        two-sealed ends turns true Wrong n n hs ds ys (omega arith) _
        (then-showing ends turns true Wrong n terms two hs ds ys refl 0 n 65535 (lit< tt) (omega arith) (rw is refl)
        refl _
        (then-showing ends turns true Wrong n terms two hs₁ ds ys refl 1 (suc n) 0 (lit< tt) (omega arith) (rw is refl)
        refl
        _
        (then-receiving ends turns true Wrong n terms two hs₂ ds ys refl 0 n n n (omega arith) refl fit
        (still-at hs₁ (frame_copy (suc n) ∷ []) n (frame_copy n) (seam hs (frame_copy n) n long))
        (omega (arith, past-leads (λ x. x.accepted) (λ t. refl) n two refl))
        (run_alone n 0 n (accepted_frame n ∷ sealed_frame n ∷ []) (omega arith) refl refl)
        (page-allowed n terms (accepted_frame n ∷ sealed_frame n ∷ []) (fitting-one n 2 0) (bares (n ∷ n ∷ [])) _ _ _)
        (λ w a. refl) _
        (λ zs. then-receiving ends turns true Wrong n terms (accepted_frame n ∷ sealed_frame n ∷ []) hs₂ ds₁ zs refl 1
        (suc n) n (suc n) (omega arith) refl fit
        (seam hs₁ (frame_copy (suc n)) (suc n) (omega (arith, length-append hs (frame_copy n ∷ []))))
        (omega (arith, accepted-one hs₂ ds₁ zs))
        (run_alone n 1 (suc n) (accepted_frame n ∷ accepted_frame n ∷ []) (omega arith) refl refl)
        (page-allowed n terms (accepted_frame n ∷ accepted_frame n ∷ []) (fitting-one n 2 0) (bares (n ∷ n ∷ [])) _ _ _)
        (λ w a. refl) _
        (λ vs. left_over hs₂ ds₂ vs
        (seam ds₁ (one_frame (suc n)) (suc n) (omega (arith, length-append ds (one_frame n ∷ []))))
        (still-at ds₁ (one_frame (suc n) ∷ []) n (one_frame n) (seam ds (one_frame n) n due)))))))
      where
        two : List FrameRecord
        two = sealed_frame n ∷ sealed_frame n ∷ []

        hs₁ : List HandOut
        hs₁ = hs ++ (frame_copy n ∷ [])

        hs₂ : List HandOut
        hs₂ = hs₁ ++ (frame_copy (suc n) ∷ [])

        ds₁ : List AckRange
        ds₁ = ds ++ (one_frame n ∷ [])

        ds₂ : List AckRange
        ds₂ = ds₁ ++ (one_frame (suc n) ∷ [])

-- ---- the theorem

not-reads_plainly : Demand3For ends → ⊥
unfolding Demand3For events
not-reads_plainly d =
    let r = whole ends turns true Wrong 65535 (after 65535)
    (λ zs. after-rounds 65535 refl (round_copies 65535) (round_acks 65535) zs (copies_length 65535)
    (acks-length 65535)) in
    r.reached (d 2 1 64 slots₀ round_memory events turns.opens_both r.fitting r.timing r.allowed)
