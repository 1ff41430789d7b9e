-- Demand 3 shuts out the older host, which takes a new frame for an old copy once frame numbers have wrapped: it
-- compares the 16-bit numbers plainly, so that frame 65,536, whose number is 0, lies "behind" while frame 65,535 is
-- awaited; and a frame that is behind it acknowledges and throws away. Nothing of this shows before the numbers come
-- round. So the list that refutes it brings 65,535 frames through in order, loses the next one and delivers the one
-- after. Assumes nothing.
use Prim.Native.Nat.{ℕ, suc, ◌%◌}
use native.Mathlib.Nat.{sub_self}
use native.Mathlib.Omega.{arith}
use mathlib.Core.Path.{◌≡◌, refl, sym, ap, ◌∙◌, subst}
use mathlib.Core.Bool.{Bool, true, false}
use mathlib.Core.List.{List, [], ◌∷◌, ◌++◌, map}
use borrow.Author.Tests.{ltb-true, ne_eqb}
use lib.Dec.{lit<}
use lib.ListN.{length, get_or}
use Rattle.seq.specs.Ring.{distance, frame_space}
use Rattle.seq.proofs.Ring.{distance-ahead}
use Rattle.wire.specs.Format.{Message}
use Rattle.wire.specs.Reading.{flags}
use Rattle.host.specs.declared.Pair.{Pair}
use Rattle.host.specs.Host.{Received, settled, again, by_number, receive_of}
use Rattle.delivery.specs.Book.{
  MessageRecord,
  Transaction,
  no_transaction,
  FrameRecord,
  AckRange,
  HandOut,
  frame_copy,
  Expected,
  expect_no_effect,
  Book,
  messages_in,
  frame_at,
  lowest_not_accepted,
  accepted_messages,
  change_at,
  mark_accepted,
  ack_of,
  first_answer,
  enter_arrival,
  book_from,
}
use Rattle.delivery.specs.System.{
  Event,
  opens,
  adds,
  seals,
  shows,
  receives,
  System,
  acks_for,
  by_host,
  step,
  run,
  specified_host,
  host_step,
}
use Rattle.delivery.specs.Demand3.{
  typed,
  all_typed,
  not_too_late,
  outcome_of,
  seen_as,
  numbered_as,
  Guarantees,
  Demand3For,
}
use Rattle.delivery.specs.WrongEnds.{plainly_behind, numbered_plainly, answered_plainly, compares_plainly, older}
use Rattle.delivery.proofs.Host.HostStep.{wired, low}
use Rattle.delivery.proofs.Lists.Check.{slots₀}
use Rattle.delivery.proofs.Wrong.Excluded.{kind}
use Rattle.delivery.proofs.Book.Along.{last, last-is}
use Rattle.delivery.proofs.Lists.RoundsRun.{
  rounds,
  round_copies,
  round_acks,
  copies_length,
  Arrival,
  read,
  has-messages,
  number_is,
  by-its-number,
  InTurn,
  host-in-turn,
  seam,
  Leading,
  before,
  not_late,
  arrived,
  then-showing,
  two-sealed,
  whole,
}
use Rattle.delivery.proofs.Lists.Rounds.{
  message,
  sealed_frame,
  accepted_frame,
  past,
  past-change,
  past-at,
  past-leads,
  double,
  spent,
  spent-at,
  round_memory,
  page,
  TermsFit,
  message-fits,
  bares,
  fitting-one,
  page-allowed,
}

-- ---- the list

-- After the rounds two more frames are sealed. The first is never handed out. The second has number 0, and it arrives.
abbrev after : ℕ → List Event
after n = opens 2 0 0 ∷ adds n 0 [] ∷ seals ∷ adds n 0 [] ∷ seals ∷ shows 0 ∷ receives n ∷ []

events : List Event
events = rounds 65535 0 (after 65535)

abbrev Wrong : System → Book → Type 0
Wrong w b = Guarantees (outcome_of w) b → ⊥

-- ---- how the older host answers

pub not_behind : (n : ℕ) → plainly_behind n n ≡ false
unfolding plainly_behind
not_behind n = go (plainly_behind n n) refl
  where
    go : (y : Bool) → plainly_behind n n ≡ y → y ≡ false
    go false q = refl
    go true q = absurd (omega (arith, ltb-true))

module _ (w : System) (b : Book) (k c : ℕ) (e : MessageRecord) (a : Arrival w b k c e) where
  abbrev h : Pair
  h = w.host

  abbrev frame : List ℕ
  frame = get_or w.hand_outs k []

  abbrev num : ℕ
  num = c % frame_space

  abbrev m : Message
  m = wired b.transactions e

  plainly : compares_plainly h frame w.memory ≡ numbered_plainly h w.memory num (m ∷ [])
  unfolding compares_plainly
  plainly =
      ap (answered_plainly h frame w.memory) (read w b k c e a)
      ∙ rw (ne_eqb (flags frame) 0 (has-messages w b k c e a))
      (ap (λ (n : ℕ). numbered_plainly h w.memory n (m ∷ [])) (number_is w b k c e a))

  -- the frame that is awaited: as the rules say
  in-turn : lowest_not_accepted b ≡ c → low b.transactions (accepted_messages b) ≡ e.trans
      → step older w (receives k) ≡ host_step specified_host w k
  unfolding step by_host acks_for numbered_plainly settled by_number
  in-turn awaited lowest = rw same
    where
      next-is : h.next.0 ≡ num
      next-is = a.agree.rest.host_for.next_is ∙ ap (λ (n : ℕ). n % frame_space) awaited

      no_distance : distance frame_space num num ≡ 0
      no_distance = distance-ahead frame_space (lit< tt) c c (omega arith) (omega arith) ∙ sub_self c

      alike : numbered_plainly h w.memory num (m ∷ []) ≡ by_number h w.memory num (m ∷ [])
      alike = rw (next-is, not_behind num, no_distance)

      same : compares_plainly h frame w.memory ≡ receive_of h frame w.memory
      same = plainly ∙ alike ∙ sym (by-its-number w b k c e a)

  -- a frame whose number is below the awaited one's: "again", whether it is a copy or new
  says-again : plainly_behind num (lowest_not_accepted b % frame_space) ≡ true
      → compares_plainly h frame w.memory ≡ again h w.memory num
  unfolding numbered_plainly
  says-again q = plainly ∙ rw (a.agree.rest.host_for.next_is, q)

-- ---- the list, from its end on

older-in-turn : InTurn older
older-in-turn = host-in-turn compares_plainly in-turn

module _ (n : ℕ) (is : n ≡ 65535) (hs : List HandOut) (ds : List AckRange) (ys : List Expected) where
  abbrev two : List FrameRecord
  two = sealed_frame n ∷ sealed_frame n ∷ []

  abbrev terms : List Transaction
  terms = double ∷ []

  -- The book expects frame 65,536 to be accepted, and the older host, which awaits frame 65,535, answers "again".
  lost : length hs ≡ n → Leading older older-in-turn true Wrong (receives n ∷ [])
      (page n terms two [] (hs ++ (frame_copy (suc n) ∷ [])) ds ys)
  unfolding plainly_behind typed all_typed not_too_late run book_from step by_host messages_in enter_arrival change_at seen_as
      numbered_as kind
  lost long w f =
      before older older-in-turn true Wrong (receives n) [] w b b' _ refl refl
      (not_late older older-in-turn true Wrong w b n (suc n) (message n) arrival (omega (arith, lowest)))
      (arrived older older-in-turn true Wrong w b n (suc n) (message n) arrival
      ∙ rw (new, past-change 0 n 1 (suc n) two mark_accepted (omega arith)))
      (record {
        fitting = refl;
        timing = refl;
        allowed = page-allowed n terms (sealed_frame n ∷ accepted_frame n ∷ []) (fitting-one n 2 0) (bares (n ∷ n ∷ [])) _
            _ _;
        reached = λ g. differ g.answers_match;
      })
    where
      b : Book
      b = page n terms two [] (hs ++ (frame_copy (suc n) ∷ [])) ds ys

      expects : Expected
      expects = first_answer b (suc n) (past 0 n (sealed_frame n ∷ accepted_frame n ∷ []))

      b' : Book
      b' = page n terms (sealed_frame n ∷ accepted_frame n ∷ []) [] (hs ++ (frame_copy (suc n) ∷ []))
          (ds ++ (ack_of (past 0 n (sealed_frame n ∷ accepted_frame n ∷ [])) (suc n) ∷ []))
          (ys ++ (expects ∷ []))

      there : frame_at b (suc n) ≡ sealed_frame n
      there = past-at 0 n 1 (suc n) two (omega arith)

      new : (frame_at b (suc n)).accepted ≡ false
      new = ap (λ (x : FrameRecord). x.accepted) there

      fit : TermsFit (get_or (spent n terms) n no_transaction)
      fit =
          subst TermsFit (sym (spent-at n 0 n terms (omega arith)))
          (record { count_fits = lit< tt; address-fits = lit< tt; value-fits = lit< tt })

      arrival : Arrival w b n (suc n) (message n)
      arrival = record {
        agree = f;
        copied = seam hs (frame_copy (suc n)) n long;
        holds = ap (λ (x : FrameRecord). x.messages) there;
        fits = message-fits (spent n terms) n fit;
      }

      lowest : lowest_not_accepted b ≡ n
      lowest = past-leads (λ x. x.accepted) (λ t. refl) n two refl

      -- number 0 against number 65,535
      compared : plainly_behind (suc n % frame_space) (lowest_not_accepted b % frame_space) ≡ true
      compared = rw (lowest, is) refl

      received : Received
      received = compares_plainly w.host (get_or w.hand_outs n []) w.memory

      answered : received ≡ again w.host w.memory (suc n % frame_space)
      answered = says-again w b n (suc n) (message n) arrival compared

      differ : map seen_as (w.answers ++ (received.answer ∷ [])) ≡ map numbered_as (ys ++ (expects ∷ [])) → ⊥
      differ q =
          let z : ◌≡◌ {A = ℕ} 2 1 =
          ap (λ (r : Received). kind (seen_as r.answer)) (sym answered)
          ∙ ap kind (sym (last-is seen_as w.answers received.answer expect_no_effect))
          ∙ ap (λ (l : List Expected). kind (last expect_no_effect l)) q
          ∙ ap kind (last-is numbered_as ys expects expect_no_effect) in
          omega arith

  after-rounds : length hs ≡ n → Leading older older-in-turn true Wrong (after n) (page n [] [] [] hs ds ys)
  after-rounds long =
      two-sealed older older-in-turn true Wrong n n hs ds ys (omega arith) _
      (then-showing older older-in-turn true Wrong n terms two hs ds ys refl 1 (suc n) 0 (lit< tt) (omega arith)
      (omega arith) refl _ (lost long))

-- ---- the theorem

not-older : Demand3For older → ⊥
unfolding Demand3For events
not-older d =
    let r = whole older older-in-turn true Wrong 65535 (after 65535)
    (λ zs. after-rounds 65535 refl (round_copies 65535) (round_acks 65535) zs (copies_length 65535)) in
    r.reached
    (d 2 1 64 slots₀ round_memory events older-in-turn.opens_both r.fitting r.timing r.allowed)
