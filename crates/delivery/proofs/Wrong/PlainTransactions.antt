-- Demand 3 shuts out a host that compares transaction numbers by plain less-than. Nothing of it shows before these
-- numbers wrap: so the list that refutes it brings 4,294,967,295 transactions through, opens two more and
-- delivers the message of the second, whose number is 0. Assumes nothing.
use Prim.Native.Nat.{ℕ, suc, ◌%◌}
use native.Mathlib.Omega.{arith}
use mathlib.Core.Path.{◌≡◌, refl, sym, ap, ◌∙◌, subst}
use mathlib.Core.Bool.{Bool, true, false, and-false}
use mathlib.Core.List.{List, [], ◌∷◌, ◌++◌, map}
use lib.Dec.{lit≤, lit<}
use lib.ListN.{length, get_or}
use Rattle.seq.specs.Ring.{trans_space}
use Rattle.wire.specs.Format.{needed}
use Rattle.wire.specs.Reading.{addressed, read_frame}
use Rattle.host.specs.declared.Pair.{Pair}
use Rattle.host.specs.declared.Answer.{Answer}
use Rattle.host.specs.declared.Answer.TheVariants.{Accepted, Again, NoMessages, Refused}
use Rattle.host.specs.Host.{Received, receive_of}
use Rattle.delivery.specs.Book.{
  MessageRecord,
  Transaction,
  no_transaction,
  FrameRecord,
  AckRange,
  ack_of,
  HandOut,
  frame_copy,
  Expected,
  expect_no_effect,
  Book,
  messages_in,
  frame_at,
  lowest_not_accepted,
  accepted_messages,
  of_transaction,
  unfinished_from,
  unfinished,
  change_at,
  mark_accepted,
  first_answer,
  enter_arrival,
  book_from,
}
use Rattle.delivery.specs.System.{
  Implementation,
  Event,
  opens,
  adds,
  seals,
  shows,
  receives,
  System,
  acks_for,
  by_host,
  step,
  run,
  specified_host,
  host_step,
}
use Rattle.delivery.specs.Demand3.{
  typed,
  all_typed,
  not_too_late,
  outcome_of,
  seen_as,
  numbered_as,
  says_accepted,
  Guarantees,
  Demand3For,
}
use Rattle.delivery.specs.WrongEnds.{plainly_behind, first_transaction, transactions_plainly, with_host}
use Rattle.delivery.proofs.Host.HostStep.{low}
use Rattle.delivery.proofs.Lists.Check.{slots₀}
use Rattle.delivery.proofs.Wrong.Excluded.{kind}
use Rattle.delivery.proofs.Wrong.Older.{not_behind}
use Rattle.delivery.proofs.Book.Along.{last, last-is}
use Rattle.delivery.proofs.Lists.RoundsRun.{
  rounds,
  round_copies,
  round_acks,
  copies_length,
  Arrival,
  read,
  InTurn,
  host-in-turn,
  seam,
  Leading,
  before,
  not_late,
  arrived,
  then-opening,
  then-sealing,
  then-showing,
  none-else,
  whole,
}
use Rattle.delivery.proofs.Lists.Rounds.{
  message,
  sealed_frame,
  accepted_frame,
  past,
  past-change,
  past-at,
  past-leads,
  bare,
  opened_next,
  spent,
  spent-at,
  round_memory,
  page,
  TermsFit,
  message-fits,
  unfinished-is,
  not-finished,
  low-open,
  bares,
  fitting-two,
  page-allowed,
}

abbrev ends : Implementation
ends = with_host transactions_plainly

-- ---- the list

-- After the rounds two transactions are opened. The second has number 0, and its frame arrives.
abbrev after : ℕ → List Event
after n = opens 0 0 0 ∷ opens 0 4 0 ∷ adds 0 0 [] ∷ seals ∷ shows 65535 ∷ receives n ∷ []

events : List Event
events = rounds 4294967295 0 (after 4294967295)

abbrev Wrong : System → Book → Type 0
Wrong w b = Guarantees (outcome_of w) b → ⊥

-- ---- how the host answers

module _ (w : System) (b : Book) (k c : ℕ) (e : MessageRecord) (a : Arrival w b k c e) where
  abbrev h : Pair
  h = w.host

  abbrev frame : List ℕ
  frame = get_or w.hand_outs k []

  trans-is : first_transaction (read_frame (addressed h.own h.peer frame) frame) ≡ e.trans % trans_space
  trans-is = ap first_transaction (read w b k c e a)

  lowest-is : h.lowest.0 ≡ low b.transactions (accepted_messages b) % trans_space
  lowest-is = a.agree.rest.host_for.transactions_for.lowest_is

  -- the lowest transaction: as the rules say
  same_answer : low b.transactions (accepted_messages b) ≡ e.trans
      → transactions_plainly h frame w.memory ≡ receive_of h frame w.memory
  unfolding transactions_plainly
  same_answer lowest = rw (none, and-false (says_accepted (receive_of h frame w.memory).answer))
    where
      none : plainly_behind (first_transaction (read_frame (addressed h.own h.peer frame) frame)) h.lowest.0
          ≡ false
      none = rw (trans-is, lowest-is, lowest) (not_behind (e.trans % trans_space))

  in-turn : lowest_not_accepted b ≡ c → low b.transactions (accepted_messages b) ≡ e.trans
      → step ends w (receives k) ≡ host_step specified_host w k
  unfolding step by_host acks_for
  in-turn awaited lowest = rw (same_answer lowest)

  -- one whose number is below the lowest one's: not accepted
  not_taken : plainly_behind (e.trans % trans_space) (low b.transactions (accepted_messages b) % trans_space) ≡ true
      → says_accepted (transactions_plainly h frame w.memory).answer ≡ false
  unfolding transactions_plainly says_accepted
  not_taken below = go (says_accepted (receive_of h frame w.memory).answer) refl
    where
      less : plainly_behind (first_transaction (read_frame (addressed h.own h.peer frame) frame)) h.lowest.0
          ≡ true
      less = rw (trans-is, lowest-is) below

      go : (x : Bool) → says_accepted (receive_of h frame w.memory).answer ≡ x
          → says_accepted (transactions_plainly h frame w.memory).answer ≡ false
      go true q = rw (q, less) refl
      go false q = rw q q

turns : InTurn ends
turns = host-in-turn transactions_plainly in-turn

-- an answer that does not say "accepted" is none that does
other-kind : (a : Answer) → says_accepted a ≡ false → kind (seen_as a) ≡ 1 → ⊥
unfolding says_accepted seen_as kind
other-kind (Accepted n sums run) q z = absurd (let y : ◌≡◌ {A = ℕ} 0 1 = cc in omega arith)
other-kind (Again n run) q z = omega arith
other-kind NoMessages q z = omega arith
other-kind (Refused r) q z = omega arith

-- ---- the list, from its end on

module _ (n : ℕ) (is : n ≡ 4294967295) (hs : List HandOut) (ds : List AckRange) (ys : List Expected) where
  abbrev terms : List Transaction
  terms = bare ∷ opened_next n ∷ []

  abbrev one : List FrameRecord
  one = sealed_frame (suc n) ∷ []

  -- The book expects the frame to be accepted.
  lost : length hs ≡ n → Leading ends turns true Wrong (receives n ∷ [])
      (page n terms one [] (hs ++ (frame_copy n ∷ [])) ds ys)
  unfolding plainly_behind typed all_typed not_too_late run book_from step by_host messages_in of_transaction enter_arrival
      change_at seen_as numbered_as kind
  lost long w f =
      before ends turns true Wrong (receives n) [] w b b' _ refl refl
      (not_late ends turns true Wrong w b n n (message (suc n)) arrival (omega (arith, awaited)))
      (arrived ends turns true Wrong w b n n (message (suc n)) arrival
      ∙ rw (new, past-change 0 n 0 n one mark_accepted (omega arith)))
      (record {
        fitting = refl;
        timing = refl;
        allowed = page-allowed n terms (accepted_frame (suc n) ∷ []) (fitting-two n) (bares (suc n ∷ [])) _ _ _;
        reached = λ g. differ g.answers_match;
      })
    where
      b : Book
      b = page n terms one [] (hs ++ (frame_copy n ∷ [])) ds ys

      expects : Expected
      expects = first_answer b n (past 0 n (accepted_frame (suc n) ∷ []))

      b' : Book
      b' = page n terms (accepted_frame (suc n) ∷ []) [] (hs ++ (frame_copy n ∷ []))
          (ds ++ (ack_of (past 0 n (accepted_frame (suc n) ∷ [])) n ∷ []))
          (ys ++ (expects ∷ []))

      there : frame_at b n ≡ sealed_frame (suc n)
      there = past-at 0 n 0 n one (omega arith)

      new : (frame_at b n).accepted ≡ false
      new = ap (λ (x : FrameRecord). x.accepted) there

      fit : TermsFit (get_or (spent n terms) (suc n) no_transaction)
      fit =
          subst TermsFit (sym (spent-at n 1 (suc n) terms (omega arith)))
          (record { count_fits = lit< tt; address-fits = lit< tt; value-fits = lit< tt })

      arrival : Arrival w b n n (message (suc n))
      arrival = record {
        agree = f;
        copied = seam hs (frame_copy n) n long;
        holds = ap (λ (x : FrameRecord). x.messages) there;
        fits = message-fits (spent n terms) (suc n) fit;
      }

      awaited : lowest_not_accepted b ≡ n
      awaited = past-leads (λ x. x.accepted) (λ t. refl) n one refl

      lowest : low b.transactions (accepted_messages b) ≡ n
      lowest = low-open n terms one [] (hs ++ (frame_copy n ∷ [])) ds ys refl

      -- number 0 against number 4,294,967,295
      compared : plainly_behind (suc n % trans_space) (low b.transactions (accepted_messages b) % trans_space) ≡ true
      compared = rw (lowest, is) refl

      received : Received
      received = transactions_plainly w.host (get_or w.hand_outs n []) w.memory

      differ : map seen_as (w.answers ++ (received.answer ∷ [])) ≡ map numbered_as (ys ++ (expects ∷ [])) → ⊥
      differ q =
          other-kind received.answer (not_taken w b n n (message (suc n)) arrival compared)
          (ap kind (sym (last-is seen_as w.answers received.answer expect_no_effect))
          ∙ ap (λ (l : List Expected). kind (last expect_no_effect l)) q
          ∙ ap kind (last-is numbered_as ys expects expect_no_effect))

  first-unfinished : unfinished (page n (bare ∷ []) [] [] hs ds ys) ≡ n ∷ []
  unfolding unfinished_from
  first-unfinished =
      unfinished-is n (bare ∷ []) [] [] hs ds ys refl
      ∙ rw (not-finished n (bare ∷ []) [] [] hs ds ys refl bare n (omega arith)) refl

  after-rounds : length hs ≡ n → Leading ends turns true Wrong (after n) (page n [] [] [] hs ds ys)
  unfolding typed needed messages_in of_transaction
  after-rounds long =
      then-opening ends turns true Wrong n [] [] hs ds ys refl 0 0 0 refl (lit< tt) []
      (none-else ends turns true Wrong n hs ds ys) _
      (then-opening ends turns true Wrong n (bare ∷ []) [] hs ds ys refl 0 4 0 refl (lit< tt) (n ∷ []) first-unfinished
      _
      (then-sealing ends turns true Wrong n terms [] hs ds ys refl 1 (suc n) 0 (lit< tt) (omega arith) (rw is refl)
      (lit≤ tt)
      (lit< tt) (lit< tt) _
      (then-showing ends turns true Wrong n terms one hs ds ys refl 0 n 65535 (lit< tt) (omega arith) (rw is refl) refl
      _
      (lost long))))

-- ---- the theorem

not-transactions_plainly : Demand3For ends → ⊥
unfolding Demand3For events
not-transactions_plainly d =
    let r = whole ends turns true Wrong 4294967295 (after 4294967295)
    (λ zs. after-rounds 4294967295 refl (round_copies 4294967295) (round_acks 4294967295) zs (copies_length 4294967295))
    in
    r.reached (d 2 1 64 slots₀ round_memory events turns.opens_both r.fitting r.timing r.allowed)
