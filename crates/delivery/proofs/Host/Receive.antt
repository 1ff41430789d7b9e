-- The host's receiving keeps the system and the book in agreement: a copy of a sealed frame, and what carries no
-- message. Assumes nothing.
use Prim.Native.Nat.{ℕ, zero, suc, ◌+◌, ◌%◌, ◌≤◌, ◌<◌}
use native.Mathlib.Nat.{mod-lt, add-zero, not-suc-le-zero}
use native.Mathlib.Decide.{ℕ_discrete}
use native.Mathlib.Omega.{arith}
use mathlib.Core.Path.{◌≡◌, refl, sym, ap, ◌∙◌, subst}
use mathlib.Core.Logic.{inl, inr}
use mathlib.Core.Bool.{Bool, true, false, cond, not, ◌&&◌, true≢false}
use mathlib.Core.List.{
  List,
  [],
  ◌∷◌,
  ◌++◌,
  map,
  append-nil,
  Memᴰ,
}
use mathlib.Core.Option.{Option, some}
use borrow.Author.Tests.{eq-eqb, ne_eqb, leb-true, lt-ltb}
use lib.Dec.{eqb, lit<}
use lib.ListN.{length, get_or, get_elem?}
use Rattle.seq.specs.Ring.{frame_space}
use Rattle.wire.specs.Format.{Message}
use Rattle.wire.specs.Reading.{flags, addressed, messages_from, good, read_frame, refusal_of}
use Rattle.wire.specs.Writing.{ack_frame}
use Rattle.wire.proofs.Reading.{Readable, readable, headed, unread}
use Rattle.wire.proofs.RoundTrip.{AllFit, frame-addressed, frame_back, frame-flags, frame-number}
use Rattle.host.specs.declared.Pair.{Pair}
use Rattle.host.specs.declared.Sums.{Sums}
use Rattle.host.specs.declared.Answer.{Answer}
use Rattle.host.specs.declared.Answer.TheVariants.{Accepted, Again, NoMessages}
use Rattle.host.specs.Host.{unchanged, refused, again, by_number, receive_of, range_of, acknowledgement_from}
use Rattle.host.proofs.Receiving.{received-refused, received_none, received-good}
use Rattle.delivery.specs.Book.{
  MessageRecord,
  Transaction,
  FrameRecord,
  no_frame,
  HandOut,
  nothing_handed,
  lent_ack,
  frame_copy,
  expect_accepted,
  expect_again,
  expect_no_effect,
  Book,
  messages_in,
  is_accepted,
  frame_at,
  lowest_not_accepted,
  accepted_messages,
  added_messages,
  all_messages_in,
  transaction_at,
  book_memory,
  data_bytes,
  complete_count,
  newly_complete,
  accepted_run,
  ack_of,
  any_frame,
  with_frames,
  with_traffic,
  change_at,
  mark_accepted,
  enter_arrival,
  enter_no_effect,
  enter_delivery,
  enter,
  book_step,
}
use Rattle.delivery.specs.System.{
  specified_host,
  receives,
  System,
  with_host_side,
  with_answers,
  acks_for,
  by_host,
  host_step,
}
use Rattle.delivery.specs.Demand3.{
  WritesAllowed,
  copy_late_most,
  frame_in_time,
  in_time,
  seen_as,
  numbered_as,
  sum_over,
}
use Rattle.delivery.proofs.Book.Along.{Along, along-more, Found, along-at}
use Rattle.delivery.proofs.Book.Counts.{
  count,
  count-append,
  full-mono,
  get_or-change-same,
  get_or-change-other,
  change-keeps,
  SameMessages,
  same-changed,
  messages_in-same,
}
use Rattle.delivery.proofs.Book.Sound.{due-run}
use Rattle.delivery.proofs.Book.Steps.{sound-ignoring, sound-arriving}
use Rattle.delivery.proofs.Book.Sums.{
  sealed_before,
  sealed_after,
  messages-of-frame,
  messages-before,
  messages-after,
  complete-arriving,
  messages-arriving,
  bytes-arriving,
  completed_all,
}
use Rattle.delivery.proofs.Host.HostStep.{wired}
use Rattle.delivery.proofs.Host.HostArrive.{
  HostFor,
  transactions-arriving,
  added-arriving,
  run-agrees,
  answers-again,
  answers-first,
}
use Rattle.delivery.proofs.Card.CardFor.{CardFor, framed}
use Rattle.delivery.proofs.Card.CardSeal.{card-alike}
use Rattle.delivery.proofs.Book.Answers.{
  match-more,
  expects,
  times_more,
  summand,
  sum_more,
}
use Rattle.delivery.proofs.Rest.{TermsTyped, MessageTyped, Copied, AllCopied, Acknowledges, Rest, copies-alike}
use Rattle.delivery.proofs.Agree.{SystemFor}

-- ---- what carries no message

-- an answer to it: no acknowledgement is due, and it is neither accepted nor again
pub record NoEffect (h : Pair) (a : Answer) : Type 0 where
  pub seen : seen_as a ≡ expect_no_effect
  pub no_ack : acks_for specified_host h a ≡ []
  pub no_summand : (g : Sums → ℕ) → summand g a ≡ 0

refusal-no-effect : (h : Pair) (r : ℕ) → NoEffect h (refused r 0)
unfolding seen_as acks_for acknowledgement_from
refusal-no-effect h r = record { seen = refl; no_ack = refl; no_summand = λ g. refl }

none-no-effect : (h : Pair) → NoEffect h NoMessages
unfolding seen_as acks_for acknowledgement_from
none-no-effect h = record { seen = refl; no_ack = refl; no_summand = λ g. refl }

-- 10 bytes hold no message, whatever they are
pub receive-short : (h : Pair) (g memory : List ℕ) → length g ≤ 10
    → (a : Answer) × NoEffect h a × (receive_of h g memory ≡ unchanged h memory a)
receive-short h g memory l = go (ℕ_discrete (refusal_of (read_frame (addressed h.own h.peer g) g)) 0)
  where
    flag : Readable (addressed h.own h.peer g) g → flags g ≡ 0
    flag can = zero_flag (flags g) can.flag (λ o. none-there (can.some_read o))
      where
        none-there : (ms : List Message) × (messages_from (length g) g 10 ≡ some ms)
            × (read_frame (addressed h.own h.peer g) g ≡ good ms) → ⊥
        none-there s = cut (length g) s.0 s.1 can.least
          where
            cut : (n : ℕ) (ms : List Message) → messages_from n g 10 ≡ some ms → 10 ≤ length g → ⊥
            cut zero ms q k = absurd (unread g 10 ms q)
            cut (suc n) ms q k = omega (arith, (headed g n 10 ms q).inside)

        zero_flag : (x : ℕ) → x ≤ 1 → (x ≡ 1 → ⊥) → x ≡ 0
        zero_flag zero p n = refl
        zero_flag (suc zero) p n = absurd (n refl)
        zero_flag (suc (suc x)) p n = absurd (omega arith)

    go : Dec (refusal_of (read_frame (addressed h.own h.peer g) g) ≡ 0)
        → (a : Answer) × NoEffect h a × (receive_of h g memory ≡ unchanged h memory a)
    go (no n) =
        let r = refusal_of (read_frame (addressed h.own h.peer g) g) in
        (refused r 0, refusal-no-effect h r, received-refused h g memory r refl n)
    go (yes z) =
        let can = readable (addressed h.own h.peer g) g z in
        (NoMessages, none-no-effect h, received_none h g memory can (flag can))

-- ---- a frame accepted before, marked again

change-same : (ss : List FrameRecord) (c : ℕ) → (get_or ss c no_frame).accepted ≡ true → change_at ss c mark_accepted ≡ ss
unfolding change_at
change-same [] c e = refl
change-same (s ∷ ss) zero e = λ i. record { messages = s.messages; acknowledged = s.acknowledged; accepted = sym e i }
    ∷ ss
change-same (s ∷ ss) (suc c) e = ap {B = List FrameRecord} (λ r. s ∷ r) (change-same ss c e)

-- ---- transactions completed anew

newly-counted : (ds : List Transaction) (i : ℕ) (es fs : List MessageRecord) → ((j : ℕ) → count j es ≤ count j fs)
    → complete_count i ds fs ≡ complete_count i ds es + newly_complete i ds es fs
unfolding complete_count newly_complete
newly-counted [] i es fs more = refl
newly-counted (d ∷ ds) i es fs more =
    one (all_messages_in d i es) refl (all_messages_in d i fs) refl _ _ _ (newly-counted ds (suc i) es fs more)
  where
    one : (x : Bool) → all_messages_in d i es ≡ x → (y : Bool) → all_messages_in d i fs ≡ y → (p q r : ℕ) → p ≡ q + r
        → cond y 1 0 + p ≡ cond x 1 0 + q + (cond (y && not x) 1 0 + r)
    one true e true u p q r k = omega arith
    one true e false u p q r k = absurd (true≢false (sym (full-mono d i es fs (more i) e) ∙ u))
    one false e true u p q r k = omega arith
    one false e false u p q r k = omega arith

module _ (card_id host_id : ℕ) (card_fits : card_id < frame_space) (host_fits : host_id < frame_space) (w : System) (b : Book)
    (f : SystemFor card_id host_id w b) where
  abbrev For : System → Book → Type 0
  For = SystemFor card_id host_id

  abbrev h : Pair
  h = w.host

  -- the system after an arrival: the host's pair, memory, and answer
  abbrev answering : Pair → List ℕ → Answer → System
  answering x memory a =
      with_answers (with_host_side w x memory) (w.acks ++ acks_for specified_host x a) (w.answers ++ (a ∷ []))

  after-no-effect : (a : Answer) → NoEffect h a → For (answering h w.memory a) (enter_no_effect b)
  unfolding enter_no_effect book_memory expects numbered_as
  after-no-effect a n = record {
    card_for =
        card-alike b (enter_no_effect b) refl refl refl (λ k. refl) (λ k. refl) (λ k. refl) w.card w.slots
        f.card_for;
    card_own = f.card_own;
    card_peer = f.card_peer;
    rest = record {
      host_for = record {
        next_is = f.rest.host_for.next_is;
        marks_are = f.rest.host_for.marks_are;
        transactions_for = f.rest.host_for.transactions_for;
      };
      host_own = f.rest.host_own;
      host_peer = f.rest.host_peer;
      memory_is = f.rest.memory_is;
      traffic = record {
        copies = copies-alike card_id host_id b (enter_no_effect b) w.hand_outs b.hand_outs (λ c m. refl)
            f.rest.traffic.copies;
        acks_are =
            subst (λ (l : List (List ℕ)). Along (Acknowledges card_id host_id) l b.acks_due)
            (sym (ap (λ (l : List (List ℕ)). w.acks ++ l) n.no_ack ∙ append-nil w.acks))
            f.rest.traffic.acks_are;
        matching = match-more w.answers b.expected a expect_no_effect f.rest.traffic.matching n.seen;
        once = λ c. times_more c b.expected expect_no_effect ∙ add-zero _ ∙ f.rest.traffic.once c;
      };
      sums = record {
        messages_are = same_sum (λ s. s.messages) ∙ f.rest.sums.messages_are;
        bytes_are = same_sum (λ s. s.bytes) ∙ f.rest.sums.bytes_are;
        complete_are = same_sum (λ s. s.completed) ∙ f.rest.sums.complete_are;
      };
      typed = record {
        terms_typed = f.rest.typed.terms_typed;
        messages_typed = f.rest.typed.messages_typed;
      };
    };
    sound = sound-ignoring b f.sound;
  }
    where
      same_sum : (g : Sums → ℕ) → sum_over g (w.answers ++ (a ∷ [])) ≡ sum_over g w.answers
      same_sum g =
          sum_more g w.answers a ∙ ap (λ (t : ℕ). sum_over g w.answers + t) (n.no_summand g) ∙ add-zero _

  -- ---- a copy of a sealed frame

  module _ (c : ℕ) (inside : c < length b.frames) where
    abbrev b' : Book
    b' = enter_arrival b c

    abbrev frames' : List FrameRecord
    frames' = change_at b.frames c mark_accepted

    abbrev num : ℕ
    num = c % frame_space

    abbrev es : List MessageRecord
    es = (frame_at b c).messages

    abbrev ms : List Message
    ms = map (wired b.transactions) es

    same : SameMessages b.frames frames'
    same = same-changed b.frames c

    card-arriving : CardFor w.card w.slots b'
    unfolding enter_arrival
    card-arriving =
        card-alike b b' refl refl same.same_length same.same_at
        (change-keeps (λ y. y.acknowledged) mark_accepted (λ y. refl) b.frames c)
        (messages_in-same any_frame b.frames frames' same (λ i. refl))
        w.card w.slots f.card_for

    abbrev run : ℕ
    run = accepted_run frames' c

    some-run : 0 < run
    some-run =
        (due-run frames' c
        (ap (λ (y : FrameRecord). y.accepted) (get_or-change-same b.frames c mark_accepted inside))).some

    due-now : b'.acks_due ≡ b.acks_due ++ ack_of frames' c ∷ []
    unfolding enter_arrival
    due-now = refl

    -- accepted and again call for the acknowledgement of the run from the frame's number on
    acks-now : (x : Pair) (a : Answer) → x.own ≡ host_id → x.peer ≡ card_id → range_of a
        ≡ record { start = record { 0 = num }; count = run }
        → Along (Acknowledges card_id host_id) (w.acks ++ acks_for specified_host x a) b'.acks_due
    unfolding acks_for acknowledgement_from
    acks-now x a o p q =
        rw (o, p, q, due-now, lt-ltb 0 run some-run)
        (along-more (Acknowledges card_id host_id) w.acks b.acks_due (ack_frame card_id host_id 0 num run)
        (ack_of frames' c) f.rest.traffic.acks_are refl)

    pub all_fit : (xs : List MessageRecord) → ((e : MessageRecord) → Memᴰ e xs → Memᴰ e (added_messages b))
        → AllFit (map (wired b.transactions) xs)
    all_fit [] m = tt
    all_fit (e ∷ xs) m =
        let me : Memᴰ e (added_messages b) = m e (mathlib.Core.List.Memᴰ.head refl) in
        let d : TermsTyped (transaction_at b e.trans) =
        f.rest.typed.terms_typed e.trans (f.sound.known e me) in
        let t : MessageTyped e = f.rest.typed.messages_typed e me in (
          record {
            trans-fits = mod-lt e.trans (lit< tt);
            address-fits = d.address-fits;
            value-fits = d.value-fits;
            count_fits = d.count_fits;
            at-fits = t.at-fits;
            bytes_fit = t.bytes_fit;
          },
          all_fit xs (λ x k. m x (mathlib.Core.List.Memᴰ.tail k)),
        )

    -- the frame's bytes read as its messages
    receive-framed : (memory : List ℕ) (xs : List MessageRecord) → 0 < length xs
        → AllFit (map (wired b.transactions) xs)
        → length (framed card_id host_id b.transactions c xs) ≤ 9000
        → receive_of h (framed card_id host_id b.transactions c xs) memory
        ≡ by_number h memory num (map (wired b.transactions) xs)
    receive-framed memory [] l a k = absurd (not-suc-le-zero l)
    receive-framed memory (e ∷ xs) l a k =
        let g = framed card_id host_id b.transactions c (e ∷ xs) in
        let nf : num < frame_space = mod-lt c (lit< tt) in
        let all = map (wired b.transactions) (e ∷ xs) in
        let mine : addressed h.own h.peer g ≡ true =
        rw (f.rest.host_own, f.rest.host_peer) (frame-addressed host_id card_id num host_fits card_fits nf all) in
        let one : flags g ≡ 1 = frame-flags host_id card_id num all in
        received-good h g memory all
        (rw mine (frame_back host_id card_id num (wired b.transactions e) (map (wired b.transactions) xs) a.0
        a.1 k))
        (λ z. omega arith)
        ∙ ap (λ (n : ℕ). by_number h memory n all) (frame-number host_id card_id num host_fits card_fits nf all)

    pub received : (g : List ℕ) → Copied card_id host_id b g (frame_copy c)
        → receive_of h g w.memory ≡ by_number h (book_memory b) num ms
    received g copy =
        ap (λ (x : List ℕ). receive_of h x w.memory) copy.0
        ∙ receive-framed w.memory es (f.sound.filled c inside)
        (all_fit es (λ e m. mathlib.Core.List.Memᴰ.append_left b.building (messages-of-frame b.frames c e m)))
        (subst (λ (l : List ℕ). length l ≤ 9000) copy.0 copy.1)
        ∙ ap (λ (m : List ℕ). by_number h m num ms) f.rest.memory_is

    -- again
    module _ (old : (frame_at b c).accepted ≡ true) where
      same-frames : frames' ≡ b.frames
      same-frames = change-same b.frames c old

      expected-again : b'.expected ≡ b.expected ++ (expect_again c run ∷ [])
      unfolding enter_arrival
      expected-again = rw old

      -- the book but for its traffic
      abbrev book : List FrameRecord → Book
      book ss =
          with_traffic (with_frames b ss b.building) b.hand_outs (b.acks_due ++ (ack_of frames' c ∷ []))
          (b.expected ++ (expect_again c run ∷ []))

      arrival-is : b' ≡ book b.frames
      unfolding enter_arrival
      arrival-is = rw (old, same-frames)

      abbrev old-answer : Answer
      old-answer = Again (record { 0 = num }) run

      rest-again : Rest card_id host_id h w.memory w.hand_outs (w.acks ++ acks_for specified_host h old-answer)
          (w.answers ++ (old-answer ∷ [])) (book b.frames)
      unfolding book_memory expects seen_as numbered_as
      rest-again = record {
        host_for = record {
          next_is = f.rest.host_for.next_is;
          marks_are = f.rest.host_for.marks_are;
          transactions_for = f.rest.host_for.transactions_for;
        };
        host_own = f.rest.host_own;
        host_peer = f.rest.host_peer;
        memory_is = f.rest.memory_is;
        traffic = record {
          copies =
              copies-alike card_id host_id b (book b.frames) w.hand_outs b.hand_outs (λ n m. refl)
              f.rest.traffic.copies;
          acks_are =
              subst (λ (y : Book). Along (Acknowledges card_id host_id) (w.acks ++ acks_for specified_host h old-answer)
              y.acks_due)
              arrival-is
              (acks-now h old-answer f.rest.host_own f.rest.host_peer refl);
          matching =
              match-more w.answers b.expected old-answer (expect_again c run) f.rest.traffic.matching refl;
          once = λ k. times_more k b.expected (expect_again c run) ∙ add-zero _ ∙ f.rest.traffic.once k;
        };
        sums = record {
          messages_are = sum_more (λ s. s.messages) w.answers old-answer ∙ add-zero _ ∙ f.rest.sums.messages_are;
          bytes_are = sum_more (λ s. s.bytes) w.answers old-answer ∙ add-zero _ ∙ f.rest.sums.bytes_are;
          complete_are = sum_more (λ s. s.completed) w.answers old-answer ∙ add-zero _ ∙ f.rest.sums.complete_are;
        };
        typed = record {
          terms_typed = f.rest.typed.terms_typed;
          messages_typed = f.rest.typed.messages_typed;
        };
      }

      after-again : For (answering h w.memory old-answer) b'
      after-again = record {
        card_for = card-arriving;
        card_own = f.card_own;
        card_peer = f.card_peer;
        rest =
            subst (Rest card_id host_id h w.memory w.hand_outs (w.acks ++ acks_for specified_host h old-answer)
            (w.answers ++ (old-answer ∷ [])))
            (sym arrival-is) rest-again;
        sound = sound-arriving b f.sound c inside;
      }

    -- accepted
    module _ (is_new : (frame_at b c).accepted ≡ false) where
      abbrev pre : List MessageRecord
      pre = sealed_before b f.sound c inside is_new

      abbrev post : List MessageRecord
      post = sealed_after b f.sound c inside is_new

      abbrev sums : Sums
      sums = record {
        messages = length es;
        bytes = data_bytes es;
        completed = completed_all b.transactions pre es post;
      }

      abbrev answer : Answer
      answer = Accepted (record { 0 = num }) sums run

      completed-is : completed_all b.transactions pre es post
          ≡ newly_complete 0 b.transactions (accepted_messages b) (messages_in is_accepted frames')
      unfolding enter_arrival
      completed-is =
          omega (
            arith,
            complete-arriving b f.sound c inside is_new,
            newly-counted b.transactions 0 (accepted_messages b) (accepted_messages b') more,
          )
        where
          more : (j : ℕ) → count j (accepted_messages b) ≤ count j (accepted_messages b')
          more j =
              rw (
                messages-before b f.sound c inside is_new,
                messages-after b f.sound c inside is_new,
              )
              (omega (arith, count-append j pre post, count-append j pre (es ++ post), count-append j es post))

      expected-first : b'.expected ≡ b.expected ++ (expect_accepted c sums run ∷ [])
      unfolding enter_arrival
      expected-first = rw (is_new, completed-is)

      times-here : (k : ℕ) → cond (frame_at b k).accepted 1 0 + cond (expects k (expect_accepted c sums run)) 1 0
          ≡ cond (frame_at b' k).accepted 1 0
      unfolding expects enter_arrival
      times-here k = go (ℕ_discrete c k)
        where
          go : Dec (c ≡ k)
              → cond (frame_at b k).accepted 1 0 + cond (eqb c k) 1 0 ≡ cond (get_or frames' k no_frame).accepted 1 0
          go (yes q) =
              subst (λ (j : ℕ). cond (frame_at b j).accepted 1 0 + cond (eqb c j) 1 0
              ≡ cond (get_or frames' j no_frame).accepted 1 0) q
              (rw (
                is_new,
                eq-eqb c c refl,
                ap (λ (y : FrameRecord). y.accepted) (get_or-change-same b.frames c mark_accepted inside),
              ) refl)
          go (no n) =
              rw (
                ne_eqb c k n,
                ap (λ (y : FrameRecord). y.accepted) (get_or-change-other b.frames c k mark_accepted (λ q. n (sym q))),
              )
              (omega arith)

      copies-now : AllCopied card_id host_id b' w.hand_outs b'.hand_outs
      unfolding enter_arrival
      copies-now =
          copies-alike card_id host_id b b' w.hand_outs b.hand_outs
          (λ n m. ap (framed card_id host_id b.transactions n) (sym (same.same_at n)))
          f.rest.traffic.copies

      terms-now : (i : ℕ) → i < length b'.transactions → TermsTyped (transaction_at b' i)
      unfolding enter_arrival
      terms-now = f.rest.typed.terms_typed

      complete-now : complete_count 0 b'.transactions (accepted_messages b')
          ≡ complete_count 0 b.transactions (accepted_messages b) + completed_all b.transactions pre es post
      complete-now =
          ap (λ (ds : List Transaction). complete_count 0 ds (accepted_messages b')) (transactions-arriving b c)
          ∙ complete-arriving b f.sound c inside is_new

      after_first : (x : Pair) → HostFor x b' → x.own ≡ host_id → x.peer ≡ card_id
          → For (answering x (book_memory b') answer) b'
      unfolding seen_as numbered_as
      after_first x x_for o p = record {
        card_for = card-arriving;
        card_own = f.card_own;
        card_peer = f.card_peer;
        rest = record {
          host_for = x_for;
          host_own = o;
          host_peer = p;
          memory_is = refl;
          traffic = record {
            copies = copies-now;
            acks_are = acks-now x answer o p refl;
            matching =
                rw expected-first (match-more w.answers b.expected answer (expect_accepted c sums run)
                f.rest.traffic.matching refl);
            once = λ k.
                rw expected-first
                (times_more k b.expected (expect_accepted c sums run)
                ∙ ap (λ (n : ℕ). n + cond (expects k (expect_accepted c sums run)) 1 0) (f.rest.traffic.once k)
                ∙ times-here k);
          };
          sums = record {
            messages_are =
                sum_more (λ s. s.messages) w.answers answer
                ∙ rw f.rest.sums.messages_are (sym (messages-arriving b f.sound c inside is_new));
            bytes_are =
                sum_more (λ s. s.bytes) w.answers answer
                ∙ rw f.rest.sums.bytes_are (sym (bytes-arriving b f.sound c inside is_new));
            complete_are =
                sum_more (λ s. s.completed) w.answers answer ∙ rw f.rest.sums.complete_are (sym complete-now);
          };
          typed = record {
            terms_typed = terms-now;
            messages_typed = λ e m. f.rest.typed.messages_typed e (subst (Memᴰ e) (added-arriving b c) m);
          };
        };
        sound = sound-arriving b f.sound c inside;
      }

  -- ---- receiving

  abbrev After : ℕ → Book → Type 0
  After k next = For (host_step specified_host w k).system next

  reached-short : (k : ℕ) → length (get_or w.hand_outs k []) ≤ 10 → After k (enter_no_effect b)
  unfolding by_host
  reached-short k l =
      let r = receive-short h (get_or w.hand_outs k []) w.memory l in
      rw r.2 (after-no-effect r.0 r.1)

  reached-frame : (k c : ℕ) → c < length b.frames → Copied card_id host_id b (get_or w.hand_outs k []) (frame_copy c)
      → lowest_not_accepted b ≤ c + 32768 → WritesAllowed (enter_arrival b c) → After k (enter_arrival b c)
  unfolding by_host
  reached-frame k c inside copy late kept = go (frame_at b c).accepted refl
    where
      ms : List Message
      ms = map (wired b.transactions) (frame_at b c).messages

      got : receive_of h (get_or w.hand_outs k []) w.memory ≡ by_number h (book_memory b) (c % frame_space) ms
      got = received c inside (get_or w.hand_outs k []) copy

      go : (y : Bool) → (frame_at b c).accepted ≡ y → After k (enter_arrival b c)
      go true e =
          rw (got
          ∙ answers-again h b f.rest.host_for f.sound c inside late (book_memory b) ms e
          ∙ ap (λ (m : List ℕ). again h m (c % frame_space)) (sym f.rest.memory_is)
          ∙ ap (λ (n : ℕ). unchanged h w.memory (Again (record { 0 = c % frame_space }) n))
          (run-agrees h b f.rest.host_for f.sound c inside late
          ∙ ap (λ (l : List FrameRecord). accepted_run l c) (sym (same-frames c inside e))))
          (after-again c inside e)
      go false e =
          let t = answers-first h b f.rest.host_for f.sound c kept
          (λ i l. (f.rest.typed.terms_typed i l).count_fits) inside late e in
          rw (got ∙ t.answered)
          (after_first c inside e t.next t.next_for (t.same_own ∙ f.rest.host_own)
          (t.same_peer ∙ f.rest.host_peer))

  pub step-receives : (k : ℕ) → in_time b (receives k) ≡ true
      → WritesAllowed (book_step b (host_step specified_host w k).observation)
      → After k (book_step b (host_step specified_host w k).observation)
  unfolding enter enter_delivery by_host in_time frame_in_time
  step-receives k late kept = go (along-at (Copied card_id host_id b) [] w.hand_outs b.hand_outs
      f.rest.traffic.copies k)
    where
      reached : (x : HandOut) → Memᴰ x b.hand_outs → Copied card_id host_id b (get_or w.hand_outs k []) x
          → frame_in_time b (some x) ≡ true → WritesAllowed (enter_delivery b (some x))
          → After k (enter_delivery b (some x))
      reached nothing_handed m c t q = reached-short k (rw c (omega arith))
      reached lent_ack m c t q = reached-short k (omega (arith, c))
      reached (frame_copy n) m c t q =
          reached-frame k n (f.sound.hand_outs_sealed n m) c
          (omega (arith, leb-true (lowest_not_accepted b) (n + copy_late_most) t)) q

      go : Found (Copied card_id host_id b) [] w.hand_outs b.hand_outs k
          → After k (enter_delivery b (get_elem? b.hand_outs k))
      go (inl p) =
          subst (λ (o : Option HandOut). After k (enter_delivery b o)) (sym p.0)
          (reached-short k (rw p.1 (omega arith)))
      go (inr p) =
          subst (λ (o : Option HandOut). After k (enter_delivery b o)) (sym p.1)
          (reached p.0 p.2 p.3 (subst (λ (o : Option HandOut). frame_in_time b o ≡ true) p.1 late)
          (subst (λ (o : Option HandOut). WritesAllowed (enter_delivery b o)) p.1 kept))
