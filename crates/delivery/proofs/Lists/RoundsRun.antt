-- Lists that go in rounds, run from two fresh ends on, whatever the ends, so long as they do in the rounds as the rules
-- say. They are too long for the checker to run: a proof goes from a list's end to its beginning, one round
-- at a time, with what system and book agree on in between. Assumes nothing.
use Prim.Native.Nat.{ℕ, zero, suc, ◌+◌, ◌%◌, ◌≤◌, ◌<◌}
use native.Mathlib.Nat.{mod-lt}
use native.Mathlib.Omega.{arith}
use mathlib.Core.Path.{◌≡◌, refl, sym, ap, ◌∙◌, subst}
use mathlib.Core.Bool.{Bool, true, false, ◌&&◌}
use mathlib.Core.List.{List, [], ◌∷◌, ◌++◌, append-nil}
use mathlib.Core.Option.{some}
use borrow.Author.Tests.{lt-ltb, le-leb}
use lib.Dec.{leb, ltb, lit≤, lit<}
use lib.ListN.{length, get_or, get_elem?, length-append}
use Rattle.seq.specs.Ring.{latest, frame_space, trans_space}
use Rattle.seq.proofs.Ring.{latest-is}
use Rattle.wire.specs.Format.{Message, needed}
use Rattle.wire.specs.Reading.{number, flags, addressed, good, read_frame}
use Rattle.wire.specs.Writing.{frame_of}
use Rattle.wire.proofs.RoundTrip.{Fits, frame-addressed, frame_back, frame-flags, frame-number}
use Rattle.card.specs.declared.Card.{Card}
use Rattle.host.specs.declared.Pair.{Pair}
use Rattle.host.specs.Host.{by_number, receive_of}
use Rattle.host.proofs.Receiving.{received-good}
use Rattle.delivery.specs.Book.{
  MessageRecord,
  Transaction,
  no_transaction,
  FrameRecord,
  no_frame,
  AckRange,
  covers,
  HandOut,
  frame_copy,
  Expected,
  Book,
  messages_in,
  any_frame,
  frame_at,
  released_count,
  lowest_not_accepted,
  accepted_messages,
  added_messages,
  of_transaction,
  transaction_at,
  unfinished_from,
  unfinished,
  with_transactions,
  with_frames,
  enter_opening,
  enter_message,
  enter_sealing,
  accepted_run,
  change_at,
  mark_where,
  mark_acknowledged,
  mark_accepted,
  enter_ack,
  enter_hand_out,
  enter_arrival,
  enter_delivery,
  enter,
  book_step,
  book_from,
  empty_book,
}
use Rattle.delivery.specs.System.{
  Implementation,
  Event,
  opens,
  adds,
  seals,
  reads,
  shows,
  receives,
  System,
  by_host,
  step,
  run,
  initial,
  CardResult,
  StepResult,
  specified_card,
  specified_host,
  specified,
  open_call,
  add_call,
  seal_call,
  read_call,
  show_call,
  card_step,
  host_step,
}
use Rattle.delivery.specs.Demand3.{
  BothOpen,
  typed,
  all_typed,
  frame_in_time,
  ack_in_time,
  in_time,
  not_too_late,
  WritesAllowed,
}
use Rattle.delivery.specs.WrongEnds.{Receiving, with_host, with_reading}
use Rattle.delivery.proofs.Book.Counts.{count}
use Rattle.delivery.proofs.Book.Writes.{of_transaction-cons-same}
use Rattle.delivery.proofs.Host.HostStep.{wired, low}
use Rattle.delivery.proofs.Card.CardFor.{framed}
use Rattle.delivery.proofs.Rest.{Copied}
use Rattle.delivery.proofs.Agree.{SystemFor}
use Rattle.delivery.proofs.Card.CardSteps.{step-opens, step-adds, step-seals, step-shows, step-reads}
use Rattle.delivery.proofs.Host.Receive.{step-receives}
use Rattle.delivery.proofs.Demand.{seen-event, starts}
use Rattle.delivery.proofs.Lists.Check.{slots₀}
use Rattle.delivery.proofs.Lists.Computing.{computing}
use Rattle.delivery.proofs.Lists.Entered.{
  opening-entered,
  adding-entered,
  sealing-entered,
  showing-entered,
  reading-entered,
  copy_at,
}
use Rattle.delivery.proofs.Lists.Rounds.{
  message,
  sealed_frame,
  accepted_frame,
  done,
  past,
  past-length,
  past-append,
  past_next,
  past-change,
  past-where,
  past-at,
  past-leads,
  one_frame,
  run_alone,
  bare,
  double,
  spent,
  spent-length,
  spent-append,
  spent-next,
  spent-at,
  round_memory,
  page,
  TermsFit,
  message-fits,
  page-count,
  released-is,
  low-is,
  unfinished-is,
  low-open,
  bares,
  fitting-one,
  page-allowed,
}

-- ---- the calls of a list

-- Round n: a transaction is opened, and its bare message goes into a frame of its own, which is handed out as the n-th,
-- arrives and is acknowledged. k rounds from the n-th on, and then xs.
unfoldable pub rounds : ℕ → ℕ → List Event → List Event
rounds zero n xs = xs
rounds (suc k) n xs =
    opens 0 0 0 ∷ adds (n % trans_space) 0 [] ∷ seals ∷ shows (n % frame_space) ∷ receives n ∷ reads n
    ∷ rounds k (suc n) xs

abbrev pub For : System → Book → Type 0
For = SystemFor 2 1

abbrev pub card_fits : 2 < frame_space
card_fits = lit< tt

abbrev pub host_fits : 1 < frame_space
host_fits = lit< tt

-- what is handed out and acknowledged in n rounds
unfoldable pub round_copies : ℕ → List HandOut
round_copies zero = []
round_copies (suc n) = round_copies n ++ (frame_copy n ∷ [])

unfoldable pub round_acks : ℕ → List AckRange
round_acks zero = []
round_acks (suc n) = round_acks n ++ (one_frame n ∷ [])

pub copies_length : (n : ℕ) → length (round_copies n) ≡ n
unfolding round_copies
copies_length zero = refl
copies_length (suc n) = omega (arith, length-append (round_copies n) (frame_copy n ∷ []), copies_length n)

pub acks-length : (n : ℕ) → length (round_acks n) ≡ n
unfolding round_acks
acks-length zero = refl
acks-length (suc n) = omega (arith, length-append (round_acks n) (one_frame n ∷ []), acks-length n)

-- ---- a frame of one message reaches the host: the c-th, handed out k-th

pub record Arrival (w : System) (b : Book) (k c : ℕ) (e : MessageRecord) : Type 0 where
  pub agree : For w b
  pub copied : get_elem? b.hand_outs k ≡ some (frame_copy c)
  pub holds : (frame_at b c).messages ≡ e ∷ []
  pub fits : Fits (wired b.transactions e)

module _ (w : System) (b : Book) (k c : ℕ) (e : MessageRecord) (a : Arrival w b k c e) where
  abbrev h : Pair
  h = w.host

  abbrev frame : List ℕ
  frame = get_or w.hand_outs k []

  abbrev num : ℕ
  num = c % frame_space

  abbrev m : Message
  m = wired b.transactions e

  num-fits : num < frame_space
  num-fits = mod-lt c (lit< tt)

  copy : Copied 2 1 b frame (frame_copy c)
  copy = copy_at 2 1 card_fits host_fits w b a.agree k (frame_copy c) a.copied

  frame_is : frame ≡ frame_of 1 2 num (m ∷ [])
  frame_is = copy.0 ∙ ap (framed 2 1 b.transactions c) a.holds

  pub read : read_frame (addressed h.own h.peer frame) frame ≡ good (m ∷ [])
  read =
      rw (
        a.agree.rest.host_own,
        a.agree.rest.host_peer,
        frame_is,
        frame-addressed 1 2 num host_fits card_fits num-fits (m ∷ []),
      )
      (frame_back 1 2 num m [] a.fits tt (subst (λ (l : List ℕ). length l ≤ 9000) frame_is copy.1))

  pub has-messages : flags frame ≡ 0 → ⊥
  has-messages z = omega (arith, ap flags frame_is ∙ frame-flags 1 2 num (m ∷ []))

  pub number_is : number frame ≡ num
  number_is = ap number frame_is ∙ frame-number 1 2 num host_fits card_fits num-fits (m ∷ [])

  pub by-its-number : receive_of h frame w.memory ≡ by_number h w.memory num (m ∷ [])
  by-its-number =
      received-good h frame w.memory (m ∷ []) read has-messages
      ∙ ap (λ (n : ℕ). by_number h w.memory n (m ∷ [])) number_is

-- Ends that do in the rounds as the rules say: the card but for reading does so always; it reads the acknowledgement of
-- the oldest frame not released so, and the host takes in the awaited frame so, if its message is of the lowest
-- transaction not complete.
pub record InTurn (e : Implementation) : Type 0 where
  pub opens_both : BothOpen 2 1 (e.card_end.card_opening 2 1 64 slots₀) (e.host_end.host_opening 1 2)
  pub fresh_same : initial e 2 1 64 slots₀ round_memory ≡ initial specified 2 1 64 slots₀ round_memory
  pub open_same : (w : System) (count address value : ℕ)
      → step e w (opens count address value) ≡ card_step specified_card w (open_call count address value)
  pub add_same : (w : System) (t at : ℕ) (bytes : List ℕ)
      → step e w (adds t at bytes) ≡ card_step specified_card w (add_call t at bytes)
  pub seal_same : (w : System) → step e w seals ≡ card_step specified_card w seal_call
  pub show_same : (w : System) (n : ℕ) → step e w (shows n) ≡ card_step specified_card w (show_call n)
  pub read_same : (w : System) (b : Book) (k c : ℕ) → For w b → get_elem? b.acks_due k ≡ some (one_frame c)
      → released_count b ≡ c → step e w (reads k) ≡ card_step specified_card w (read_call k)
  pub receive_same : (w : System) (b : Book) (k c : ℕ) (m : MessageRecord) → Arrival w b k c m
      → lowest_not_accepted b ≡ c → low b.transactions (accepted_messages b) ≡ m.trans
      → step e w (receives k) ≡ host_step specified_host w k

fresh-open : BothOpen 2 1 (specified_card.card_opening 2 1 64 slots₀) (specified_host.host_opening 1 2)
unfolding computing
fresh-open = record { card_fits = card_fits; host_fits = host_fits; card_opens = refl; host_opens = refl }

-- another receiving, or another reading
pub host-in-turn : (r : Receiving)
    → ((w : System) (b : Book) (k c : ℕ) (m : MessageRecord) → Arrival w b k c m → lowest_not_accepted b ≡ c
    → low b.transactions (accepted_messages b) ≡ m.trans
    → step (with_host r) w (receives k) ≡ host_step specified_host w k)
    → InTurn (with_host r)
unfolding step initial
host-in-turn r turn = record {
  opens_both = fresh-open;
  fresh_same = refl;
  open_same = λ w count address value. refl;
  add_same = λ w t at bytes. refl;
  seal_same = λ w. refl;
  show_same = λ w n. refl;
  read_same = λ w b k c f q z. refl;
  receive_same = turn;
}

pub card-in-turn : (r : Card → List ℕ → List ℕ → CardResult)
    → ((w : System) (b : Book) (k c : ℕ) → For w b → get_elem? b.acks_due k ≡ some (one_frame c)
    → released_count b ≡ c → step (with_reading r) w (reads k) ≡ card_step specified_card w (read_call k))
    → InTurn (with_reading r)
unfolding step initial
card-in-turn r turn = record {
  opens_both = fresh-open;
  fresh_same = refl;
  open_same = λ w count address value. refl;
  add_same = λ w t at bytes. refl;
  seal_same = λ w. refl;
  show_same = λ w n. refl;
  read_same = turn;
  receive_same = λ w b k c m a p q. refl;
}

pub specified-in-turn : InTurn specified
unfolding step
specified-in-turn = record {
  opens_both = fresh-open;
  fresh_same = refl;
  open_same = λ w count address value. refl;
  add_same = λ w t at bytes. refl;
  seal_same = λ w. refl;
  show_same = λ w n. refl;
  read_same = λ w b k c f q z. refl;
  receive_same = λ w b k c m a p q. refl;
}

and_is : {x y z : Bool} → x ≡ true → y ≡ z → (x && y) ≡ z
and_is p q = rw (p, q)

-- nothing in the rounds is late at all, however late things may be
leb-more : (x y k : ℕ) → x ≤ y → leb x (y + k) ≡ true
leb-more x y k l = le-leb x (y + k) (omega arith)

-- the last of a list
pub seam : {A : Type 0} (xs : List A) (x : A) (n : ℕ) → length xs ≡ n → get_elem? (xs ++ (x ∷ [])) n ≡ some x
seam [] x zero q = refl
seam [] x (suc n) q = absurd (omega arith)
seam (y ∷ xs) x zero q = absurd (omega arith)
seam (y ∷ xs) x (suc n) q = seam xs x n (omega arith)

-- ---- lists from a state on

-- What the list's end is like, and whether all arrivals are in time.
module _ (ends : Implementation) (turns : InTurn ends) (timely : Bool) (End : System → Book → Type 0) where
  pub record Leads (xs : List Event) (w : System) (b : Book) : Type 0 where
    pub fitting : all_typed xs ≡ true
    pub timing : not_too_late b (run ends w xs).observations ≡ timely
    pub allowed : WritesAllowed (book_from b (run ends w xs).observations)
    pub reached : End (run ends w xs).system (book_from b (run ends w xs).observations)

  -- from every state that agrees with this book
  abbrev pub Leading : List Event → Book → Type 0
  Leading xs b = (w : System) → For w b → Leads xs w b

  -- with one call before it, whose step is s
  pub before : (x : Event) (xs : List Event) (w : System) (b b' : Book) (s : StepResult) → step ends w x ≡ s
      → typed x ≡ true → in_time b x ≡ true → book_step b s.observation ≡ b' → Leads xs s.system b'
      → Leads (x ∷ xs) w b
  unfolding run book_from all_typed not_too_late
  before x xs w b b' s same t i q l =
      go (subst (λ (s : StepResult). Leads xs s.system (book_step b s.observation)) (sym same)
      (subst (Leads xs s.system) (sym q) l))
    where
      go : Leads xs (step ends w x).system (book_step b (step ends w x).observation) → Leads (x ∷ xs) w b
      go s = record {
        fitting = and_is t s.fitting;
        timing = and_is (ap (in_time b) (seen-event ends w x) ∙ i) s.timing;
        allowed = s.allowed;
        reached = s.reached;
      }

  module _ (w : System) (b : Book) (k c : ℕ) (e : MessageRecord) (a : Arrival w b k c e) where
    pub not_late : lowest_not_accepted b ≤ c → in_time b (receives k) ≡ true
    unfolding in_time frame_in_time
    not_late l = rw a.copied (leb-more (lowest_not_accepted b) c _ l)

    pub arrived : book_step b (host_step specified_host w k).observation ≡ enter_arrival b c
    unfolding by_host enter enter_delivery
    arrived = rw a.copied

  -- Calls while n rounds are through, and ts and fs are the transactions and frames after them: a transaction is
  -- opened, a message is added and its frame sealed, the i-th frame of fs is handed out, arrives, is acknowledged.
  module _ (n : ℕ) (ts : List Transaction) (fs : List FrameRecord) (hs : List HandOut) (ds : List AckRange)
      (ys : List Expected) (unreleased : (get_or fs 0 no_frame).acknowledged ≡ false) where
    abbrev here : Book
    here = page n ts fs [] hs ds ys

    released : released_count here ≡ n
    released = released-is n ts fs [] hs ds ys unreleased

    pub then-opening : (count address value : ℕ) → typed (opens count address value) ≡ true → length ts < 32
        → (us : List ℕ) → unfinished here ≡ us → (xs : List Event)
        → Leading xs (page n (ts ++ (record {
          count = count;
          completion_address = address;
          completion_value = value;
          unfinished_at_opening = us;
        } ∷ [])) fs [] hs ds ys)
        → Leading (opens count address value ∷ xs) here
    unfolding typed in_time enter_opening
    then-opening count address value fits few us are xs later w f =
        before (opens count address value) xs w here next _ (turns.open_same w count address value) fits refl entered
        (later _ (subst (For (card_step specified_card w (open_call count address value)).system) entered
        (step-opens 2 1 card_fits host_fits w here f count address value fits)))
      where
        new : Transaction
        new = record { count = count; completion_address = address; completion_value = value; unfinished_at_opening = us }

        next : Book
        next = page n (ts ++ (new ∷ [])) fs [] hs ds ys

        entered : book_step here (card_step specified_card w (open_call count address value)).observation ≡ next
        entered =
            opening-entered 2 1 card_fits host_fits w here f count address value
            (omega (arith, spent-length n ts, low-is n ts fs [] hs ds ys unreleased))
            ∙ ap (λ (l : List ℕ). with_transactions here (spent n ts ++ (record {
              count = count;
              completion_address = address;
              completion_value = value;
              unfinished_at_opening = l;
            } ∷ []))) are
            ∙ ap (λ (l : List Transaction). with_transactions here l) (spent-append n ts (new ∷ []))

    pub then-sealing : (i t num : ℕ) → i < length ts → t ≡ n + i → num ≡ t % trans_space → length ts ≤ 32
        → length fs < 64
        → count t (messages_in any_frame fs) < needed (get_or ts i no_transaction).count → (xs : List Event)
        → Leading xs (page n ts (fs ++ (sealed_frame t ∷ [])) [] hs ds ys) → Leading (adds num 0 [] ∷ seals ∷ xs) here
    unfolding enter_message enter_sealing typed in_time
    then-sealing i t num known is is_number most few room xs later w f =
        before (adds num 0 []) (seals ∷ xs) w here building _ (turns.add_same w num 0 []) typed_ok refl added
        (sealed _ (subst (For (card_step specified_card w (add_call num 0 [])).system) added
        (step-adds 2 1 card_fits host_fits w here f num 0 [] typed_ok)))
      where
        typed_ok : (ltb num trans_space && ltb 0 trans_space) ≡ true
        typed_ok = and_is (lt-ltb num trans_space (omega arith)) refl

        building : Book
        building = page n ts fs (message t ∷ []) hs ds ys

        means : latest trans_space (length (spent n ts)) (t % trans_space) ≡ t
        means =
            latest-is trans_space (lit< tt) (length (spent n ts)) t (omega (arith, spent-length n ts))
            (omega (arith, spent-length n ts))

        more : count t (added_messages here) < needed (transaction_at here t).count
        more =
            rw (append-nil (messages_in any_frame (past 0 n fs)), spent-at n i t ts is)
            (omega (arith, room, page-count n ts fs [] hs ds ys t (omega arith)))

        added : book_step here (card_step specified_card w (add_call num 0 [])).observation ≡ building
        added =
            ap (λ (k : ℕ). book_step here (card_step specified_card w (add_call k 0 [])).observation) is_number
            ∙ adding-entered 2 1 card_fits host_fits w here f t (omega (arith, spent-length n ts)) more refl
            (omega (arith, released, past-length 0 n fs)) 0
            ∙ ap (λ (k : ℕ). page n ts fs (message k ∷ []) hs ds ys) means

        sealed : Leading (seals ∷ xs) building
        sealed v g =
            before seals xs v building (page n ts (fs ++ (sealed_frame t ∷ [])) [] hs ds ys) _ (turns.seal_same v) refl
            refl ended
            (later _ (subst (For (card_step specified_card v seal_call).system) ended
            (step-seals 2 1 card_fits host_fits v building g)))
          where
            ended : book_step building (card_step specified_card v seal_call).observation
                ≡ page n ts (fs ++ (sealed_frame t ∷ [])) [] hs ds ys
            ended =
                sealing-entered 2 1 card_fits host_fits v building g (omega arith)
                ∙ ap (λ (l : List FrameRecord). with_frames building l []) (past-append 0 n fs (sealed_frame t ∷ []))

    pub then-showing : (i c num : ℕ) → i < length fs → c ≡ n + i → num ≡ c % frame_space
        → (get_or fs i no_frame).acknowledged ≡ false → (xs : List Event)
        → Leading xs (page n ts fs [] (hs ++ (frame_copy c ∷ [])) ds ys) → Leading (shows num ∷ xs) here
    unfolding enter_hand_out typed in_time
    then-showing i c num inside q is_number is_open xs later w f =
        before (shows num) xs w here (page n ts fs [] (hs ++ (frame_copy c ∷ [])) ds ys) _ (turns.show_same w num) fits
        refl handed
        (later _ (subst (For (card_step specified_card w (show_call num)).system) handed
        (step-shows 2 1 card_fits host_fits w here f num fits)))
      where
        fits : ltb num frame_space ≡ true
        fits = lt-ltb num frame_space (omega arith)

        handed : book_step here (card_step specified_card w (show_call num)).observation
            ≡ page n ts fs [] (hs ++ (frame_copy c ∷ [])) ds ys
        handed =
            ap (λ (k : ℕ). book_step here (card_step specified_card w (show_call k)).observation) is_number
            ∙ showing-entered 2 1 card_fits host_fits w here f c (omega (arith, released))
            (omega (arith, past-length 0 n fs))
            (ap (λ (x : FrameRecord). x.acknowledged) (past-at 0 n i c fs q) ∙ is_open)

    -- The i-th frame of fs, which holds one message of transaction t, arrives; the one after it was not accepted. How
    -- the host takes it in is given.
    pub then-receiving : (i c t k : ℕ) → c ≡ n + i → (get_or fs i no_frame).messages ≡ message t ∷ []
        → TermsFit (get_or (spent n ts) t no_transaction) → get_elem? hs k ≡ some (frame_copy c)
        → lowest_not_accepted here ≤ c → accepted_run (past 0 n (change_at fs i mark_accepted)) c ≡ 1
        → WritesAllowed (page n ts (change_at fs i mark_accepted) [] hs ds ys)
        → ((w : System) → Arrival w here k c (message t) → step ends w (receives k) ≡ host_step specified_host w k)
        → (xs : List Event)
        → ((zs : List Expected)
        → Leading xs (page n ts (change_at fs i mark_accepted) [] hs (ds ++ (one_frame c ∷ [])) zs))
        → Leading (receives k ∷ xs) here
    unfolding typed enter_arrival
    then-receiving i c t k is holds fit copied in_turn alone allowed same xs later w f =
        before (receives k) xs w here next _ (same w arrival) refl late came
        (later next.expected _ (subst (For (host_step specified_host w k).system) came
        (step-receives 2 1 card_fits host_fits w here f k late (subst WritesAllowed (sym came) (kept allowed)))))
      where
        next : Book
        next = page n ts (change_at fs i mark_accepted) [] hs (ds ++ (one_frame c ∷ [])) (enter_arrival here c).expected

        kept : WritesAllowed (page n ts (change_at fs i mark_accepted) [] hs ds ys) → WritesAllowed next
        kept k = record {
          inside = record { data_inside = k.inside.data_inside; completion_inside = k.inside.completion_inside };
          apart = record { once_each = k.apart.once_each; apart_together = k.apart.apart_together };
        }

        arrival : Arrival w here k c (message t)
        arrival = record {
          agree = f;
          copied = copied;
          holds = ap (λ (x : FrameRecord). x.messages) (past-at 0 n i c fs is) ∙ holds;
          fits = message-fits (spent n ts) t fit;
        }

        late : in_time here (receives k) ≡ true
        late = not_late w here k c (message t) arrival in_turn

        came : book_step here (host_step specified_host w k).observation ≡ next
        came =
            arrived w here k c (message t) arrival
            ∙ rw (past-change 0 n i c fs mark_accepted is, alone)

    -- The acknowledgement of frame c, called for k-th, is read. How the card reads it is given.
    pub then-reading : (c k : ℕ) → get_elem? ds k ≡ some (one_frame c) → n ≤ c
        → ((w : System) → For w here → step ends w (reads k) ≡ card_step specified_card w (read_call k))
        → (xs : List Event)
        → Leading xs (page n ts (mark_where (λ i. covers (one_frame c) (n + i)) mark_acknowledged fs) [] hs ds ys)
        → Leading (reads k ∷ xs) here
    unfolding typed in_time ack_in_time enter_ack
    then-reading c k due in_turn same xs later w f =
        before (reads k) xs w here next _ (same w f) refl late came
        (later _ (subst (For (card_step specified_card w (read_call k)).system) came
        (step-reads 2 1 card_fits host_fits w here f k late)))
      where
        next : Book
        next = page n ts (mark_where (λ i. covers (one_frame c) (n + i)) mark_acknowledged fs) [] hs ds ys

        late : in_time here (reads k) ≡ true
        late = rw due (leb-more (released_count here) c _ (omega (arith, released)))

        came : book_step here (card_step specified_card w (read_call k)).observation ≡ next
        came =
            reading-entered 2 1 card_fits host_fits w here f k (one_frame c) due
            ∙ ap (λ (l : List FrameRecord). with_frames here l [])
            (past-where mark_acknowledged (λ t. refl) (covers (one_frame c)) 0 n fs)

  module _ (n : ℕ) (hs : List HandOut) (ds : List AckRange) (ys : List Expected) where
    abbrev one : List Transaction
    one = bare ∷ []

    bare-at : TermsFit (get_or (spent n one) n no_transaction)
    bare-at =
        subst TermsFit (sym (spent-at n 0 n one (omega arith)))
        (record { count_fits = lit< tt; address-fits = lit< tt; value-fits = lit< tt })

    pub none-else : unfinished (page n [] [] [] hs ds ys) ≡ []
    unfolding unfinished_from
    none-else = unfinished-is n [] [] [] hs ds ys refl

    first-marked : mark_where (λ i. covers (one_frame n) (n + i)) mark_acknowledged (accepted_frame n ∷ []) ≡ done n ∷ []
    unfolding mark_where
    first-marked = rw (le-leb n (n + 0) (omega arith), lt-ltb (n + 0) (n + 1) (omega arith)) refl

    through : (hs' : List HandOut) (ds' : List AckRange) (zs : List Expected)
        → page (suc n) [] [] [] hs' ds' zs
        ≡ page n one (mark_where (λ i. covers (one_frame n) (n + i)) mark_acknowledged (accepted_frame n ∷ [])) [] hs' ds'
        zs
    through hs' ds' zs =
        sym (rw (first-marked, spent-next n [], past_next 0 n n [] (omega arith)) refl)

    -- One round more. The acknowledgement of its frame is the k-th called for.
    pub round : (k : ℕ) → length hs ≡ n → length ds ≡ k → (xs : List Event)
        → ((zs : List Expected) → Leading xs (page (suc n) [] [] [] (hs ++ (frame_copy n ∷ []))
        (ds ++ (one_frame n ∷ [])) zs))
        → Leading (opens 0 0 0 ∷ adds (n % trans_space) 0 [] ∷ seals ∷ shows (n % frame_space) ∷ receives n ∷ reads k
        ∷ xs) (page n [] [] [] hs ds ys)
    unfolding typed needed messages_in of_transaction change_at
    round k long due xs later =
        then-opening n [] [] hs ds ys refl 0 0 0 refl (lit< tt) [] none-else _
        (then-sealing n one [] hs ds ys refl 0 n (n % trans_space) (lit< tt) (omega arith) refl (lit≤ tt) (lit< tt)
        (lit< tt)
        _
        (then-showing n one (sealed_frame n ∷ []) hs ds ys refl 0 n (n % frame_space) (lit< tt) (omega arith) refl refl _
        (then-receiving n one (sealed_frame n ∷ []) hs' ds ys refl 0 n n n (omega arith) refl bare-at
        (seam hs (frame_copy n) n long) (omega (arith, lowest))
        (run_alone n 0 n (accepted_frame n ∷ []) (omega arith) refl refl)
        (page-allowed n one (accepted_frame n ∷ []) (fitting-one n 0 0) (bares (n ∷ [])) _ _ _) in-turn _
        (λ zs. then-reading n one (accepted_frame n ∷ []) hs' ds' zs refl n k (seam ds (one_frame n) k due) (omega arith)
        (λ w f. turns.read_same w _ k n f (seam ds (one_frame n) k due)
        (released-is n one (accepted_frame n ∷ []) [] hs' ds' zs refl)) xs
        (subst (Leading xs) (through hs' ds' zs) (later zs))))))
      where
        hs' : List HandOut
        hs' = hs ++ (frame_copy n ∷ [])

        ds' : List AckRange
        ds' = ds ++ (one_frame n ∷ [])

        waiting : Book
        waiting = page n one (sealed_frame n ∷ []) [] hs' ds ys

        lowest : lowest_not_accepted waiting ≡ n
        lowest = past-leads (λ x. x.accepted) (λ t. refl) n (sealed_frame n ∷ []) refl

        in-turn : (w : System) → Arrival w waiting n n (message n)
            → step ends w (receives n) ≡ host_step specified_host w n
        in-turn w a =
            turns.receive_same w waiting n n (message n) a lowest
            (low-open n one (sealed_frame n ∷ []) [] hs' ds ys refl)

  pub all-rounds : (k n : ℕ) (ys : List Expected) (xs : List Event)
      → ((zs : List Expected) → Leading xs (page (n + k) [] [] [] (round_copies (n + k)) (round_acks (n + k)) zs))
      → Leading (rounds k n xs) (page n [] [] [] (round_copies n) (round_acks n) ys)
  unfolding rounds round_copies round_acks
  all-rounds zero n ys xs later =
      subst (λ (m : ℕ). Leading xs (page m [] [] [] (round_copies m) (round_acks m) ys)) (omega arith) (later ys)
  all-rounds (suc k) n ys xs later =
      round n (round_copies n) (round_acks n) ys n (copies_length n) (acks-length n) (rounds k (suc n) xs)
      (λ zs. all-rounds k (suc n) zs xs
      (λ vs. subst (λ (m : ℕ). Leading xs (page m [] [] [] (round_copies m) (round_acks m) vs)) (omega arith)
      (later vs)))

  -- A transaction of two messages is opened, and each goes into a frame of its own.
  pub two-sealed : (n num : ℕ) (hs : List HandOut) (ds : List AckRange) (ys : List Expected) → num ≡ n % trans_space
      → (xs : List Event) → Leading xs (page n (double ∷ []) (sealed_frame n ∷ sealed_frame n ∷ []) [] hs ds ys)
      → Leading (opens 2 0 0 ∷ adds num 0 [] ∷ seals ∷ adds num 0 [] ∷ seals ∷ xs) (page n [] [] [] hs ds ys)
  unfolding typed needed messages_in of_transaction
  two-sealed n num hs ds ys is xs later =
      then-opening n [] [] hs ds ys refl 2 0 0 refl (lit< tt) [] (none-else n hs ds ys) _
      (then-sealing n (double ∷ []) [] hs ds ys refl 0 n num (lit< tt) (omega arith) is (lit≤ tt) (lit< tt) (lit< tt) _
      (then-sealing n (double ∷ []) (sealed_frame n ∷ []) hs ds ys refl 0 n num (lit< tt) (omega arith) is (lit≤ tt)
      (lit< tt) (omega (arith, ap length (of_transaction-cons-same n (message n) [] refl))) xs later))

  abbrev pub fresh_system : System
  fresh_system = initial ends 2 1 64 slots₀ round_memory

  -- n rounds from two fresh ends on, and then xs
  pub whole : (n : ℕ) (xs : List Event)
      → ((zs : List Expected) → Leading xs (page n [] [] [] (round_copies n) (round_acks n) zs))
      → Leads (rounds n 0 xs) fresh_system (empty_book round_memory)
  unfolding round_copies round_acks empty_book past spent
  whole n xs later =
      let is : n ≡ 0 + n = omega arith in
      all-rounds n 0 [] xs
      (λ zs. subst (λ (m : ℕ). Leading xs (page m [] [] [] (round_copies m) (round_acks m) zs)) is (later zs))
      fresh_system (subst (λ (w : System). For w (empty_book round_memory)) (sym turns.fresh_same)
      (starts 2 1 card_fits host_fits 64 slots₀ round_memory fresh-open))
