-- The book of a list that goes in rounds: each round opens a transaction, whose one bare message goes in a frame of its
-- own, which arrives and is acknowledged. However many rounds are through, what the book says of the transactions and
-- frames after them is as short as these are few. Assumes nothing.
use Prim.Native.Nat.{ℕ, zero, suc, ◌+◌, ◌-◌, ◌≤◌, ◌<◌, min}
use native.Mathlib.Nat.{zero-add, mod-lt}
use native.Mathlib.Omega.{arith}
use mathlib.Core.Path.{◌≡◌, refl, sym, ap, ◌∙◌, subst}
use mathlib.Core.Logic.{◌⊎◌, inl, inr, ◌≢◌}
use native.Mathlib.Decide.{dec_lt, ℕ_discrete}
use mathlib.Core.Bool.{Bool, true, false, cond}
use mathlib.Core.List.Memᴰ
use mathlib.Core.List.{
  List,
  [],
  ◌∷◌,
  ◌++◌,
  map,
  Memᴰ,
}
use borrow.Author.Tests.{le-leb}
use lib.Dec.{lit≤, lit<}
use lib.ListN.{length, get_or, replicate, take}
use Rattle.seq.specs.Ring.{frame_space, trans_space}
use Rattle.bitmap.specs.Marks.{leading}
use Rattle.bitmap.proofs.Marks.{leading-is}
use Rattle.wire.specs.Format.{needed}
use Rattle.wire.proofs.RoundTrip.{Fits}
use Rattle.delivery.specs.Book.{
  MessageRecord,
  Transaction,
  no_transaction,
  FrameRecord,
  no_frame,
  AckRange,
  HandOut,
  Expected,
  Book,
  messages_in,
  any_frame,
  is_accepted,
  released_count,
  released_messages,
  accepted_messages,
  of_transaction,
  all_messages_in,
  transaction_at,
  finished,
  unfinished_from,
  unfinished,
  accepted_run,
  change_at,
  mark_where,
  mark_acknowledged,
  mark_accepted,
}
use Rattle.delivery.specs.Demand3.{completion_end, WritesAllowed}
use Rattle.delivery.proofs.Book.Counts.{count, not-full-none}
use Rattle.delivery.proofs.Book.Writes.{of_transaction-cons-same, of_transaction-cons-other}
use Rattle.delivery.proofs.Book.Sound.{low_unfinished}
use Rattle.delivery.proofs.Host.HostStep.{wired, full_at, low}
use Rattle.delivery.proofs.Lists.NoBytes.{allowed-without-bytes}

-- ---- frames that are through, and others after them

abbrev pub message : ℕ → MessageRecord
message t = record { trans = t; data_address = 0; bytes = [] }

abbrev pub sealed_frame : ℕ → FrameRecord
sealed_frame t = record { messages = message t ∷ []; acknowledged = false; accepted = false }

abbrev pub accepted_frame : ℕ → FrameRecord
accepted_frame t = mark_accepted (sealed_frame t)

abbrev pub done : ℕ → FrameRecord
done t = mark_acknowledged (accepted_frame t)

-- n frames, with the messages of transactions k, k + 1, ..; and then fs
unfoldable pub past : ℕ → ℕ → List FrameRecord → List FrameRecord
past k zero fs = fs
past k (suc n) fs = done k ∷ past (suc k) n fs

pub past-length : (k n : ℕ) (fs : List FrameRecord) → length (past k n fs) ≡ n + length fs
unfolding past
past-length k zero fs = omega arith
past-length k (suc n) fs = omega (arith, past-length (suc k) n fs)

pub past-append : (k n : ℕ) (fs gs : List FrameRecord) → past k n fs ++ gs ≡ past k n (fs ++ gs)
unfolding past
past-append k zero fs gs = refl
past-append k (suc n) fs gs = ap {B = List FrameRecord} (λ r. done k ∷ r) (past-append (suc k) n fs gs)

-- one more is through
pub past_next : (k n t : ℕ) (fs : List FrameRecord) → t ≡ k + n → past k n (done t ∷ fs) ≡ past k (suc n) fs
unfolding past
past_next k zero t fs q = ap {B = List FrameRecord} (λ (i : ℕ). done i ∷ fs) (omega arith)
past_next k (suc n) t fs q = ap {B = List FrameRecord} (λ r. done k ∷ r) (past_next (suc k) n t fs (omega arith))

-- the i-th after them, changed and looked up
pub past-change : (k n i c : ℕ) (fs : List FrameRecord) (f : FrameRecord → FrameRecord) → c ≡ n + i
    → change_at (past k n fs) c f ≡ past k n (change_at fs i f)
unfolding past change_at
past-change k zero i c fs f q = ap (λ (j : ℕ). change_at fs j f) (omega arith)
past-change k (suc n) i zero fs f q = absurd (omega arith)
past-change k (suc n) i (suc c) fs f q =
    ap {B = List FrameRecord} (λ r. done k ∷ r) (past-change (suc k) n i c fs f (omega arith))

-- all after them marked by a test; those that are through stay as they are
pub past-where : (f : FrameRecord → FrameRecord) → ((t : ℕ) → f (done t) ≡ done t) → (p : ℕ → Bool) (k n : ℕ)
    (fs : List FrameRecord) → mark_where p f (past k n fs) ≡ past k n (mark_where (λ i. p (n + i)) f fs)
unfolding past mark_where
past-where f q p k zero fs = ap (λ (t : ℕ → Bool). mark_where t f fs) (λ i j. p (sym (zero-add j) i))
past-where f q p k (suc n) fs =
    ap {B = List FrameRecord} (λ x. x ∷ mark_where (λ j. p (suc j)) f (past (suc k) n fs)) (kept (p 0))
    ∙ ap {B = List FrameRecord} (λ r. done k ∷ r) (past-where f q (λ j. p (suc j)) (suc k) n fs
    ∙ ap (λ (t : ℕ → Bool). past (suc k) n (mark_where t f fs)) (λ i j. p (shift j i)))
  where
    kept : (x : Bool) → cond x (f (done k)) (done k) ≡ done k
    kept true = q k
    kept false = refl

    shift : (j : ℕ) → suc (n + j) ≡ suc n + j
    shift j = omega arith

pub past-at : (k n i c : ℕ) (fs : List FrameRecord) → c ≡ n + i → get_or (past k n fs) c no_frame ≡ get_or fs i no_frame
unfolding past
past-at k zero i c fs q = ap (λ (j : ℕ). get_or fs j no_frame) (omega arith)
past-at k (suc n) i zero fs q = absurd (omega arith)
past-at k (suc n) i (suc c) fs q = past-at (suc k) n i c fs (omega arith)

pub past-done : (k n i t : ℕ) (fs : List FrameRecord) → i < n → t ≡ k + i → get_or (past k n fs) i no_frame ≡ done t
unfolding past
past-done k zero i t fs h q = absurd (omega arith)
past-done k (suc n) zero t fs h q = ap done (omega arith)
past-done k (suc n) (suc i) t fs h q = past-done (suc k) n i t fs (omega arith) (omega arith)

past-take : (k n : ℕ) (fs : List FrameRecord) → take n (past k n fs) ≡ past k n []
unfolding past
past-take k zero fs = refl
past-take k (suc n) fs = ap {B = List FrameRecord} (λ r. done k ∷ r) (past-take (suc k) n fs)

-- how many frames from the first on pass a test that the next one does not pass
pub past-leads : (g : FrameRecord → Bool) → ((t : ℕ) → g (done t) ≡ true) → (n : ℕ) (fs : List FrameRecord)
    → g (get_or fs 0 no_frame) ≡ false
    → leading (λ c. g (get_or (past 0 n fs) c no_frame)) (length (past 0 n fs)) ≡ n
past-leads g pass n fs stop =
    leading-is (λ c. g (get_or (past 0 n fs) c no_frame)) (length (past 0 n fs)) n (omega (arith, past-length 0 n fs))
    (λ i h. ap g (past-done 0 n i i fs h (omega arith)) ∙ pass i)
    (λ h. ap g (past-at 0 n 0 n fs (omega arith)) ∙ stop)

-- ---- the messages of each transaction in them

module _ (p : FrameRecord → Bool) (pass : (t : ℕ) → p (done t) ≡ true) where
  next-same : (k : ℕ) (fs : List FrameRecord) (i : ℕ) → k ≡ i
      → count i (messages_in p (done k ∷ fs)) ≡ suc (count i (messages_in p fs))
  unfolding messages_in
  next-same k fs i q = rw (pass k) (ap length (of_transaction-cons-same i (message k) (messages_in p fs) q))

  next-other : (k : ℕ) (fs : List FrameRecord) (i : ℕ) → k ≢ i
      → count i (messages_in p (done k ∷ fs)) ≡ count i (messages_in p fs)
  unfolding messages_in
  next-other k fs i q = rw (pass k) (ap length (of_transaction-cons-other i (message k) (messages_in p fs) q))

  pub count-outside : (k n i : ℕ) (fs : List FrameRecord) → (k ≤ i → i < k + n → ⊥)
      → count i (messages_in p (past k n fs)) ≡ count i (messages_in p fs)
  unfolding past
  count-outside k zero i fs out = refl
  count-outside k (suc n) i fs out =
      next-other k (past (suc k) n fs) i (λ q. out (omega arith) (omega arith))
      ∙ count-outside (suc k) n i fs (λ a b. out (omega arith) (omega arith))

  pub count-inside : (k n i : ℕ) (fs : List FrameRecord) → k ≤ i → i < k + n
      → count i (messages_in p (past k n fs)) ≡ suc (count i (messages_in p fs))
  unfolding past
  count-inside k zero i fs a b = absurd (omega arith)
  count-inside k (suc n) i fs a b = go (λ u. count-inside (suc k) n i fs u (omega arith)) (ℕ_discrete k i)
    where
      go : (suc k ≤ i → count i (messages_in p (past (suc k) n fs)) ≡ suc (count i (messages_in p fs))) → Dec (k ≡ i)
          → count i (messages_in p (done k ∷ past (suc k) n fs)) ≡ suc (count i (messages_in p fs))
      go later (yes q) =
          next-same k (past (suc k) n fs) i q
          ∙ ap suc (count-outside (suc k) n i fs (λ u v. omega arith))
      go later (no q) = next-other k (past (suc k) n fs) i q ∙ later (omega arith)

-- ---- transactions that are finished, and others after them

abbrev pub bare : Transaction
bare = record { count = 0; completion_address = 0; completion_value = 0; unfinished_at_opening = [] }

-- one that takes two messages
abbrev pub double : Transaction
double = record { count = 2; completion_address = 0; completion_value = 0; unfinished_at_opening = [] }

unfoldable pub spent : ℕ → List Transaction → List Transaction
spent zero ts = ts
spent (suc n) ts = bare ∷ spent n ts

pub spent-length : (n : ℕ) (ts : List Transaction) → length (spent n ts) ≡ n + length ts
unfolding spent
spent-length zero ts = omega arith
spent-length (suc n) ts = omega (arith, spent-length n ts)

pub spent-append : (n : ℕ) (ts us : List Transaction) → spent n ts ++ us ≡ spent n (ts ++ us)
unfolding spent
spent-append zero ts us = refl
spent-append (suc n) ts us = ap {B = List Transaction} (λ r. bare ∷ r) (spent-append n ts us)

pub spent-next : (n : ℕ) (ts : List Transaction) → spent n (bare ∷ ts) ≡ spent (suc n) ts
unfolding spent
spent-next zero ts = refl
spent-next (suc n) ts = ap {B = List Transaction} (λ r. bare ∷ r) (spent-next n ts)

pub spent-at : (n i c : ℕ) (ts : List Transaction) → c ≡ n + i
    → get_or (spent n ts) c no_transaction ≡ get_or ts i no_transaction
unfolding spent
spent-at zero i c ts q = ap (λ (j : ℕ). get_or ts j no_transaction) (omega arith)
spent-at (suc n) i zero ts q = absurd (omega arith)
spent-at (suc n) i (suc c) ts q = spent-at n i c ts (omega arith)

pub spent-bare : (n i : ℕ) (ts : List Transaction) → i < n → get_or (spent n ts) i no_transaction ≡ bare
unfolding spent
spent-bare zero i ts h = absurd (omega arith)
spent-bare (suc n) zero ts h = refl
spent-bare (suc n) (suc i) ts h = spent-bare n i ts (omega arith)

spent_some : (n : ℕ) (ts : List Transaction) (d : Transaction) → Memᴰ d (spent n ts)
    → (d ≡ bare) ⊎ Memᴰ d ts
unfolding spent
spent_some zero ts d m = inr m
spent_some (suc n) ts d m = go (spent_some n ts d) (Memᴰ.cases_cons m)
  where
    go : (Memᴰ d (spent n ts) → (d ≡ bare) ⊎ Memᴰ d ts) → (d ≡ bare) ⊎ Memᴰ d (spent n ts)
        → (d ≡ bare) ⊎ Memᴰ d ts
    go h (inl q) = inl q
    go h (inr k) = h k

-- ---- runs of accepted frames

-- The acknowledgement of a frame alone.
abbrev pub one_frame : ℕ → AckRange
one_frame c = record { first = c; many = 1 }

-- the i-th after those that are through is accepted, and the next one is not
pub run_alone : (n i c : ℕ) (fs : List FrameRecord) → c ≡ n + i → (get_or fs i no_frame).accepted ≡ true
    → (get_or fs (suc i) no_frame).accepted ≡ false → accepted_run (past 0 n fs) c ≡ 1
unfolding accepted_run
run_alone n i c fs q this next =
    leading-is (λ j. (get_or (past 0 n fs) (c + j) no_frame).accepted) 255 1 (omega arith)
    (λ j h. ap (λ (x : FrameRecord). x.accepted) (past-at 0 n i (c + j) fs (omega arith)) ∙ this)
    (λ h. ap (λ (x : FrameRecord). x.accepted) (past-at 0 n (suc i) (c + 1) fs (omega arith)) ∙ next)

-- from the first frame on: all that are through, at most 255
pub run-through : (n : ℕ) → accepted_run (past 0 n []) 0 ≡ min 255 n
unfolding accepted_run
run-through n =
    leading-is (λ j. (get_or (past 0 n []) (0 + j) no_frame).accepted) 255 (min 255 n) (omega arith)
    (λ j h. ap (λ (x : FrameRecord). x.accepted) (past-done 0 n (0 + j) (0 + j) [] (omega arith) (omega arith)))
    (λ h. ap (λ (x : FrameRecord). x.accepted) (past-at 0 n 0 (0 + min 255 n) [] (omega arith)))

-- ---- the book

unfoldable pub round_memory : List ℕ
round_memory = replicate 8 0

-- Between rounds, n rounds are through; ts and fs are the transactions and the frames after them.
abbrev pub page : ℕ → List Transaction → List FrameRecord → List MessageRecord → List HandOut → List AckRange
    → List Expected → Book
page n ts fs building hand_outs acks_due expected = record {
  start = round_memory;
  transactions = spent n ts;
  frames = past 0 n fs;
  building = building;
  hand_outs = hand_outs;
  acks_due = acks_due;
  expected = expected;
}

-- Terms that the wire can carry.
pub record TermsFit (d : Transaction) : Type 0 where
  pub count_fits : d.count < frame_space
  pub address-fits : d.completion_address < trans_space
  pub value-fits : d.completion_value < trans_space

pub message-fits : (ds : List Transaction) (t : ℕ) → TermsFit (get_or ds t no_transaction) → Fits (wired ds (message t))
message-fits ds t d = record {
  trans-fits = mod-lt t (lit< tt);
  address-fits = d.address-fits;
  value-fits = d.value-fits;
  count_fits = d.count_fits;
  at-fits = lit< tt;
  bytes_fit = lit< tt;
}

module _ (n : ℕ) (ts : List Transaction) (fs : List FrameRecord) (building : List MessageRecord) (hs : List HandOut)
    (ds : List AckRange) (ys : List Expected) where
  abbrev here : Book
  here = page n ts fs building hs ds ys

  -- the messages added of one of ts
  pub page-count : (i : ℕ) → n ≤ i → count i (messages_in any_frame (past 0 n fs)) ≡ count i (messages_in any_frame fs)
  page-count i h = count-outside any_frame (λ t. refl) 0 n i fs (λ a b. omega arith)

  module _ (unreleased : (get_or fs 0 no_frame).acknowledged ≡ false) where
    pub released-is : released_count here ≡ n
    released-is = past-leads (λ x. x.acknowledged) (λ t. refl) n fs unreleased

    released-messages : released_messages here ≡ messages_in any_frame (past 0 n [])
    released-messages = rw (released-is, past-take 0 n fs)

    in-released : (i : ℕ) → i < n → count i (messages_in any_frame (past 0 n [])) ≡ 1
    unfolding messages_in of_transaction
    in-released i h = count-inside any_frame (λ t. refl) 0 n i [] (omega arith) (omega arith)

    none-released : (i : ℕ) → n ≤ i → count i (messages_in any_frame (past 0 n [])) ≡ 0
    unfolding messages_in of_transaction
    none-released i h = count-outside any_frame (λ t. refl) 0 n i [] (λ a b. omega arith)

    full : (i : ℕ) → i < n → all_messages_in bare i (messages_in any_frame (past 0 n [])) ≡ true
    unfolding all_messages_in needed
    full i h = le-leb 1 (count i (messages_in any_frame (past 0 n []))) (omega (arith, in-released i h))

    pub low-is : low_unfinished here ≡ n
    unfolding finished
    low-is =
        leading-is (finished here) (length (spent n ts)) n (omega (arith, spent-length n ts))
        (λ i h. rw (released-messages, spent-bare n i ts h) (full i h))
        (λ h. rw released-messages
        (not-full-none (transaction_at here n) n (messages_in any_frame (past 0 n [])) (none-released n (omega arith))))

    unfinished-from : (m j : ℕ) (es : List MessageRecord)
        → ((i : ℕ) → j ≤ i → i < j + m → all_messages_in bare i es ≡ true)
        → unfinished_from j (spent m ts) es ≡ unfinished_from (j + m) ts es
    unfolding spent unfinished_from
    unfinished-from zero j es all = ap (λ (i : ℕ). unfinished_from i ts es) (omega arith)
    unfinished-from (suc m) j es all =
        rw (all j (omega arith) (omega arith))
        (unfinished-from m (suc j) es (λ i a b. all i (omega arith) (omega arith))
        ∙ ap (λ (i : ℕ). unfinished_from i ts es) (omega arith))

    pub unfinished-is : unfinished here ≡ unfinished_from n ts (messages_in any_frame (past 0 n []))
    unfolding unfinished
    unfinished-is =
        ap (unfinished_from 0 (spent n ts)) released-messages
        ∙ unfinished-from n 0 (messages_in any_frame (past 0 n [])) (λ i a b. full i (omega arith))
        ∙ ap (λ (i : ℕ). unfinished_from i ts (messages_in any_frame (past 0 n []))) (omega arith)

    -- those of ts are not among them
    pub not-finished : (d : Transaction) (i : ℕ) → n ≤ i
        → all_messages_in d i (messages_in any_frame (past 0 n [])) ≡ false
    not-finished d i h = not-full-none d i (messages_in any_frame (past 0 n [])) (none-released i h)

  -- the lowest that is not complete at the host
  pub low-open : count n (messages_in is_accepted fs) ≡ 0 → low (spent n ts) (accepted_messages here) ≡ n
  unfolding all_messages_in needed
  low-open none =
      leading-is (full_at (spent n ts) (accepted_messages here)) (length (spent n ts)) n
      (omega (arith, spent-length n ts))
      (λ i h. rw (spent-bare n i ts h)
      (le-leb 1 (count i (accepted_messages here))
      (omega (arith, count-inside is_accepted (λ t. refl) 0 n i fs (omega arith) (omega arith)))))
      (λ h. not-full-none (get_or (spent n ts) n no_transaction) n (accepted_messages here)
      (count-outside is_accepted (λ t. refl) 0 n n fs (λ a b. omega arith) ∙ none))

-- ---- the premise on writes

abbrev Bare : MessageRecord → Type 0
Bare e = (e.bytes ≡ []) × (e.data_address ≡ 0)

abbrev AllBare : List MessageRecord → Type 0
AllBare es = (e : MessageRecord) → Memᴰ e es → Bare e

one_more : (t : ℕ) (es : List MessageRecord) → AllBare es → AllBare (message t ∷ es)
one_more t es h e m = go (Memᴰ.cases_cons m)
  where
    go : (e ≡ message t) ⊎ Memᴰ e es → Bare e
    go (inl q) = subst Bare (sym q) (refl, refl)
    go (inr k) = h e k

pub bares : (ts : List ℕ) → AllBare (map message ts)
bares [] = λ e m. absurd (Memᴰ.not-nil m)
bares (t ∷ ts) = one_more t (map message ts) (bares ts)

through-bare : (k n : ℕ) (fs : List FrameRecord) → AllBare (messages_in any_frame fs ++ [])
    → AllBare (messages_in any_frame (past k n fs) ++ [])
unfolding past messages_in
through-bare k zero fs h = h
through-bare k (suc n) fs h =
    one_more k (messages_in any_frame (past (suc k) n fs) ++ []) (through-bare (suc k) n fs h)

-- The completions of the transactions after the finished ones: each lies after those of the ones that were unfinished
-- when it was opened.
pub record Fitting (n : ℕ) (ts : List Transaction) : Type 0 where
  pub inside : (d : Transaction) → Memᴰ d ts → completion_end d ≤ 8
  pub after : (i j : ℕ) → j < length ts → Memᴰ i (get_or ts j no_transaction).unfinished_at_opening
      → (get_or (spent n ts) i no_transaction).completion_address + 4 ≤ (get_or ts j no_transaction).completion_address

pub fitting-none : (n : ℕ) → Fitting n []
fitting-none n = record {
  inside = λ d m. absurd (Memᴰ.not-nil m);
  after = λ i j h m. absurd (omega arith);
}

pub fitting-one : (n count value : ℕ)
    → Fitting n
    (record { count = count; completion_address = 0; completion_value = value; unfinished_at_opening = [] } ∷ [])
fitting-one n count value = record {
  inside = λ d m. go d (Memᴰ.cases_cons m);
  after = λ i j h m. later i j h m;
}
  where
    only : Transaction
    only = record { count = count; completion_address = 0; completion_value = value; unfinished_at_opening = [] }

    go : (d : Transaction) → (d ≡ only) ⊎ Memᴰ d [] → completion_end d ≤ 8
    go d (inl q) = rw q (lit≤ tt)
    go d (inr m) = absurd (Memᴰ.not-nil m)

    later : (i j : ℕ) → j < 1 → Memᴰ i (get_or (only ∷ []) j no_transaction).unfinished_at_opening
        → (get_or (spent n (only ∷ [])) i no_transaction).completion_address + 4
        ≤ (get_or (only ∷ []) j no_transaction).completion_address
    later i zero h m = absurd (Memᴰ.not-nil m)
    later i (suc j) h m = absurd (omega arith)

-- a transaction opened while the one before it is unfinished
abbrev pub opened_next : ℕ → Transaction
opened_next n = record { count = 0; completion_address = 4; completion_value = 0; unfinished_at_opening = n ∷ [] }

pub fitting-two : (n : ℕ) → Fitting n (bare ∷ opened_next n ∷ [])
fitting-two n = record {
  inside = λ d m. go d (Memᴰ.cases_cons m);
  after = λ i j h m. later i j h m;
}
  where
    last : (d : Transaction) → (d ≡ opened_next n) ⊎ Memᴰ d [] → completion_end d ≤ 8
    last d (inl q) = rw q (lit≤ tt)
    last d (inr m) = absurd (Memᴰ.not-nil m)

    go : (d : Transaction) → (d ≡ bare) ⊎ Memᴰ d (opened_next n ∷ []) → completion_end d ≤ 8
    go d (inl q) = rw q (lit≤ tt)
    go d (inr m) = last d (Memᴰ.cases_cons m)

    only : (i : ℕ) → (i ≡ n) ⊎ Memᴰ i []
        → (get_or (spent n (bare ∷ opened_next n ∷ [])) i no_transaction).completion_address + 4 ≤ 4
    only i (inl q) = rw (spent-at n 0 i (bare ∷ opened_next n ∷ []) (omega arith)) (lit≤ tt)
    only i (inr m) = absurd (Memᴰ.not-nil m)

    later : (i j : ℕ) → j < 2 → Memᴰ i (get_or (bare ∷ opened_next n ∷ []) j no_transaction).unfinished_at_opening
        → (get_or (spent n (bare ∷ opened_next n ∷ [])) i no_transaction).completion_address + 4
        ≤ (get_or (bare ∷ opened_next n ∷ []) j no_transaction).completion_address
    later i zero h m = absurd (Memᴰ.not-nil m)
    later i (suc zero) h m = only i (Memᴰ.cases_cons m)
    later i (suc (suc j)) h m = absurd (omega arith)

pub page-allowed : (n : ℕ) (ts : List Transaction) (fs : List FrameRecord) → Fitting n ts
    → AllBare (messages_in any_frame fs ++ []) → (hs : List HandOut) (ds : List AckRange) (ys : List Expected)
    → WritesAllowed (page n ts fs [] hs ds ys)
unfolding round_memory
page-allowed n ts fs t h hs ds ys =
    allowed-without-bytes (page n ts fs [] hs ds ys) (λ e m. (through-bare 0 n fs h e m).0)
    (λ e m. rw ((through-bare 0 n fs h e m).0, (through-bare 0 n fs h e m).1) (lit≤ tt))
    (λ d m. inside d (spent_some n ts d m))
    (λ i j l k m. apart i j k m (dec_lt j n))
  where
    inside : (d : Transaction) → (d ≡ bare) ⊎ Memᴰ d ts → completion_end d ≤ 8
    inside d (inl q) = rw q (lit≤ tt)
    inside d (inr m) = t.inside d m

    apart : (i j : ℕ) → j < length (spent n ts)
        → Memᴰ i (get_or (spent n ts) j no_transaction).unfinished_at_opening → Dec (j < n)
        → (get_or (spent n ts) i no_transaction).completion_address + 4
        ≤ (get_or (spent n ts) j no_transaction).completion_address
    apart i j k m (yes p) =
        absurd (Memᴰ.not-nil (subst (λ (d : Transaction). Memᴰ i d.unfinished_at_opening)
        (spent-bare n j ts p) m))
    apart i j k m (no p) =
        let q : get_or (spent n ts) j no_transaction ≡ get_or ts (j - n) no_transaction =
        spent-at n (j - n) j ts (omega arith) in
        subst (λ (d : Transaction). (get_or (spent n ts) i no_transaction).completion_address + 4 ≤ d.completion_address)
        (sym q)
        (t.after i (j - n) (omega (arith, spent-length n ts))
        (subst (λ (d : Transaction). Memᴰ i d.unfinished_at_opening) q m))
