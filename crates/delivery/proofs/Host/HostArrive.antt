-- The host on a copy of a sealed frame: again if a copy has reached it before, accepted if not; and its state stays the
-- book's. Assumes nothing.
use Prim.Native.Nat.{ℕ, zero, suc, ◌+◌, ◌-◌, ◌%◌, ◌≤◌, ◌<◌}
use native.Mathlib.Nat.{mod-add-mod, zero-add, not-suc-le-zero}
use native.Mathlib.Decide.{dec_lt, ℕ_discrete}
use native.Mathlib.Omega.{arith}
use mathlib.Core.Path.{◌≡◌, refl, sym, ap, ◌∙◌, subst}
use mathlib.Core.Bool.{Bool, true, false}
use mathlib.Core.List.{List, [], ◌∷◌, ◌++◌, map, Memᴰ}
use lib.Dec.{lit<}
use lib.ListN.{length, get_or, get_or-eq_default}
use lib.Seq.{sets, length-sets}
use Rattle.seq.specs.Ring.{distance, advance, frame_space}
use Rattle.seq.proofs.Ring.{distance-ahead, distance-behind, host-late, host-window}
use Rattle.bitmap.specs.Marks.{mark, with_mark, leading, trailing_ones}
use Rattle.bitmap.proofs.Marks.{
  leading_le,
  leading-holds,
  leading-same,
  mark-same,
  mark-other,
  window-moves,
  window-marks,
}
use Rattle.wire.specs.Format.{Message}
use Rattle.host.specs.declared.Pair.{Pair}
use Rattle.host.specs.declared.Answer.{Answer}
use Rattle.host.specs.declared.Answer.TheVariants.{Accepted}
use Rattle.host.specs.Host.{
  Tally,
  take_all,
  Received,
  again,
  settled,
  run_from,
  after_frame,
  accepting,
  concluded,
  transactions_of,
  tally_of,
  by_number,
}
use Rattle.host.proofs.Receiving.{
  settled-behind,
  settled-ahead,
  settled-window,
  by-number-behind,
  by-number-again,
  by-number-new,
}
use Rattle.delivery.specs.Book.{
  MessageRecord,
  Transaction,
  no_transaction,
  FrameRecord,
  no_frame,
  Book,
  frame_at,
  lowest_not_accepted,
  accepted_messages,
  added_messages,
  transaction_at,
  is_accepted,
  complete,
  Write,
  perform,
  book_writes,
  book_memory,
  data_bytes,
  change_at,
  mark_accepted,
  accepted_run,
  enter_arrival,
}
use Rattle.delivery.specs.Demand3.{data_end, completion_end, WritesAllowed}
use Rattle.delivery.proofs.Book.Counts.{
  count,
  none-beyond,
  same-changed,
  all_same,
  length-change,
  get_or-change-same,
  get_or-change-other,
}
use Rattle.delivery.proofs.Book.Sound.{
  Sound,
  low_unfinished,
  low_incomplete,
  frame-window,
  low-le-low,
  released-le-lowest,
}
use Rattle.delivery.proofs.Book.Steps.{sound-arriving}
use Rattle.delivery.proofs.Book.Sums.{
  sealed_before,
  sealed_after,
  messages-before,
  messages-after,
  frame-known,
  frame-awaited,
  memory-arriving,
  completed_all,
}
use Rattle.delivery.proofs.Book.AllFinished.{messages_in-some}
use Rattle.delivery.proofs.Host.HostStep.{TransactionsFor, wired, low}
use Rattle.delivery.proofs.Host.HostFrame.{FrameTaken, frame-taken, Inside}

pub record HostFor (h : Pair) (b : Book) : Type 0 where
  pub next_is : h.next.0 ≡ lowest_not_accepted b % frame_space
  pub marks_are : (i : ℕ) → mark h.marks i ≡ (frame_at b (lowest_not_accepted b + i)).accepted
  pub transactions_for : TransactionsFor (transactions_of h) b.transactions (accepted_messages b)

-- ---- the run that an answer acknowledges

-- Numbers are behind or accepted at the host just where the frames are accepted in the book: from a frame on that is
-- not too late, and for as many as a run can have.
module _ (h : Pair) (b : Book) (r : HostFor h b) (s : Sound b) (c : ℕ) (inside : c < length b.frames)
    (in_time : lowest_not_accepted b ≤ c + 32768) where
  abbrev awaited : ℕ
  awaited = lowest_not_accepted b

  reach : length b.frames ≤ awaited + 64
  reach = omega (arith, s.frames_fit, released-le-lowest b s)

  settled-as : (i : ℕ) → i < 255 → settled h (advance frame_space (c % frame_space) i) ≡ (frame_at b (c + i)).accepted
  unfolding advance
  settled-as i l = rw (mod-add-mod c frame_space i) (go (dec_lt (c + i) awaited) (dec_lt (c + i) (awaited + 64)))
    where
      ahead : awaited ≤ c + i → c + i - awaited ≡ distance frame_space h.next.0 ((c + i) % frame_space)
      ahead k = rw r.next_is (sym (distance-ahead frame_space (lit< tt) awaited (c + i) k (omega (arith, reach))))

      go : Dec (c + i < awaited) → Dec (c + i < awaited + 64)
          → settled h ((c + i) % frame_space) ≡ (frame_at b (c + i)).accepted
      go (yes k) m =
          settled-behind h ((c + i) % frame_space) (frame_space - (awaited - (c + i)))
          (rw r.next_is (sym (distance-behind frame_space (lit< tt) awaited (c + i) k (omega arith)))) (omega arith)
          ∙ sym (leading-holds (λ k. (frame_at b k).accepted) (length b.frames) (c + i) k)
      go (no k) (yes m) =
          let z : awaited + (c + i - awaited) ≡ c + i = omega arith in
          settled-window h ((c + i) % frame_space) (c + i - awaited) (ahead (omega arith)) (omega arith)
          ∙ r.marks_are (c + i - awaited) ∙ ap (λ (n : ℕ). (frame_at b n).accepted) z
      go (no k) (no m) =
          settled-ahead h ((c + i) % frame_space) (c + i - awaited) (ahead (omega arith)) (omega arith)
          (omega (arith, reach))
          ∙ sym (ap (λ (x : FrameRecord). x.accepted)
          (get_or-eq_default b.frames no_frame (omega (arith, reach))))

  pub run-agrees : run_from h (c % frame_space) ≡ accepted_run b.frames c
  unfolding run_from accepted_run
  run-agrees =
      leading-same (λ i. settled h (advance frame_space (c % frame_space) i)) (λ i. (frame_at b (c + i)).accepted) 255
      settled-as

pub transactions-arriving : (b : Book) (c : ℕ) → (enter_arrival b c).transactions ≡ b.transactions
unfolding enter_arrival
transactions-arriving b c = refl

module _ (h : Pair) (b : Book) (r : HostFor h b) (s : Sound b) (c : ℕ) (inside : c < length b.frames)
    (in_time : lowest_not_accepted b ≤ c + 32768) (memory : List ℕ) (ms : List Message) where
  abbrev lo : ℕ
  lo = lowest_not_accepted b

  abbrev num : ℕ
  num = c % frame_space

  abbrev dist : ℕ
  dist = distance frame_space h.next.0 num

  fits64 : length b.frames ≤ lo + 64
  fits64 = omega (arith, s.frames_fit, released-le-lowest b s)

  -- in the window the distance is the difference
  away : lo ≤ c → c < lo + 64 → dist ≡ c - lo
  away p q = rw r.next_is (host-window frame_space (lit< tt) 64 lo c (omega arith) p q)

  marked-as : lo ≤ c → mark h.marks (c - lo) ≡ (frame_at b c).accepted
  marked-as p =
      let z : lo + (c - lo) ≡ c = omega arith in
      r.marks_are (c - lo) ∙ ap (λ (k : ℕ). (frame_at b k).accepted) z

  pub answers-again : (frame_at b c).accepted ≡ true
      → by_number h memory num ms ≡ again h memory num
  answers-again a = go (dec_lt c lo)
    where
      go : Dec (c < lo) → by_number h memory num ms ≡ again h memory num
      go (yes l) =
          let far : 65536 - 32768 ≤ dist = rw r.next_is
          (host-late frame_space (lit< tt) 32768 lo c (omega arith) l in_time) in
          by-number-behind h memory num dist ms refl (omega arith)
      go (no n) =
          let d : dist ≡ c - lo = away (omega arith) (omega (arith, fits64)) in
          by-number-again h memory num dist ms refl (omega (arith, d, fits64))
          (ap (mark h.marks) d ∙ marked-as (omega arith) ∙ a)

  module _ (is_new : (frame_at b c).accepted ≡ false) where
    from_low : lo ≤ c
    from_low = (frame-window b s c inside is_new).0

    below_end : c < lo + 64
    below_end = (frame-window b s c inside is_new).1

    dist-is : dist ≡ c - lo
    dist-is = away from_low below_end

    near : dist < 64
    near = omega (arith, dist-is, from_low, below_end)

    pub judges : by_number h memory num ms ≡ concluded h memory num (take_all (tally_of h memory) 0 ms)
    judges =
        by-number-new h memory num dist ms refl near (ap (mark h.marks) dist-is ∙ marked-as from_low ∙ is_new)

    -- the frame's mark set and the window moved
    marked : ℕ
    marked = with_mark 64 h.marks dist

    accepted' : ℕ → Bool
    accepted' i = (frame_at (enter_arrival b c) i).accepted

    marked-is : (i : ℕ) → mark marked i ≡ accepted' (lo + i)
    unfolding marked accepted' enter_arrival
    marked-is i = go (ℕ_discrete i dist)
      where
        go : Dec (i ≡ dist)
            → mark (with_mark 64 h.marks dist) i ≡ (get_or (change_at b.frames c mark_accepted)
            (lo + i) no_frame).accepted
        go (yes q) =
            let z : lo + i ≡ c = omega (arith, dist-is, from_low) in
            rw (z, q)
            (mark-same 64 h.marks dist near
            ∙ sym (ap (λ (x : FrameRecord). x.accepted) (get_or-change-same b.frames c mark_accepted inside)))
        go (no n) =
            mark-other 64 h.marks dist i n ∙ r.marks_are i
            ∙ sym (ap (λ (x : FrameRecord). x.accepted)
            (get_or-change-other b.frames c (lo + i) mark_accepted (λ q. n (omega (arith, dist-is, from_low)))))

    length-same : length (enter_arrival b c).frames ≡ length b.frames
    unfolding enter_arrival
    length-same = length-change b.frames c mark_accepted

    below' : (i : ℕ) → i < lo → accepted' i ≡ true
    unfolding accepted' enter_arrival
    below' i l =
        ap (λ (x : FrameRecord). x.accepted) (get_or-change-other b.frames c i mark_accepted
        (λ q. omega (arith, from_low)))
        ∙ leading-holds (λ k. (frame_at b k).accepted) (length b.frames) i l

    beyond' : (i : ℕ) → length b.frames ≤ i → accepted' i ≡ false
    unfolding accepted' enter_arrival
    beyond' i l =
        ap (λ (x : FrameRecord). x.accepted)
        (get_or-change-other b.frames c i mark_accepted (λ q. omega arith) ∙ get_or-eq_default b.frames no_frame l)

    low-le : lo ≤ length b.frames
    low-le = leading_le (λ k. (frame_at b k).accepted) (length b.frames)

    low-moves : lowest_not_accepted (enter_arrival b c) ≡ lo + trailing_ones 64 marked
    unfolding accepted'
    low-moves =
        ap (leading accepted') length-same
        ∙ window-moves accepted' (length b.frames) lo 64 marked low-le fits64 below' marked-is beyond'

    pub host-accepting : (t : Tally) → TransactionsFor t.transactions b.transactions
        (accepted_messages (enter_arrival b c))
        → HostFor (after_frame h num t.transactions) (enter_arrival b c)
    unfolding after_frame advance marked accepted'
    host-accepting t lf = record {
      next_is =
          ap (λ (n : ℕ). (n + trailing_ones 64 marked) % frame_space) r.next_is
          ∙ mod-add-mod lo frame_space (trailing_ones 64 marked) ∙ ap (λ (n : ℕ). n % frame_space) (sym low-moves);
      marks_are = λ i.
          window-marks accepted' (length b.frames) lo 64 marked low-le fits64 below' marked-is beyond' i
          ∙ ap (λ (n : ℕ). accepted' (leading accepted' n + i)) (sym length-same);
      transactions_for =
          subst (λ (ds : List Transaction). TransactionsFor t.transactions ds (accepted_messages (enter_arrival b c)))
          (sym (transactions-arriving b c)) lf;
    }

-- ---- the first arrival, whole

size-perform : (m : List ℕ) (ws : List Write) → length (perform m ws) ≡ length m
unfolding perform
size-perform m [] = refl
size-perform m (w ∷ ws) = size-perform (sets m w.at w.bytes) ws ∙ length-sets m w.at w.bytes

pub size-memory : (b : Book) → length (book_memory b) ≡ length b.start
unfolding book_memory
size-memory b = size-perform b.start (book_writes 0 b.transactions (accepted_messages b))

pub get_or-mem : {A : Type 0} (xs : List A) (i : ℕ) (d : A) → i < length xs → Memᴰ (get_or xs i d) xs
get_or-mem [] i d h = absurd (not-suc-le-zero h)
get_or-mem (x ∷ xs) zero d h = mathlib.Core.List.Memᴰ.head refl
get_or-mem (x ∷ xs) (suc i) d h = mathlib.Core.List.Memᴰ.tail (get_or-mem xs i d (omega arith))

pub added-arriving : (b : Book) (c : ℕ) → added_messages (enter_arrival b c) ≡ added_messages b
unfolding enter_arrival
added-arriving b c =
    ap (λ (l : List MessageRecord). l ++ b.building)
    (all_same b.frames (change_at b.frames c mark_accepted) (same-changed b.frames c))

pub start-arriving : (b : Book) (c : ℕ) → (enter_arrival b c).start ≡ b.start
unfolding enter_arrival
start-arriving b c = refl

module _ (h : Pair) (b : Book) (r : HostFor h b) (s : Sound b) (c : ℕ) (kept : WritesAllowed (enter_arrival b c))
    (counts : (i : ℕ) → i < length b.transactions → (transaction_at b i).count < frame_space)
    (inside : c < length b.frames) (in_time : lowest_not_accepted b ≤ c + 32768)
    (is_new : (frame_at b c).accepted ≡ false) where
  abbrev es : List MessageRecord
  es = (frame_at b c).messages

  abbrev pre : List MessageRecord
  pre = sealed_before b s c inside is_new

  abbrev post : List MessageRecord
  post = sealed_after b s c inside is_new

  abbrev ms : List Message
  ms = map (wired b.transactions) es

  all-inside : Inside b.transactions (length (book_memory b)) es
  all-inside = go es (λ e m. frame-known b s c inside is_new e m)
    where
      go : (xs : List MessageRecord) → ((e : MessageRecord) → Memᴰ e xs → Memᴰ e (added_messages b))
          → Inside b.transactions (length (book_memory b)) xs
      go [] m = tt
      go (e ∷ xs) m =
          let me : Memᴰ e (added_messages b) = m e (mathlib.Core.List.Memᴰ.head refl) in
          let st : length (enter_arrival b c).start ≡ length b.start = ap length (start-arriving b c) in
          let a : data_end e ≤ length (enter_arrival b c).start =
          kept.inside.data_inside e (subst (Memᴰ e) (sym (added-arriving b c)) me) in
          let d : completion_end (transaction_at b e.trans) ≤ length (enter_arrival b c).start =
          kept.inside.completion_inside (transaction_at b e.trans)
          (subst (Memᴰ (transaction_at b e.trans)) (sym (transactions-arriving b c))
          (get_or-mem b.transactions e.trans no_transaction (s.known e me))) in (
            record {
              bare = s.bare e me;
              data_in = omega (arith, size-memory b);
              completion_in = omega (arith, size-memory b);
              count_fits = counts e.trans (s.known e me);
            },
            go xs (λ x k. m x (mathlib.Core.List.Memᴰ.tail k)),
          )

  pub first_taken : FrameTaken b.transactions pre es post 0 (tally_of h (book_memory b))
  unfolding complete
  first_taken =
      frame-taken b.transactions pre es post 0 (tally_of h (book_memory b))
      (subst (TransactionsFor (transactions_of h) b.transactions) eb r.transactions_for)
      (frame-awaited b s c inside is_new) all-inside
      (subst (λ (xs : List MessageRecord). length b.transactions ≤ low b.transactions xs + 32) eb fit)
      (λ i l. sym (ap (count i) ea)
      ∙ none-beyond (length b.transactions) (accepted_messages (enter_arrival b c)) accepted-known i l)
    where
      eb : accepted_messages b ≡ pre ++ post
      eb = messages-before b s c inside is_new

      ea : accepted_messages (enter_arrival b c) ≡ pre ++ (es ++ post)
      ea = messages-after b s c inside is_new

      fit : length b.transactions ≤ low b.transactions (accepted_messages b) + 32
      fit =
          let a : low_incomplete b ≡ low b.transactions (accepted_messages b) = refl in
          let k : low_unfinished b ≤ low_incomplete b = low-le-low b s in
          let f : length b.transactions ≤ low_unfinished b + 32 = s.trans_fit in
          omega arith

      accepted-known : (e : MessageRecord) → Memᴰ e (accepted_messages (enter_arrival b c))
          → e.trans < length b.transactions
      accepted-known e m =
          s.known e
          (subst (Memᴰ e) (added-arriving b c)
          (mathlib.Core.List.Memᴰ.append_left (enter_arrival b c).building (messages_in-some is_accepted (enter_arrival b c).frames e m)))

  abbrev frames' : List FrameRecord
  frames' = change_at b.frames c mark_accepted

  -- the run of the host after the frame took effect
  run-after : (x : Pair) → HostFor x (enter_arrival b c) → run_from x (c % frame_space) ≡ accepted_run frames' c
  unfolding enter_arrival
  run-after x x_for =
      let l : length frames' ≡ length b.frames = length-change b.frames c mark_accepted in
      let m : lowest_not_accepted (enter_arrival b c) ≤ length frames' =
      leading_le (λ k. (get_or frames' k no_frame).accepted) (length frames') in
      let w : lowest_not_accepted b ≤ c = (frame-window b s c inside is_new).0 in
      let f : length b.frames ≤ lowest_not_accepted b + 64 = omega (arith, s.frames_fit, released-le-lowest b s) in
      run-agrees x (enter_arrival b c) x_for (sound-arriving b s c inside) c (omega arith) (omega arith)

  abbrev answer-with : ℕ → ℕ → ℕ → ℕ → Answer
  answer-with messages bytes completed run =
      Accepted (record { 0 = c % frame_space })
      (record { messages = messages; bytes = bytes; completed = completed }) run

  same : (x : Pair) {m m' : List ℕ} {k k' y y' d d' n n' : ℕ} → m ≡ m' → k ≡ k' → y ≡ y' → d ≡ d' → n ≡ n'
      → ◌≡◌ {A = Received} (record { pair = x; memory = m; answer = answer-with k y d n })
      (record { pair = x; memory = m'; answer = answer-with k' y' d' n' })
  same x p q u v w = λ i. record { pair = x; memory = p i; answer = answer-with (q i) (u i) (v i) (w i) }

  -- the answer, memory, and state
  pub record FirstAnswer : Type 0 where
    pub next : Pair
    pub next_for : HostFor next (enter_arrival b c)
    pub same_own : next.own ≡ h.own
    pub same_peer : next.peer ≡ h.peer
    pub answered : by_number h (book_memory b) (c % frame_space) ms
        ≡ record {
          pair = next;
          memory = book_memory (enter_arrival b c);
          answer =
              answer-with (length es) (data_bytes es) (completed_all b.transactions pre es post)
              (accepted_run frames' c);
        }

  pub answers-first : FirstAnswer
  unfolding accepting after_frame
  answers-first = go first_taken
    where
      next : FrameTaken b.transactions pre es post 0 (tally_of h (book_memory b)) → Pair
      next f = after_frame h (c % frame_space) f.end.transactions

      next_for : (f : FrameTaken b.transactions pre es post 0 (tally_of h (book_memory b)))
          → HostFor (next f) (enter_arrival b c)
      next_for f =
          host-accepting h b r s c inside in_time (book_memory b) ms is_new f.end
          (subst (TransactionsFor f.end.transactions b.transactions)
          (sym (messages-after b s c inside is_new))
          f.transactions_for)

      go : FrameTaken b.transactions pre es post 0 (tally_of h (book_memory b)) → FirstAnswer
      go f = record {
        next = next f;
        next_for = next_for f;
        same_own = refl;
        same_peer = refl;
        answered =
            judges h b r s c inside in_time (book_memory b) ms is_new
            ∙ ap (concluded h (book_memory b) (c % frame_space)) f.is_fine
            ∙ same (next f)
            (f.memory_is ∙ sym (memory-arriving b s c inside is_new kept.apart))
            (f.messages_are ∙ zero-add _) (f.bytes_are ∙ zero-add _) (f.complete_are ∙ zero-add _)
            (run-after (next f) (next_for f));
      }
