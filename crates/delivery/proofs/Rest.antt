-- What is not the card: the host, memory, what was handed out and called for, and the answers, against the book; and
-- that a call on the card alone keeps them in agreement. Assumes nothing.
use Prim.Native.Nat.{ℕ, zero, suc, ◌+◌, ◌-◌, ◌%◌, ◌≤◌, ◌<◌}
use native.Mathlib.Decide.{dec_lt}
use native.Mathlib.Omega.{arith}
use mathlib.Core.Path.{◌≡◌, refl, sym, ap, ◌∙◌, subst}
use mathlib.Core.Logic.{◌⊎◌, inl, inr}
use mathlib.Core.Bool.{false, cond}
use mathlib.Core.List.Memᴰ
use mathlib.Core.List.{
  List,
  [],
  ◌∷◌,
  ◌++◌,
  map,
  append_assoc,
  append-nil,
  Memᴰ,
}
use mathlib.Core.Option.{some}
use lib.ListN.{length, get_or, length-append, get_or-append, get_or-eq_default}
use lib.Seq.{get_or-append-add}
use Rattle.seq.specs.Ring.{frame_space, trans_space}
use Rattle.bitmap.specs.Marks.{leading}
use Rattle.bitmap.proofs.Marks.{leading_le, leading-holds, leading-stops, leading-is, leading-same}
use Rattle.wire.specs.Writing.{frame_of, ack_frame}
use Rattle.wire.proofs.Format.{needed-pos}
use Rattle.host.specs.Transactions.{Transactions}
use Rattle.host.specs.declared.Pair.{Pair}
use Rattle.host.specs.declared.Answer.{Answer}
use Rattle.host.specs.Host.{transactions_of}
use Rattle.delivery.specs.Book.{
  new_transaction,
  new_frame,
  MessageRecord,
  Transaction,
  no_transaction,
  FrameRecord,
  no_frame,
  HandOut,
  nothing_handed,
  lent_ack,
  frame_copy,
  Book,
  messages_in,
  is_accepted,
  any_frame,
  frame_at,
  lowest_not_accepted,
  accepted_messages,
  added_messages,
  of_transaction,
  all_messages_in,
  transaction_at,
  data_writes,
  writes_of,
  book_writes,
  perform,
  book_memory,
  data_bytes,
  complete_count,
  AckRange,
  covers,
  mark_where,
  mark_acknowledged,
  enter_opening,
  enter_sealing,
  enter_ack,
}
use Rattle.delivery.specs.Demand3.{seen_as, numbered_as, messages_sum, bytes_sum, complete_sum}
use Rattle.delivery.proofs.Book.Along.{Along, along-alike}
use Rattle.delivery.proofs.Book.Answers.{times_expected}
use Rattle.delivery.proofs.Book.Counts.{
  count,
  not_full,
  messages_in-append,
  none-beyond,
  where-keeps,
  SameMessages,
  same-marked,
  messages_in-whole,
  all_same,
}
use Rattle.delivery.proofs.Book.Sound.{Sound}
use Rattle.delivery.proofs.Book.Steps.{with_added, added-seal, at-end}
use Rattle.delivery.proofs.Book.Sums.{messages-of-frame}
use Rattle.delivery.proofs.Book.AllFinished.{messages_in-some}
use Rattle.delivery.proofs.Host.HostStep.{TransactionsFor, full_at, low, entry, full-beyond}
use Rattle.delivery.proofs.Host.HostArrive.{HostFor}
use Rattle.delivery.proofs.Card.CardFor.{framed, map-known}

-- The numbers of a transaction and of a message fit the fields of a header.
pub record TermsTyped (d : Transaction) : Type 0 where
  pub count_fits : d.count < frame_space
  pub address-fits : d.completion_address < trans_space
  pub value-fits : d.completion_value < trans_space

pub record MessageTyped (e : MessageRecord) : Type 0 where
  pub at-fits : e.data_address < trans_space
  pub bytes_fit : length e.bytes < frame_space

pub record BookTyped (b : Book) : Type 0 where
  pub terms_typed : (i : ℕ) → i < length b.transactions → TermsTyped (transaction_at b i)
  pub messages_typed : (e : MessageRecord) → Memᴰ e (added_messages b) → MessageTyped e

-- The sums of the accepted answers.
pub record SumsFor (answers : List Answer) (b : Book) : Type 0 where
  pub messages_are : messages_sum answers ≡ length (accepted_messages b)
  pub bytes_are : bytes_sum answers ≡ data_bytes (accepted_messages b)
  pub complete_are : complete_sum answers ≡ complete_count 0 b.transactions (accepted_messages b)

module _ (card_id host_id : ℕ) where
  -- the bytes of a sealed frame, by the book
  abbrev pub frame_bytes_of : Book → ℕ → List ℕ
  frame_bytes_of b c = framed card_id host_id b.transactions c (frame_at b c).messages

  -- What was handed out is what the book says.
  abbrev pub Copied : Book → List ℕ → HandOut → Type 0
  Copied b f nothing_handed = f ≡ []
  Copied b f lent_ack = length f ≡ 10
  Copied b f (frame_copy c) = (f ≡ frame_bytes_of b c) × (length f ≤ 9000)

  abbrev pub AllCopied : Book → List (List ℕ) → List HandOut → Type 0
  AllCopied b = Along (Copied b)

  -- What was called for is the acknowledgement of the frames that the book says.
  abbrev pub Acknowledges : List ℕ → AckRange → Type 0
  Acknowledges f r = f ≡ ack_frame card_id host_id 0 (r.first % frame_space) r.many

  -- What was handed out, called for and answered.
  pub record TrafficFor (hand_outs acks : List (List ℕ)) (answers : List Answer) (b : Book) : Type 0 where
    pub copies : AllCopied b hand_outs b.hand_outs
    pub acks_are : Along Acknowledges acks b.acks_due
    pub matching : map seen_as answers ≡ map numbered_as b.expected
    pub once : (c : ℕ) → times_expected c b.expected ≡ cond (frame_at b c).accepted 1 0

  pub record Rest (h : Pair) (memory : List ℕ) (hand_outs acks : List (List ℕ)) (answers : List Answer)
      (b : Book) : Type 0 where
    pub host_for : HostFor h b
    pub host_own : h.own ≡ host_id
    pub host_peer : h.peer ≡ card_id
    pub memory_is : memory ≡ book_memory b
    pub traffic : TrafficFor hand_outs acks answers b
    pub sums : SumsFor answers b
    pub typed : BookTyped b

  pub copies-alike : (b b' : Book) (fs : List (List ℕ)) (xs : List HandOut)
      → ((c : ℕ) → Memᴰ (frame_copy c) xs → frame_bytes_of b c ≡ frame_bytes_of b' c) → AllCopied b fs xs
      → AllCopied b' fs xs
  copies-alike b b' fs xs same = along-alike (Copied b) (Copied b') fs xs alike
    where
      alike : (x : HandOut) → Memᴰ x xs → (f : List ℕ) → Copied b f x → Copied b' f x
      alike nothing_handed m f a = a
      alike lent_ack m f a = a
      alike (frame_copy c) m f a = (a.0 ∙ same c m, a.1)

  -- What a change of the book that only the card notices leaves.
  pub record Unnoticed (b b' : Book) : Type 0 where
    pub accepted_same : (n : ℕ) → (frame_at b' n).accepted ≡ (frame_at b n).accepted
    pub low_same : lowest_not_accepted b' ≡ lowest_not_accepted b
    pub messages_same : accepted_messages b' ≡ accepted_messages b
    pub transactions_same : (l : Transactions) → TransactionsFor l b.transactions (accepted_messages b)
        → TransactionsFor l b'.transactions (accepted_messages b')
    pub memory_same : book_memory b' ≡ book_memory b
    pub complete_same : complete_count 0 b'.transactions (accepted_messages b')
        ≡ complete_count 0 b.transactions (accepted_messages b)
    pub bytes_same : (c : ℕ) → c < length b.frames → frame_bytes_of b c ≡ frame_bytes_of b' c
    pub hand_outs_same : b'.hand_outs ≡ b.hand_outs
    pub acks_due_same : b'.acks_due ≡ b.acks_due
    pub expected_same : b'.expected ≡ b.expected

  module _ (b b' : Book) (s : Sound b) (u : Unnoticed b b') (h : Pair) (memory : List ℕ) (hand_outs acks : List (List ℕ))
      (answers : List Answer) (r : Rest h memory hand_outs acks answers b) where
    pub rest-alike : BookTyped b' → Rest h memory hand_outs acks answers b'
    rest-alike typed = record {
      host_for = record {
        next_is = rw u.low_same r.host_for.next_is;
        marks_are = λ i.
            r.host_for.marks_are i ∙ sym (u.accepted_same (lowest_not_accepted b + i))
            ∙ ap (λ (n : ℕ). (frame_at b' (n + i)).accepted) (sym u.low_same);
        transactions_for = u.transactions_same (transactions_of h) r.host_for.transactions_for;
      };
      host_own = r.host_own;
      host_peer = r.host_peer;
      memory_is = r.memory_is ∙ sym u.memory_same;
      traffic = record {
        copies =
            subst (λ (l : List HandOut). AllCopied b' hand_outs l) (sym u.hand_outs_same)
            (copies-alike b b' hand_outs b.hand_outs (λ c m. u.bytes_same c (s.hand_outs_sealed c m))
            r.traffic.copies);
        acks_are = rw u.acks_due_same r.traffic.acks_are;
        matching = rw u.expected_same r.traffic.matching;
        once = λ c. rw (u.expected_same, u.accepted_same c) (r.traffic.once c);
      };
      sums = record {
        messages_are = r.sums.messages_are ∙ sym (ap length u.messages_same);
        bytes_are = r.sums.bytes_are ∙ sym (ap data_bytes u.messages_same);
        complete_are = r.sums.complete_are ∙ sym u.complete_same;
      };
      typed = typed;
    }

  -- where transactions and accepted messages are the same, so is what follows from them
  same-accepted : (b b' : Book) → b'.start ≡ b.start → b'.transactions ≡ b.transactions
      → (accepted : (n : ℕ) → (frame_at b' n).accepted ≡ (frame_at b n).accepted) → lowest_not_accepted b'
      ≡ lowest_not_accepted b
      → accepted_messages b' ≡ accepted_messages b → ((c : ℕ) → c < length b.frames → frame_bytes_of b c
      ≡ frame_bytes_of b' c)
      → b'.hand_outs ≡ b.hand_outs → b'.acks_due ≡ b.acks_due → b'.expected ≡ b.expected → Unnoticed b b'
  unfolding book_memory
  same-accepted b b' st tr ac lo me by ho du ex = record {
    accepted_same = ac;
    low_same = lo;
    messages_same = me;
    transactions_same = λ l f. rw (tr, me) f;
    memory_same = rw (st, tr, me);
    complete_same = rw (tr, me);
    bytes_same = by;
    hand_outs_same = ho;
    acks_due_same = du;
    expected_same = ex;
  }

  -- ---- opening: one transaction more, with no message

  module _ (b : Book) (s : Sound b) (terms address value : ℕ) where
    abbrev new : Transaction
    new = new_transaction b terms address value

    abbrev n : ℕ
    n = length b.transactions

    abbrev ds : List Transaction
    ds = b.transactions

    abbrev ds' : List Transaction
    ds' = b.transactions ++ (new ∷ [])

    abbrev es : List MessageRecord
    es = accepted_messages b

    beyond : (i : ℕ) → n ≤ i → count i es ≡ 0
    beyond i h =
        none-beyond n es (λ e m. s.known e (Memᴰ.append_left b.building
        (messages_in-some is_accepted b.frames e m))) i h

    full-same : (i : ℕ) → full_at ds' es i ≡ full_at ds es i
    full-same i = go (dec_lt i n)
      where
        go : Dec (i < n) → full_at ds' es i ≡ full_at ds es i
        go (yes h) = ap (λ (d : Transaction). all_messages_in d i es) (get_or-append ds (new ∷ []) no_transaction i h)
        go (no m) = full-beyond ds' es i (beyond i (omega arith)) ∙ sym (full-beyond ds es i (beyond i (omega arith)))

    low_same_lem : low ds' es ≡ low ds es
    low_same_lem =
        let l : low ds es ≤ n = leading_le (full_at ds es) n in
        leading-is (full_at ds' es) (length ds') (low ds es) (omega (arith, length-append ds (new ∷ [])))
        (λ i h. full-same i ∙ leading-holds (full_at ds es) n i h)
        (λ h. full-same (low ds es) ∙ stop (dec_lt (low ds es) n))
      where
        stop : Dec (low ds es < n) → full_at ds es (low ds es) ≡ false
        stop (yes h) = leading-stops (full_at ds es) n h
        stop (no m) = full-beyond ds es (low ds es) (beyond (low ds es) (omega arith))

    entry-same : (i : ℕ) → entry ds' es i ≡ entry ds es i
    unfolding entry
    entry-same i = go (dec_lt i n)
      where
        go : Dec (i < n) → entry ds' es i ≡ entry ds es i
        go (yes h) = rw (get_or-append ds (new ∷ []) no_transaction i h) refl
        go (no m) = rw (full-same i, beyond i (omega arith)) refl

    for-same : (l : Transactions) → TransactionsFor l ds es → TransactionsFor l ds' es
    for-same l r = record {
      lowest_is = rw low_same_lem r.lowest_is;
      closed_is = λ i.
          r.closed_is i ∙ sym (full-same (low ds es + i)) ∙ ap (λ (k : ℕ). full_at ds' es (k + i)) (sym low_same_lem);
      entries_are = λ i a u. r.entries_are i (rw low_same_lem at a) (rw low_same_lem at u) ∙ sym (entry-same i);
      entries = r.entries;
    }

    none_of : (xs : List MessageRecord) (i : ℕ) → count i xs ≡ 0 → of_transaction i xs ≡ []
    none_of xs i z = go (of_transaction i xs) z
      where
        go : (l : List MessageRecord) → length l ≡ 0 → l ≡ []
        go [] q = refl
        go (x ∷ xs) q = absurd (omega arith)

    not-complete : (k : ℕ) → n ≤ k → all_messages_in new k es ≡ false
    not-complete k h = not_full new k es (omega (arith, beyond k h, needed-pos terms))

    writes-new : (xs : List Transaction) (k : ℕ) → k + length xs ≡ n → book_writes k (xs ++ (new ∷ [])) es
        ≡ book_writes k xs es
    unfolding book_writes writes_of data_writes
    writes-new [] k q = rw (none_of es k (beyond k (omega arith)), not-complete k (omega arith)) refl
    writes-new (d ∷ xs) k q = ap (λ r. writes_of d k es ++ r) (writes-new xs (suc k) (omega arith))

    complete-new : (xs : List Transaction) (k : ℕ) → k + length xs ≡ n
        → complete_count k (xs ++ (new ∷ [])) es ≡ complete_count k xs es
    unfolding complete_count
    complete-new [] k q = rw (not-complete k (omega arith)) refl
    complete-new (d ∷ xs) k q = rw (complete-new xs (suc k) (omega arith)) refl

    opening-unnoticed : Unnoticed b (enter_opening b terms address value)
    unfolding enter_opening book_memory
    opening-unnoticed = record {
      accepted_same = λ k. refl;
      low_same = refl;
      messages_same = refl;
      transactions_same = for-same;
      memory_same = ap (perform b.start) (writes-new ds 0 (omega arith));
      complete_same = complete-new ds 0 (omega arith);
      bytes_same = λ c l. sym
          (ap (frame_of host_id card_id (c % frame_space))
          (map-known ds new (frame_at b c).messages
          (λ e m. s.known e (Memᴰ.append_left b.building (messages-of-frame b.frames c e m)))));
      hand_outs_same = refl;
      acks_due_same = refl;
      expected_same = refl;
    }

    pub rest-opening : (h : Pair) (memory : List ℕ) (hand_outs acks : List (List ℕ)) (answers : List Answer)
        → (terms < frame_space) × (address < trans_space) × (value < trans_space) → Rest h memory hand_outs acks answers b
        → Rest h memory hand_outs acks answers (enter_opening b terms address value)
    unfolding enter_opening
    rest-opening h memory hand_outs acks answers typed r =
        rest-alike b (enter_opening b terms address value) s opening-unnoticed h memory hand_outs acks answers r
        (record {
          terms_typed = λ i l. types i (at-end ds new no_transaction i l);
          messages_typed = r.typed.messages_typed;
        })
      where
        types : (i : ℕ) → (i < n) ⊎ ((i ≡ n) × (get_or ds' i no_transaction ≡ new)) → TermsTyped (get_or ds' i no_transaction)
        types i (inl p) = rw (get_or-append ds (new ∷ []) no_transaction i p) (r.typed.terms_typed i p)
        types i (inr q) =
            rw q.1 (record { count_fits = typed.0; address-fits = typed.1; value-fits = typed.2 })

  -- ---- adding

  pub rest-adding : (b : Book) → Sound b → (e : MessageRecord) → MessageTyped e → (h : Pair) (memory : List ℕ)
      (hand_outs acks : List (List ℕ)) (answers : List Answer) → Rest h memory hand_outs acks answers b
      → Rest h memory hand_outs acks answers (with_added b e)
  rest-adding b s e typed h memory hand_outs acks answers r =
      rest-alike b (with_added b e) s
      (same-accepted b (with_added b e) refl refl (λ n. refl) refl refl (λ c l. refl) refl refl refl)
      h memory hand_outs acks answers r
      (record {
        terms_typed = r.typed.terms_typed;
        messages_typed = λ x m.
            go x (Memᴰ.append_cases (added_messages b)
            (subst (Memᴰ x) (sym (append_assoc (messages_in any_frame b.frames) b.building (e ∷ []))) m));
      })
    where
      go : (x : MessageRecord) → Memᴰ x (added_messages b) ⊎ Memᴰ x (e ∷ []) → MessageTyped x
      go x (inl m) = r.typed.messages_typed x m
      go x (inr m) = subst MessageTyped (sym (Memᴰ.eq_of_singleton m)) typed

  -- ---- sealing

  module _ (b : Book) (s : Sound b) (some : 0 < length b.building) where
    abbrev last : FrameRecord
    last = new_frame b

    abbrev frames' : List FrameRecord
    frames' = b.frames ++ (last ∷ [])

    accepted-same : (k : ℕ) → (frame_at (enter_sealing b) k).accepted ≡ (frame_at b k).accepted
    unfolding enter_sealing
    accepted-same k = go (dec_lt k (length b.frames))
      where
        tail : (j : ℕ) → (get_or (last ∷ []) j no_frame).accepted ≡ false
        tail zero = refl
        tail (suc j) = refl

        go : Dec (k < length b.frames) → (get_or frames' k no_frame).accepted ≡ (frame_at b k).accepted
        go (yes h) = ap (λ (y : FrameRecord). y.accepted) (get_or-append b.frames (last ∷ []) no_frame k h)
        go (no m) =
            let z : length b.frames + (k - length b.frames) ≡ k = omega arith in
            subst (λ (i : ℕ). (get_or frames' i no_frame).accepted ≡ false) z
            (ap (λ (y : FrameRecord). y.accepted) (get_or-append-add b.frames (last ∷ [])
            (k - length b.frames) no_frame)
            ∙ tail (k - length b.frames))
            ∙ sym (ap (λ (y : FrameRecord). y.accepted) (get_or-eq_default b.frames no_frame (omega arith)))

    lowest-seal : lowest_not_accepted (enter_sealing b) ≡ lowest_not_accepted b
    unfolding enter_sealing
    lowest-seal =
        let l : lowest_not_accepted b ≤ length b.frames =
        leading_le (λ k. (frame_at b k).accepted) (length b.frames) in
        leading-is (λ k. (frame_at (enter_sealing b) k).accepted) (length frames') (lowest_not_accepted b)
        (omega (arith, length-append b.frames (last ∷ [])))
        (λ i h. accepted-same i ∙ leading-holds (λ k. (frame_at b k).accepted) (length b.frames) i h)
        (λ h. accepted-same (lowest_not_accepted b) ∙ stop (dec_lt (lowest_not_accepted b) (length b.frames)))
      where
        stop : Dec (lowest_not_accepted b < length b.frames) → (frame_at b (lowest_not_accepted b)).accepted ≡ false
        stop (yes h) = leading-stops (λ k. (frame_at b k).accepted) (length b.frames) h
        stop (no m) = ap (λ (y : FrameRecord). y.accepted) (get_or-eq_default b.frames no_frame (omega arith))

    messages-seal : accepted_messages (enter_sealing b) ≡ accepted_messages b
    unfolding enter_sealing messages_in
    messages-seal = messages_in-append is_accepted b.frames (last ∷ [])
        ∙ append-nil (messages_in is_accepted b.frames)

    sealing-unnoticed : Unnoticed b (enter_sealing b)
    unfolding enter_sealing
    sealing-unnoticed =
        same-accepted b (enter_sealing b) refl refl accepted-same lowest-seal messages-seal
        (λ c l. ap (λ (y : FrameRecord). framed card_id host_id b.transactions c y.messages)
        (sym (get_or-append b.frames (last ∷ []) no_frame c l)))
        refl refl refl

    pub rest-sealing : (h : Pair) (memory : List ℕ) (hand_outs acks : List (List ℕ)) (answers : List Answer)
        → Rest h memory hand_outs acks answers b → Rest h memory hand_outs acks answers (enter_sealing b)
    unfolding enter_sealing
    rest-sealing h memory hand_outs acks answers r =
        rest-alike b (enter_sealing b) s sealing-unnoticed h memory hand_outs acks answers r
        (record {
          terms_typed = r.typed.terms_typed;
          messages_typed = λ e m. r.typed.messages_typed e (subst (Memᴰ e) (added-seal b) m);
        })

  -- ---- reading an acknowledgement

  module _ (b : Book) (s : Sound b) (x : AckRange) where
    abbrev marked : List FrameRecord
    marked = mark_where (covers x) mark_acknowledged b.frames

    accepted-kept : (k : ℕ) → (get_or marked k no_frame).accepted ≡ (frame_at b k).accepted
    accepted-kept k = where-keeps (λ y. y.accepted) mark_acknowledged (λ y. refl) (covers x) b.frames k

    same : SameMessages b.frames marked
    same = same-marked (covers x) b.frames

    acking-unnoticed : Unnoticed b (enter_ack b (some x))
    unfolding enter_ack
    acking-unnoticed =
        same-accepted b (enter_ack b (some x)) refl refl accepted-kept
        (ap (leading (λ k. (frame_at (enter_ack b (some x)) k).accepted)) same.same_length
        ∙ leading-same (λ k. (frame_at (enter_ack b (some x)) k).accepted) (λ k. (frame_at b k).accepted)
        (length b.frames)
        (λ i h. accepted-kept i))
        (messages_in-whole is_accepted b.frames marked same accepted-kept)
        (λ c l. ap (framed card_id host_id b.transactions c) (sym (same.same_at c)))
        refl refl refl

    pub rest-acking : (h : Pair) (memory : List ℕ) (hand_outs acks : List (List ℕ)) (answers : List Answer)
        → Rest h memory hand_outs acks answers b → Rest h memory hand_outs acks answers (enter_ack b (some x))
    unfolding enter_ack
    rest-acking h memory hand_outs acks answers r =
        rest-alike b (enter_ack b (some x)) s acking-unnoticed h memory hand_outs acks answers r
        (record {
          terms_typed = r.typed.terms_typed;
          messages_typed = λ e m.
              r.typed.messages_typed e
              (subst (λ (l : List MessageRecord). Memᴰ e (l ++ b.building)) (all_same b.frames marked same) m);
        })
