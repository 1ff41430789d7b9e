-- The premises on the book after a list hold of the book at every time before.
-- Assumes nothing.
use Prim.Native.Nat.{ℕ, zero, suc, ◌≤◌, ◌<◌}
use native.Mathlib.Omega.{arith}
use mathlib.Core.Path.{◌≡◌, refl, sym, ◌∙◌, subst}
use mathlib.Core.Bool.{Bool, true, false, cond}
use mathlib.Core.List.Memᴰ
use mathlib.Core.List.Sublistᴰ
use mathlib.Core.List.{
  List,
  [],
  ◌∷◌,
  ◌++◌,
  append_assoc,
  append-nil,
  Memᴰ,
  Sublistᴰ,
}
use mathlib.Core.Option.{Option, none, some}
use lib.ListN.{length, length-append, get_or-append}
use Rattle.delivery.specs.System.{
  open_call,
  add_call,
  seal_call,
  read_call,
  show_call,
  choose_call,
  Event,
  calls,
  receives,
  Observation,
}
use Rattle.delivery.specs.Book.{
  new_transaction,
  new_frame,
  Book,
  MessageRecord,
  Transaction,
  FrameRecord,
  HandOut,
  nothing_handed,
  lent_ack,
  frame_copy,
  no_transaction,
  messages_in,
  is_accepted,
  any_frame,
  AckRange,
  covers,
  change_at,
  mark_where,
  mark_acknowledged,
  mark_accepted,
  writes_of,
  transaction_at,
  accepted_messages,
  added_messages,
  enter_opening,
  enter_message,
  enter_sealing,
  enter_ack,
  enter_hand_out,
  enter_arrival,
  enter_no_effect,
  enter_delivery,
  enter,
  book_step,
  book_from,
}
use Rattle.delivery.specs.Demand3.{WritesAllowed, NoByteTwice, AllApart}
use Rattle.delivery.proofs.Book.Counts.{
  messages_in-append,
  where-keeps,
  same-changed,
  same-marked,
  messages_in-whole,
  all_same,
}
use Rattle.delivery.proofs.Book.Steps.{added-seal}
use Rattle.delivery.proofs.Book.Arrive.{once-sub, all-sub, sub-append, sub-writes_of}

-- enough: the same start, the earlier transactions among the later, the earlier messages among the later
allowed-from : (b b' : Book) → b'.start ≡ b.start
    → ((e : MessageRecord) → Memᴰ e (added_messages b) → Memᴰ e (added_messages b'))
    → ((d : Transaction) → Memᴰ d b.transactions → Memᴰ d b'.transactions)
    → length b.transactions ≤ length b'.transactions
    → ((i : ℕ) → i < length b.transactions → transaction_at b' i ≡ transaction_at b i)
    → Sublistᴰ (accepted_messages b) (accepted_messages b') → WritesAllowed b' → WritesAllowed b
allowed-from b b' st es ds more same sub k = record {
  inside = record {
    data_inside = λ e m. rw st at (k.inside.data_inside e (es e m));
    completion_inside = λ d m. rw st at (k.inside.completion_inside d (ds d m));
  };
  apart = record {
    once_each = λ i h.
        once-sub (sub-writes_of (transaction_at b i) i sub)
        (subst (λ (d : Transaction). NoByteTwice (writes_of d i (accepted_messages b'))) (same i h)
        (k.apart.once_each i (omega arith)));
    apart_together = λ i j l h m.
        all-sub (sub-writes_of (transaction_at b i) i sub) (sub-writes_of (transaction_at b j) j sub)
        (subst (λ (d : Transaction). AllApart (writes_of (transaction_at b i) i (accepted_messages b'))
        (writes_of d j (accepted_messages b'))) (same j h)
        (subst (λ (d : Transaction). AllApart (writes_of d i (accepted_messages b'))
        (writes_of (transaction_at b' j) j (accepted_messages b'))) (same i (omega arith))
        (k.apart.apart_together i j l (omega arith)
        (subst (λ (d : Transaction). Memᴰ i d.unfinished_at_opening) (sym (same j h)) m))));
  };
}

sub-marked : (ss : List FrameRecord) (c : ℕ)
    → Sublistᴰ (messages_in is_accepted ss) (messages_in is_accepted (change_at ss c mark_accepted))
unfolding messages_in change_at
sub-marked [] c = Sublistᴰ.slnil
sub-marked (s ∷ ss) zero = sub-append (go s.accepted) (Sublistᴰ.refl (messages_in is_accepted ss))
  where
    go : (b : Bool) → Sublistᴰ (cond b s.messages []) s.messages
    go true = Sublistᴰ.refl s.messages
    go false = Sublistᴰ.nil-sublist s.messages
sub-marked (s ∷ ss) (suc c) = sub-append (Sublistᴰ.refl (cond s.accepted s.messages [])) (sub-marked ss c)

module _ (b : Book) where
  allowed-opening : (n at val : ℕ) → WritesAllowed (enter_opening b n at val) → WritesAllowed b
  unfolding enter_opening
  allowed-opening n at val k =
      let new = new_transaction b n at val in
      allowed-from b (enter_opening b n at val) refl (λ e m. m) (λ d m. Memᴰ.append_left (new ∷ []) m)
      (omega (arith, length-append b.transactions (new ∷ [])))
      (λ i h. get_or-append b.transactions (new ∷ []) no_transaction i h) (Sublistᴰ.refl (accepted_messages b)) k

  allowed-adding : (n at : ℕ) (bytes : List ℕ) → WritesAllowed (enter_message b n at bytes) → WritesAllowed b
  unfolding enter_message
  allowed-adding n at bytes k =
      allowed-from b (enter_message b n at bytes) refl (λ e m. subst (Memᴰ e)
      (append_assoc (messages_in any_frame b.frames) b.building _) (Memᴰ.append_left _ m)) (λ d m. m) (omega arith)
      (λ i h. refl) (Sublistᴰ.refl (accepted_messages b)) k

  allowed-sealing : WritesAllowed (enter_sealing b) → WritesAllowed b
  unfolding enter_sealing messages_in
  allowed-sealing k =
      let new = new_frame b in
      let acc : accepted_messages (enter_sealing b) ≡ accepted_messages b =
      messages_in-append is_accepted b.frames (new ∷ [])
      ∙ append-nil (messages_in is_accepted b.frames) in
      allowed-from b (enter_sealing b) refl (λ e m. subst (Memᴰ e) (sym (added-seal b)) m) (λ d m. m) (omega arith)
      (λ i h. refl)
      (subst (Sublistᴰ (accepted_messages b)) (sym acc) (Sublistᴰ.refl (accepted_messages b))) k

  allowed-acking : (o : Option AckRange) → WritesAllowed (enter_ack b o) → WritesAllowed b
  unfolding enter_ack
  allowed-acking none k = k
  allowed-acking (some r) k =
      let marked = mark_where (covers r) mark_acknowledged b.frames in
      let same = same-marked (covers r) b.frames in
      let acc : messages_in is_accepted marked ≡ messages_in is_accepted b.frames =
      messages_in-whole is_accepted b.frames marked same
      (where-keeps (λ y. y.accepted) mark_acknowledged (λ y. refl) (covers r) b.frames) in
      allowed-from b (enter_ack b (some r)) refl
      (λ e m. subst (λ (l : List MessageRecord). Memᴰ e (l ++ b.building))
      (sym (all_same b.frames marked same)) m)
      (λ d m. m) (omega arith) (λ i h. refl)
      (subst (Sublistᴰ (accepted_messages b)) (sym acc) (Sublistᴰ.refl (accepted_messages b))) k

  allowed-handing : (x : HandOut) → WritesAllowed (enter_hand_out b x) → WritesAllowed b
  unfolding enter_hand_out
  allowed-handing x k =
      allowed-from b (enter_hand_out b x) refl (λ e m. m) (λ d m. m) (omega arith) (λ i h. refl)
      (Sublistᴰ.refl (accepted_messages b)) k

  allowed-ignoring : WritesAllowed (enter_no_effect b) → WritesAllowed b
  unfolding enter_no_effect
  allowed-ignoring k = allowed-from b (enter_no_effect b) refl (λ e m. m) (λ d m. m) (omega arith) (λ i h. refl)
      (Sublistᴰ.refl (accepted_messages b)) k

  allowed-arriving : (c : ℕ) → WritesAllowed (enter_arrival b c) → WritesAllowed b
  unfolding enter_arrival
  allowed-arriving c k =
      allowed-from b (enter_arrival b c) refl
      (λ e m. subst (λ (l : List MessageRecord). Memᴰ e (l ++ b.building))
      (sym (all_same b.frames (change_at b.frames c mark_accepted) (same-changed b.frames c))) m) (λ d m. m)
      (omega arith) (λ i h. refl) (sub-marked b.frames c) k

  allowed-reaching : (o : Option HandOut) → WritesAllowed (enter_delivery b o) → WritesAllowed b
  unfolding enter_delivery
  allowed-reaching none k = allowed-ignoring k
  allowed-reaching (some nothing_handed) k = allowed-ignoring k
  allowed-reaching (some lent_ack) k = allowed-ignoring k
  allowed-reaching (some (frame_copy c)) k = allowed-arriving c k

  pub allowed-enter : (x : Event) (was_refused : Bool) (handed_out : List ℕ)
      → WritesAllowed (enter b x was_refused handed_out)
      → WritesAllowed b
  unfolding enter
  allowed-enter (calls (open_call n at val)) true handed_out k = k
  allowed-enter (calls (open_call n at val)) false handed_out k = allowed-opening n at val k
  allowed-enter (calls (add_call n at bytes)) true handed_out k = k
  allowed-enter (calls (add_call n at bytes)) false handed_out k = allowed-adding n at bytes k
  allowed-enter (calls seal_call) true handed_out k = k
  allowed-enter (calls seal_call) false handed_out k = allowed-sealing k
  allowed-enter (calls (read_call j)) true handed_out k = k
  allowed-enter (calls (read_call j)) false handed_out k = allowed-acking _ k
  allowed-enter (calls (show_call n)) was_refused handed_out k = allowed-handing _ k
  allowed-enter (calls (choose_call ack)) was_refused handed_out k = allowed-handing _ k
  allowed-enter (receives j) was_refused handed_out k = allowed-reaching _ k

pub allowed-before : (b : Book) (ss : List Observation) → WritesAllowed (book_from b ss) → WritesAllowed b
unfolding book_from
allowed-before b [] k = k
allowed-before b (s ∷ ss) k = allowed-enter b s.event s.was_refused s.handed_out
    (allowed-before (book_step b s) ss k)
