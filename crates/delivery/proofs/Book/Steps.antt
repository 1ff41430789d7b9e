-- Each entry in the book keeps it sound, given that the card did not refuse the call.
-- Assumes nothing.
use Prim.Native.Nat.{ℕ, zero, suc, ◌+◌, ◌≤◌, ◌<◌}
use native.Mathlib.Nat.{not-suc-le-zero}
use native.Mathlib.Decide.{dec_lt, ℕ_discrete}
use native.Mathlib.Omega.{arith}
use mathlib.Core.Path.{◌≡◌, refl, sym, ap, ◌∙◌, subst}
use mathlib.Core.Logic.{◌⊎◌, inl, inr}
use mathlib.Core.Bool.{Bool, true, false, cond, ◌&&◌, ◌||◌, true≢false, and-eq-true_iff}
use mathlib.Core.List.Memᴰ
use mathlib.Core.List.{
  List,
  [],
  ◌∷◌,
  ◌++◌,
  append_assoc,
  append-nil,
  Memᴰ,
}
use mathlib.Core.Option.{some}
use lib.Dec.{ltb}
use lib.ListN.{length, get_or, take, length-append, get_or-append, get_or-eq_default}
use lib.Seq.{get_or-append_seam, take-append-le}
use Rattle.bitmap.proofs.Marks.{leading_le, leading-mono}
use Rattle.wire.specs.Format.{needed}
use Rattle.delivery.specs.Book.{
  new_frame,
  new_transaction,
  unfinished,
  with_frames,
  with_traffic,
  Book,
  MessageRecord,
  Transaction,
  FrameRecord,
  no_transaction,
  no_frame,
  HandOut,
  frame_copy,
  Expected,
  AckRange,
  covers,
  ack_of,
  messages_in,
  any_frame,
  of_transaction,
  all_messages_in,
  change_at,
  mark_where,
  mark_acknowledged,
  mark_accepted,
  unfinished_from,
  frame_at,
  transaction_at,
  released_count,
  released_messages,
  added_messages,
  finished,
  enter_opening,
  enter_sealing,
  enter_ack,
  enter_hand_out,
  enter_arrival,
  enter_no_effect,
  empty_book,
}
use Rattle.delivery.proofs.Book.Counts.{
  count,
  count-append,
  count-take,
  full-mono,
  none-beyond,
  messages_in-append,
  get_or-change-same,
  get_or-change-other,
  change-keeps,
  where-keeps,
  where-acknowledged,
  SameMessages,
  same-changed,
  same-marked,
  messages_in-same,
  all_same,
}
use Rattle.delivery.proofs.Book.Writes.{of_transaction-cons-same, of_transaction-cons-other}
use Rattle.delivery.proofs.Book.Sound.{DueFor, due-later, covers-first, due-run, Sound, low_unfinished}

pub at-end : {A : Type 0} (xs : List A) (x d : A) (i : ℕ) → i < length (xs ++ (x ∷ []))
    → (i < length xs) ⊎ ((i ≡ length xs) × (get_or (xs ++ (x ∷ [])) i d ≡ x))
at-end xs x d i h = go (dec_lt i (length xs))
  where
    go : Dec (i < length xs) → (i < length xs) ⊎ ((i ≡ length xs) × (get_or (xs ++ (x ∷ [])) i d ≡ x))
    go (yes p) = inl p
    go (no q) =
        let e : i ≡ length xs = omega (arith, length-append xs (x ∷ [])) in
        inr (e, rw e (get_or-append_seam xs x [] d))

-- A change of the book that keeps the transactions and the messages, and under which nothing finished becomes
-- unfinished.
finished-later : (b b' : Book) → ((i : ℕ) → transaction_at b' i ≡ transaction_at b i)
    → ((i : ℕ) → count i (released_messages b) ≤ count i (released_messages b'))
    → (i : ℕ) → finished b i ≡ true → finished b' i ≡ true
unfolding finished
finished-later b b' same more i f =
    rw (same i) (full-mono (transaction_at b i) i (released_messages b) (released_messages b') (more i) f)

unfinished-before : (b b' : Book) → ((i : ℕ) → finished b i ≡ true → finished b' i ≡ true) → (i : ℕ) → finished b' i
    ≡ false
    → finished b i ≡ false
unfinished-before b b' later i n = go (finished b i) refl
  where
    go : (x : Bool) → finished b i ≡ x → x ≡ false
    go true e = absurd (true≢false (sym (later i e) ∙ n))
    go false e = refl

pub accepted-sealed : (b : Book) (c : ℕ) → (frame_at b c).accepted ≡ true → c < length b.frames
accepted-sealed b c e = go (dec_lt c (length b.frames))
  where
    go : Dec (c < length b.frames) → c < length b.frames
    go (yes p) = p
    go (no q) = absurd (true≢false (sym e
        ∙ ap (λ (x : FrameRecord). x.accepted) (get_or-eq_default b.frames no_frame (omega arith))))

-- ---- sealing

pub added-seal : (b : Book) → added_messages (enter_sealing b) ≡ added_messages b
unfolding enter_sealing messages_in
added-seal b =
    append-nil (messages_in any_frame (b.frames ++ (new_frame b ∷ [])))
    ∙ messages_in-append any_frame b.frames (new_frame b ∷ [])
    ∙ ap (λ r. messages_in any_frame b.frames ++ r) (append-nil b.building)

module _ (b : Book) (s : Sound b) (some : 0 < length b.building) where
  abbrev new : FrameRecord
  new = new_frame b

  frames-seal : (c : ℕ) → (c < length b.frames) ⊎ (frame_at (enter_sealing b) c ≡ new)
      ⊎ (frame_at (enter_sealing b) c ≡ no_frame)
  unfolding enter_sealing
  frames-seal c = go (dec_lt c (length (b.frames ++ (new ∷ []))))
    where
      cases : (c < length b.frames) ⊎ ((c ≡ length b.frames) × (frame_at (enter_sealing b) c ≡ new))
          → (c < length b.frames) ⊎ (frame_at (enter_sealing b) c ≡ new) ⊎ (frame_at (enter_sealing b) c ≡ no_frame)
      cases (inl p) = inl p
      cases (inr q) = inr (inl q.1)

      go : Dec (c < length (b.frames ++ (new ∷ [])))
          → (c < length b.frames) ⊎ (frame_at (enter_sealing b) c ≡ new) ⊎ (frame_at (enter_sealing b) c ≡ no_frame)
      go (yes p) = cases (at-end b.frames new no_frame c p)
      go (no q) = inr (inr (get_or-eq_default (b.frames ++ (new ∷ [])) no_frame (omega arith)))

  frame-old : (c : ℕ) → c < length b.frames → frame_at (enter_sealing b) c ≡ frame_at b c
  unfolding enter_sealing
  frame-old c h = get_or-append b.frames (new ∷ []) no_frame c h

  released-seal : released_count b ≤ released_count (enter_sealing b)
  unfolding enter_sealing
  released-seal = leading-mono (λ c. (frame_at b c).acknowledged) (λ c. (frame_at (enter_sealing b) c).acknowledged)
      (length b.frames) (length (enter_sealing b).frames)
      (omega (arith, length-append b.frames (new_frame b ∷ [])))
      (λ c l e. ap (λ (x : FrameRecord). x.acknowledged) (frame-old c l) ∙ e)

  counts-seal : (i : ℕ) → count i (released_messages b) ≤ count i (released_messages (enter_sealing b))
  unfolding enter_sealing
  counts-seal i =
      let l : released_count b ≤ length b.frames = leading_le (λ c. (frame_at b c).acknowledged) (length b.frames) in
      let k : count i (messages_in any_frame (take (released_count b) (enter_sealing b).frames))
      ≤ count i (released_messages (enter_sealing b)) =
      count-take i (enter_sealing b).frames (released_count b) (released_count (enter_sealing b)) released-seal in
      rw (take-append-le (released_count b) b.frames (new_frame b ∷ []) l) at k

  later-seal : (i : ℕ) → finished b i ≡ true → finished (enter_sealing b) i ≡ true
  unfolding enter_sealing
  later-seal = finished-later b (enter_sealing b) (λ i. refl) counts-seal

  pub sound-sealing : Sound (enter_sealing b)
  unfolding enter_sealing
  sound-sealing = record {
    frames_fit =
        let k : length b.frames < released_count b + 64 = s.building_fits some in
        let r : released_count b ≤ released_count (enter_sealing b) = released-seal in
        omega (arith, length-append b.frames (new ∷ []));
    building_fits = λ h. absurd (not-suc-le-zero h);
    trans_fit =
        let k : length b.transactions ≤ low_unfinished b + 32 = s.trans_fit in
        let r : low_unfinished b ≤ low_unfinished (enter_sealing b) =
        leading-mono (finished b) (finished (enter_sealing b)) (length b.transactions) (length b.transactions)
        (omega arith)
        (λ i l. later-seal i) in
        omega arith;
    known = λ e m. s.known e (subst (Memᴰ e) (added-seal b) m);
    at_most = λ i l. rw (added-seal b) (s.at_most i l);
    bare = λ e m. s.bare e (subst (Memᴰ e) (added-seal b) m);
    filled = λ c l. filled-go c (at-end b.frames new no_frame c l);
    acknowledged_accepted = λ c e. acknowledged-go c e (frames-seal c);
    due_accepted = λ r m. due-later b.frames (enter_sealing b).frames accepted-old r (s.due_accepted r m);
    hand_outs_sealed = λ c m. let k : c < length b.frames = s.hand_outs_sealed c m in
        rw (length-append b.frames (new ∷ [])) (omega arith);
    unfinished_listed = λ i j l k n. s.unfinished_listed i j l k (unfinished-before b (enter_sealing b) later-seal i n);
  }
    where
      accepted-old : (c : ℕ) → (frame_at b c).accepted ≡ true → (frame_at (enter_sealing b) c).accepted ≡ true
      accepted-old c e = ap (λ (x : FrameRecord). x.accepted) (frame-old c (accepted-sealed b c e)) ∙ e

      filled-go : (c : ℕ) → (c < length b.frames) ⊎ ((c ≡ length b.frames) × (frame_at (enter_sealing b) c ≡ new))
          → 0 < length (frame_at (enter_sealing b) c).messages
      filled-go c (inl p) = subst (λ (x : FrameRecord). 0 < length x.messages) (sym (frame-old c p)) (s.filled c p)
      filled-go c (inr q) = subst (λ (x : FrameRecord). 0 < length x.messages) (sym q.1) some

      acknowledged-go : (c : ℕ) → (frame_at (enter_sealing b) c).acknowledged ≡ true
          → (c < length b.frames) ⊎ (frame_at (enter_sealing b) c ≡ new) ⊎ (frame_at (enter_sealing b) c ≡ no_frame)
          → (frame_at (enter_sealing b) c).accepted ≡ true
      acknowledged-go c e (inl p) = ap (λ (x : FrameRecord). x.accepted) (frame-old c p)
          ∙ s.acknowledged_accepted c (sym (ap (λ (x : FrameRecord). x.acknowledged) (frame-old c p)) ∙ e)
      acknowledged-go c e (inr (inl q)) = absurd (true≢false (sym e ∙ ap (λ (x : FrameRecord). x.acknowledged) q))
      acknowledged-go c e (inr (inr q)) = absurd (true≢false (sym e ∙ ap (λ (x : FrameRecord). x.acknowledged) q))

-- ---- adding

abbrev pub with_added : Book → MessageRecord → Book
with_added b e = with_frames b b.frames (b.building ++ (e ∷ []))

module _ (b : Book) (s : Sound b) (e : MessageRecord) (is_open : e.trans < length b.transactions)
    (room : count e.trans (added_messages b) < needed (transaction_at b e.trans).count)
    (is_bare : (transaction_at b e.trans).count ≡ 0 → e.bytes ≡ [])
    (slot : length b.frames < released_count b + 64) where
  pub added-add : added_messages (with_added b e) ≡ added_messages b ++ (e ∷ [])
  added-add = sym (append_assoc (messages_in any_frame b.frames) b.building (e ∷ []))

  pub sound-adding : Sound (with_added b e)
  unfolding of_transaction finished
  sound-adding = record {
    frames_fit = s.frames_fit;
    building_fits = λ h. slot;
    trans_fit = s.trans_fit;
    known = λ x m. known-go x (Memᴰ.append_cases (added_messages b) (subst (Memᴰ x) added-add m));
    at_most = λ i l. rw added-add (count-go i l (ℕ_discrete e.trans i));
    bare = λ x m. bare-go x (Memᴰ.append_cases (added_messages b) (subst (Memᴰ x) added-add m));
    filled = s.filled;
    acknowledged_accepted = s.acknowledged_accepted;
    due_accepted = s.due_accepted;
    hand_outs_sealed = s.hand_outs_sealed;
    unfinished_listed = s.unfinished_listed;
  }
    where
      known-go : (x : MessageRecord) → Memᴰ x (added_messages b) ⊎ Memᴰ x (e ∷ [])
          → x.trans < length b.transactions
      known-go x (inl m) = s.known x m
      known-go x (inr m) = subst (λ (y : MessageRecord). y.trans < length b.transactions)
          (sym (Memᴰ.eq_of_singleton m)) is_open

      count-go : (i : ℕ) → i < length b.transactions → Dec (e.trans ≡ i)
          → count i (added_messages b ++ (e ∷ [])) ≤ needed (transaction_at b i).count
      count-go i l (yes q) =
          let o : of_transaction i (e ∷ []) ≡ e ∷ [] = of_transaction-cons-same i e [] q in
          let k : count i (added_messages b) < needed (transaction_at b i).count =
          subst (λ (t : ℕ). count t (added_messages b) < needed (transaction_at b t).count) q room in
          omega (arith, count-append i (added_messages b) (e ∷ []), ap length o)
      count-go i l (no q) =
          let k : count i (added_messages b) ≤ needed (transaction_at b i).count = s.at_most i l in
          omega (arith, count-append i (added_messages b) (e ∷ []), ap length (of_transaction-cons-other i e [] q))

      bare-go : (x : MessageRecord) → Memᴰ x (added_messages b) ⊎ Memᴰ x (e ∷ [])
          → (transaction_at b x.trans).count ≡ 0
          → x.bytes ≡ []
      bare-go x (inl m) = s.bare x m
      bare-go x (inr m) = subst (λ (y : MessageRecord). (transaction_at b y.trans).count ≡ 0 → y.bytes ≡ [])
          (sym (Memᴰ.eq_of_singleton m)) is_bare

-- ---- opening

pub unfinished-listed : (ds : List Transaction) (k i : ℕ) (es : List MessageRecord) → i < length ds
    → all_messages_in (get_or ds i no_transaction) (k + i) es ≡ false → Memᴰ (k + i) (unfinished_from k ds es)
unfolding unfinished_from
unfinished-listed [] k i es h n = absurd (not-suc-le-zero h)
unfinished-listed (d ∷ ds) k zero es h n =
    let q : k + 0 ≡ k = omega arith in
    go (all_messages_in d k es) (subst (λ (t : ℕ). all_messages_in d t es ≡ false) q n)
  where
    go : (x : Bool) → x ≡ false → Memᴰ (k + 0) (cond x (unfinished_from (suc k) ds es)
        (k ∷ unfinished_from (suc k) ds es))
    go true e = absurd (true≢false e)
    go false e = let q : k + 0 ≡ k = omega arith in Memᴰ.head q
unfinished-listed (d ∷ ds) k (suc i) es h n =
    let q : k + suc i ≡ suc k + i = omega arith in
    rw q (go (all_messages_in d k es) (unfinished-listed ds (suc k) i es (omega arith)
    (subst (λ (t : ℕ). all_messages_in (get_or ds i no_transaction) t es ≡ false) q n)))
  where
    go : (x : Bool) → Memᴰ (suc k + i) (unfinished_from (suc k) ds es)
        → Memᴰ (suc k + i) (cond x (unfinished_from (suc k) ds es) (k ∷ unfinished_from (suc k) ds es))
    go true m = m
    go false m = Memᴰ.tail m

pub unfinished-in : (b : Book) (i : ℕ) → i < length b.transactions → finished b i ≡ false
    → Memᴰ i (unfinished b)
unfolding unfinished finished
unfinished-in b i h n =
    let z : 0 + i ≡ i = omega arith in
    rw z at (unfinished-listed b.transactions 0 i (released_messages b) h (rw z n))

module _ (b : Book) (s : Sound b) (terms at val : ℕ) (room : length b.transactions < low_unfinished b + 32) where
  abbrev new-one : Transaction
  new-one = new_transaction b terms at val

  abbrev b' : Book
  b' = enter_opening b terms at val

  transaction-old : (i : ℕ) → i < length b.transactions → transaction_at b' i ≡ transaction_at b i
  unfolding enter_opening
  transaction-old i h = get_or-append b.transactions (new-one ∷ []) no_transaction i h

  finished-old : (i : ℕ) → i < length b.transactions → finished b' i ≡ finished b i
  unfolding enter_opening finished
  finished-old i h = ap (λ (d : Transaction). all_messages_in d i (released_messages b)) (transaction-old i h)

  pub sound-opening : Sound b'
  unfolding enter_opening finished of_transaction
  sound-opening = record {
    frames_fit = s.frames_fit;
    building_fits = s.building_fits;
    trans_fit =
        let r : low_unfinished b ≤ low_unfinished b' =
        leading-mono (finished b) (finished b') (length b.transactions)
        (length (b.transactions ++ (new-one ∷ [])))
        (omega (arith, length-append b.transactions (new-one ∷ []))) (λ i l e. finished-old i l ∙ e) in
        omega (arith, length-append b.transactions (new-one ∷ []));
    known = λ e m. let k : e.trans < length b.transactions = s.known e m in
        omega (arith, length-append b.transactions (new-one ∷ []));
    at_most = λ i l. count-go i (at-end b.transactions new-one no_transaction i l);
    bare = λ e m z. s.bare e m (sym (ap (λ (d : Transaction). d.count) (transaction-old e.trans (s.known e m)))
        ∙ z);
    filled = s.filled;
    acknowledged_accepted = s.acknowledged_accepted;
    due_accepted = s.due_accepted;
    hand_outs_sealed = s.hand_outs_sealed;
    unfinished_listed = λ i j l k n. listed-go i j l n (at-end b.transactions new-one no_transaction j k);
  }
    where
      n : ℕ
      n = length b.transactions

      count-go : (i : ℕ) → (i < length b.transactions)
          ⊎ ((i ≡ length b.transactions) × (transaction_at b' i ≡ new-one))
          → count i (added_messages b) ≤ needed (transaction_at b' i).count
      count-go i (inl p) = subst (λ (d : Transaction). count i (added_messages b) ≤ needed d.count)
          (sym (transaction-old i p))
          (s.at_most i p)
      count-go i (inr q) = rw q.0 (omega (arith, none-beyond n (added_messages b) s.known n (omega arith)))

      listed-go : (i j : ℕ) → i < j → finished b' i ≡ false
          → (j < length b.transactions) ⊎ ((j ≡ length b.transactions)
          × (transaction_at b' j ≡ new-one))
          → Memᴰ i (transaction_at b' j).unfinished_at_opening
      listed-go i j l n (inl p) =
          subst (λ (d : Transaction). Memᴰ i d.unfinished_at_opening) (sym (transaction-old j p))
          (s.unfinished_listed i j l p (sym (finished-old i (omega arith)) ∙ n))
      listed-go i j l n (inr q) =
          let h : i < length b.transactions = let e : j ≡ length b.transactions = q.0 in omega arith in
          subst (λ (d : Transaction). Memᴰ i d.unfinished_at_opening) (sym q.1)
          (unfinished-in b i h (sym (finished-old i h) ∙ n))

-- ---- handing out, and an arrival that changes nothing

module _ (b : Book) (s : Sound b) where
  pub sound-handing : (x : HandOut) → ((c : ℕ) → frame_copy c ≡ x → c < length b.frames) → Sound (enter_hand_out b x)
  unfolding enter_hand_out finished
  sound-handing x h = record {
    frames_fit = s.frames_fit;
    building_fits = s.building_fits;
    trans_fit = s.trans_fit;
    known = s.known;
    at_most = s.at_most;
    bare = s.bare;
    filled = s.filled;
    acknowledged_accepted = s.acknowledged_accepted;
    due_accepted = s.due_accepted;
    hand_outs_sealed = λ c m. go c (Memᴰ.append_cases b.hand_outs m);
    unfinished_listed = s.unfinished_listed;
  }
    where
      go : (c : ℕ) → Memᴰ (frame_copy c) b.hand_outs ⊎ Memᴰ (frame_copy c) (x ∷ []) → c < length b.frames
      go c (inl m) = s.hand_outs_sealed c m
      go c (inr m) = h c (Memᴰ.eq_of_singleton m)

  pub sound-ignoring : Sound (enter_no_effect b)
  unfolding enter_no_effect finished
  sound-ignoring = record {
    frames_fit = s.frames_fit;
    building_fits = s.building_fits;
    trans_fit = s.trans_fit;
    known = s.known;
    at_most = s.at_most;
    bare = s.bare;
    filled = s.filled;
    acknowledged_accepted = s.acknowledged_accepted;
    due_accepted = s.due_accepted;
    hand_outs_sealed = s.hand_outs_sealed;
    unfinished_listed = s.unfinished_listed;
  }

-- ---- frames marked: acknowledged, or accepted

abbrev with_marked : Book → List FrameRecord → List AckRange → List Expected → Book
with_marked b frames acks_due expected = with_traffic (with_frames b frames b.building) b.hand_outs acks_due expected

-- The same messages, no mark less, and none acknowledged that is not accepted.
module _ (b : Book) (s : Sound b) (frames : List FrameRecord) (same : SameMessages b.frames frames)
    (acknowledged_stays : (i : ℕ) → (frame_at b i).acknowledged ≡ true → (get_or frames i no_frame).acknowledged ≡ true)
    (good : (i : ℕ) → (get_or frames i no_frame).acknowledged ≡ true → (get_or frames i no_frame).accepted ≡ true)
    (acks_due : List AckRange) (expected : List Expected)
    (due_good : (r : AckRange) → Memᴰ r acks_due → DueFor frames r) where
  abbrev after : Book
  after = with_marked b frames acks_due expected

  released-after : released_count b ≤ released_count after
  released-after =
      leading-mono (λ i. (frame_at b i).acknowledged) (λ i. (frame_at after i).acknowledged) (length b.frames)
      (length frames)
      (omega (arith, same.same_length)) (λ i l. acknowledged_stays i)

  later-after : (i : ℕ) → finished b i ≡ true → finished after i ≡ true
  later-after = finished-later b after (λ i. refl) (λ i.
      let k : count i (messages_in any_frame (take (released_count b) b.frames))
      ≤ count i (messages_in any_frame (take (released_count after) b.frames)) =
      count-take i b.frames (released_count b) (released_count after) released-after in
      rw (messages_in-same any_frame b.frames frames same (λ j. refl) (released_count after)) k)

  added-after : added_messages after ≡ added_messages b
  added-after = ap (λ r. r ++ b.building) (all_same b.frames frames same)

  sound-marked : Sound after
  sound-marked = record {
    frames_fit = omega (arith, same.same_length, released-after, s.frames_fit);
    building_fits = λ h. omega (arith, same.same_length, released-after, s.building_fits h);
    trans_fit =
        let r : low_unfinished b ≤ low_unfinished after =
        leading-mono (finished b) (finished after) (length b.transactions) (length b.transactions) (omega arith)
        (λ i l. later-after i) in
        omega (arith, s.trans_fit);
    known = λ e m. s.known e (subst (Memᴰ e) added-after m);
    at_most = λ i l. rw added-after (s.at_most i l);
    bare = λ e m. s.bare e (subst (Memᴰ e) added-after m);
    filled = λ i l. rw (same.same_at i) (s.filled i (omega (arith, same.same_length)));
    acknowledged_accepted = good;
    due_accepted = due_good;
    hand_outs_sealed = λ i m. omega (arith, same.same_length, s.hand_outs_sealed i m);
    unfinished_listed = λ i j l k n. s.unfinished_listed i j l k (unfinished-before b after later-after i n);
  }

-- the first frame that an acknowledgement covers is sealed
pub due-sealed : (b : Book) (r : AckRange) → DueFor b.frames r → r.first < length b.frames
due-sealed b r d = accepted-sealed b r.first (d.all_accepted r.first (covers-first r d.some))

or-true : (x y : Bool) → (x || y) ≡ true → (x ≡ true) ⊎ (y ≡ true)
or-true true y e = inl refl
or-true false y e = inr e

module _ (b : Book) (s : Sound b) where
  -- an acknowledgement that an answer called for
  pub sound-acking : (r : AckRange) → Memᴰ r b.acks_due → Sound (enter_ack b (some r))
  unfolding enter_ack
  sound-acking r m =
      sound-marked b s marked (same-marked (covers r) b.frames)
      (λ i e. where-acknowledged (covers r) b.frames i ∙ rw e refl)
      (λ i e. accepted-same i
      ∙ go i (or-true (frame_at b i).acknowledged (ltb i (length b.frames) && covers r i)
      (sym (where-acknowledged (covers r) b.frames i) ∙ e)))
      b.acks_due b.expected
      (λ x n. due-later b.frames marked (λ i e. accepted-same i ∙ e) x (s.due_accepted x n))
    where
      marked : List FrameRecord
      marked = mark_where (covers r) mark_acknowledged b.frames

      accepted-same : (i : ℕ) → (get_or marked i no_frame).accepted ≡ (frame_at b i).accepted
      accepted-same i = where-keeps (λ y. y.accepted) mark_acknowledged (λ y. refl) (covers r) b.frames i

      go : (i : ℕ) → ((frame_at b i).acknowledged ≡ true) ⊎ ((ltb i (length b.frames) && covers r i) ≡ true)
          → (frame_at b i).accepted ≡ true
      go i (inl e) = s.acknowledged_accepted i e
      go i (inr e) =
          (s.due_accepted r m).all_accepted i ((and-eq-true_iff (ltb i (length b.frames)) (covers r i)).0 e).1

  -- an arrival of a sealed frame
  pub sound-arriving : (c : ℕ) → c < length b.frames → Sound (enter_arrival b c)
  unfolding enter_arrival
  sound-arriving c inside =
      sound-marked b s marked (same-changed b.frames c) (λ i e. acknowledged-same i ∙ e)
      (λ i e. stays i (s.acknowledged_accepted i (sym (acknowledged-same i) ∙ e)))
      (enter_arrival b c).acks_due (enter_arrival b c).expected
      (λ r m. due r (Memᴰ.append_cases b.acks_due m))
    where
      marked : List FrameRecord
      marked = change_at b.frames c mark_accepted

      acknowledged-same : (i : ℕ) → (get_or marked i no_frame).acknowledged ≡ (frame_at b i).acknowledged
      acknowledged-same i = change-keeps (λ y. y.acknowledged) mark_accepted (λ y. refl) b.frames c i

      here : (get_or marked c no_frame).accepted ≡ true
      here = ap (λ (y : FrameRecord). y.accepted) (get_or-change-same b.frames c mark_accepted inside)

      stays : (i : ℕ) → (frame_at b i).accepted ≡ true → (get_or marked i no_frame).accepted ≡ true
      stays i e = go (ℕ_discrete i c)
        where
          go : Dec (i ≡ c) → (get_or marked i no_frame).accepted ≡ true
          go (yes q) = rw q here
          go (no n) = ap (λ (x : FrameRecord). x.accepted) (get_or-change-other b.frames c i mark_accepted n) ∙ e

      due : (r : AckRange) → Memᴰ r b.acks_due ⊎ Memᴰ r (ack_of marked c ∷ []) → DueFor marked r
      due r (inl m) = due-later b.frames marked stays r (s.due_accepted r m)
      due r (inr m) =
          subst (DueFor marked) (sym (Memᴰ.eq_of_singleton m)) (due-run marked c here)

pub sound_empty : (memory : List ℕ) → Sound (empty_book memory)
unfolding empty_book messages_in
sound_empty memory = record {
  frames_fit = omega arith;
  building_fits = λ h. absurd (not-suc-le-zero h);
  trans_fit = omega arith;
  known = λ e m. absurd (Memᴰ.not-nil m);
  at_most = λ i l. absurd (not-suc-le-zero l);
  bare = λ e m. absurd (Memᴰ.not-nil m);
  filled = λ c l. absurd (not-suc-le-zero l);
  acknowledged_accepted = λ c e. absurd (true≢false (sym e));
  due_accepted = λ c m. absurd (Memᴰ.not-nil m);
  hand_outs_sealed = λ c m. absurd (Memᴰ.not-nil m);
  unfinished_listed = λ i j l k n. absurd (not-suc-le-zero k);
}
