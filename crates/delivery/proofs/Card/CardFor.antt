-- The card and its slots against the book: what it means that they agree, and that opening a transaction keeps them so.
-- Assumes nothing.
use Prim.Native.Nat.{ℕ, zero, suc, ◌+◌, ◌-◌, ◌%◌, ◌≤◌, ◌<◌}
use native.Mathlib.Nat.{mod-lt}
use native.Mathlib.Decide.{dec_lt, ℕ_discrete}
use native.Mathlib.Omega.{arith}
use mathlib.Core.Path.{◌≡◌, refl, sym, ap, ◌∙◌, subst}
use mathlib.Core.Logic.{◌⊎◌, inl, inr}
use mathlib.Core.Bool.{true, false}
use mathlib.Core.List.Memᴰ
use mathlib.Core.List.{
  List,
  [],
  ◌∷◌,
  ◌++◌,
  map,
  Memᴰ,
}
use borrow.Author.Tests.{ltb-true}
use lib.Dec.{ltb, lit<}
use lib.ListN.{length, get_or, take, length-set, length-append, get_or-append}
use lib.Seq.{get_or-append_seam}
use Rattle.seq.specs.Ring.{frame_space, trans_space, advance}
use Rattle.bitmap.specs.Marks.{mark}
use Rattle.bitmap.proofs.Marks.{leading_le, leading-holds, leading-stops, leading-is}
use Rattle.wire.specs.Writing.{frame_of}
use Rattle.card.specs.Window.{unreleased}
use Rattle.card.specs.declared.Sending.{Sending}
use Rattle.card.specs.Sendings.{no_sending, opened, sending_at, opening_refusal, opening}
use Rattle.card.specs.declared.Card.{Card}
use Rattle.card.specs.Card.{fits, slot_of, open_transaction}
use Rattle.card.proofs.Slots.{Built, built-same}
use Rattle.delivery.specs.Book.{
  new_transaction,
  Book,
  MessageRecord,
  Transaction,
  FrameRecord,
  no_transaction,
  messages_in,
  any_frame,
  all_messages_in,
  frame_at,
  transaction_at,
  released_count,
  released_messages,
  added_messages,
  finished,
  enter_opening,
}
use Rattle.delivery.proofs.Book.Counts.{count, none-beyond, not-full-none}
use Rattle.delivery.proofs.Book.Sound.{Sound, low_unfinished}
use Rattle.delivery.proofs.Book.Sums.{messages-of-frame}
use Rattle.delivery.proofs.Host.HostStep.{wired, read_set, read-other, slots-differ}

-- ---- the relation

-- A frame of the book as bytes.
abbrev pub framed : ℕ → ℕ → List Transaction → ℕ → List MessageRecord → List ℕ
framed own peer ds n es = frame_of peer own (n % frame_space) (map (wired ds) es)

-- How many messages of transaction i are in the first n frames, and in all with the frame being built.
abbrev pub in_first : Book → ℕ → ℕ → ℕ
in_first b i n = count i (messages_in any_frame (take n b.frames))

abbrev pub in_all : Book → ℕ → ℕ
in_all b i = count i (added_messages b)

-- x is the number of the frame that the last message of transaction i went into. The frame being built counts as the
-- next one.
pub record LastMessageIn (x : ℕ) (b : Book) (i : ℕ) : Type 0 where
  pub frame : ℕ
  pub is_number : x ≡ frame % frame_space
  pub at_most : frame ≤ length b.frames
  pub all_before : (k : ℕ) → frame < k → k ≤ length b.frames → in_first b i k ≡ in_all b i
  pub not_before : (k : ℕ) → k ≤ frame → in_first b i k < in_all b i

pub record TermsFor (t : Sending) (b : Book) (i : ℕ) : Type 0 where
  pub count_is : t.count ≡ (transaction_at b i).count
  pub address_is : t.address ≡ (transaction_at b i).completion_address
  pub value_is : t.value ≡ (transaction_at b i).completion_value
  pub added_is : t.added ≡ in_all b i
  pub last_is : 0 < in_all b i → LastMessageIn t.frame.0 b i

abbrev pub frame_bytes : Card → Book → ℕ → List ℕ
frame_bytes c b n = framed c.own c.peer b.transactions n (frame_at b n).messages

-- The slot of the frame n starts with the frame, and its length is kept.
pub record SlotFor (c : Card) (slots : List ℕ) (b : Book) (n : ℕ) : Type 0 where
  pub size_is : get_or c.window.sizes (n % 64) 0 ≡ length (frame_bytes c b n)
  pub size_fits : length (frame_bytes c b n) ≤ c.limit
  pub bytes_are : take (length (frame_bytes c b n)) (slot_of c slots n) ≡ frame_bytes c b n

pub record CardFor (c : Card) (slots : List ℕ) (b : Book) : Type 0 where
  pub fitted : fits c.limit slots ≡ true
  -- the window of sealed frames
  pub next_is : c.window.next.0 ≡ length b.frames % frame_space
  pub low_is : c.window.base.0 ≡ released_count b % frame_space
  pub marks_are : (i : ℕ) → mark c.window.acked i ≡ (frame_at b (released_count b + i)).acknowledged
  pub sizes_long : length c.window.sizes ≡ 64
  pub slots_are : (n : ℕ) → released_count b ≤ n → n < length b.frames → SlotFor c slots b n
  -- the frame being built
  pub built_is : Built c slots (map (wired b.transactions) b.building)
  pub built_fits : c.used ≤ c.limit
  -- the transactions
  pub trans_next_is : c.sendings.next.0 ≡ length b.transactions % trans_space
  pub trans_low_is : c.sendings.lowest.0 ≡ low_unfinished b % trans_space
  pub finished_are : (i : ℕ) → mark c.sendings.finished i ≡ finished b (low_unfinished b + i)
  pub terms_long : length c.sendings.table ≡ 32
  pub terms_are : (i : ℕ) → low_unfinished b ≤ i → i < length b.transactions → TermsFor (sending_at c.sendings i) b i

module _ (c : Card) (slots : List ℕ) (b : Book) (r : CardFor c slots b) (s : Sound b) where
  pub released-most : released_count b ≤ length b.frames
  released-most = leading_le (λ n. (frame_at b n).acknowledged) (length b.frames)

  pub low-most : low_unfinished b ≤ length b.transactions
  low-most = leading_le (finished b) (length b.transactions)

  pub unreleased-is : unreleased c.window ≡ length b.frames - released_count b
  unreleased-is =
      Rattle.card.proofs.Window.unreleased-is c.window (released_count b) (length b.frames) released-most
      s.frames_fit r.low_is r.next_is

  pub opened-is : opened c.sendings ≡ length b.transactions - low_unfinished b
  opened-is =
      Rattle.card.proofs.Finishing.opened-is c.sendings (low_unfinished b) (length b.transactions) low-most
      s.trans_fit r.trans_low_is r.trans_next_is

-- ---- what stays where the book's other columns change

-- the slot of a frame whose messages look the same
pub slot_same : (c c' : Card) (slots : List ℕ) (b b' : Book) (n : ℕ) → c'.own ≡ c.own → c'.peer ≡ c.peer
    → c'.limit ≡ c.limit → get_or c'.window.sizes (n % 64) 0 ≡ get_or c.window.sizes (n % 64) 0
    → map (wired b'.transactions) (frame_at b' n).messages ≡ map (wired b.transactions) (frame_at b n).messages
    → SlotFor c slots b n → SlotFor c' slots b' n
slot_same c c' slots b b' n o p l z q f =
    record {
      size_is = rw (o, p, q, z) f.size_is;
      size_fits = rw (o, p, q, l) f.size_fits;
      bytes_are = rw (o, p, q, l) f.bytes_are;
    }

-- a transaction with the same terms and messages
pub terms-same : (t t' : Sending) (b b' : Book) (i : ℕ) → t' ≡ t → transaction_at b' i ≡ transaction_at b i
    → in_all b' i ≡ in_all b i → (LastMessageIn t.frame.0 b i → LastMessageIn t.frame.0 b' i) → TermsFor t b i
    → TermsFor t' b' i
terms-same t t' b b' i e d n l f =
    record {
      count_is = rw (e, d) f.count_is;
      address_is = rw (e, d) f.address_is;
      value_is = rw (e, d) f.value_is;
      added_is = rw (e, n) f.added_is;
      last_is = λ p. rw e (l (f.last_is (rw n at p)));
    }

-- the latest message, where the frames hold the same messages
pub last-same : (x : ℕ) (b b' : Book) (i : ℕ) → length b'.frames ≡ length b.frames
    → ((k : ℕ) → in_first b' i k ≡ in_first b i k) → in_all b' i ≡ in_all b i → LastMessageIn x b i → LastMessageIn x b' i
last-same x b b' i l taken all f =
    record {
      frame = f.frame;
      is_number = f.is_number;
      at_most = rw l f.at_most;
      all_before = λ k p u. taken k ∙ f.all_before k p (rw l at u) ∙ sym all;
      not_before = λ k p. rw (taken k, all) (f.not_before k p);
    }

-- ---- a transaction that was never opened

pub messages_in-take : (n : ℕ) (ss : List FrameRecord) (e : MessageRecord)
    → Memᴰ e (messages_in any_frame (take n ss))
    → Memᴰ e (messages_in any_frame ss)
unfolding messages_in
messages_in-take zero ss e m = absurd (Memᴰ.not-nil m)
messages_in-take (suc n) [] e m = m
messages_in-take (suc n) (x ∷ ss) e m = cases (Memᴰ.append_cases x.messages m) (messages_in-take n ss e)
  where
    cases : Memᴰ e x.messages ⊎ Memᴰ e (messages_in any_frame (take n ss))
        → (Memᴰ e (messages_in any_frame (take n ss)) → Memᴰ e (messages_in any_frame ss))
        → Memᴰ e (x.messages ++ messages_in any_frame ss)
    cases (inl k) ih = Memᴰ.append_left (messages_in any_frame ss) k
    cases (inr k) ih = Memᴰ.append_right x.messages (ih k)

-- it has no message in a released frame, so it is not finished
none-released : (b : Book) → Sound b → (i : ℕ) → length b.transactions ≤ i → count i (released_messages b) ≡ 0
none-released b s i h = none-beyond (length b.transactions) (released_messages b) known i h
  where
    known : (e : MessageRecord) → Memᴰ e (released_messages b) → e.trans < length b.transactions
    known e m = s.known e (Memᴰ.append_left b.building (messages_in-take (released_count b) b.frames e m))

pub unopened : (b : Book) → Sound b → (i : ℕ) → length b.transactions ≤ i → finished b i ≡ false
unfolding finished
unopened b s i h = not-full-none (transaction_at b i) i (released_messages b) (none-released b s i h)

-- ---- opening a transaction

pub map-known : (ds : List Transaction) (d : Transaction) (es : List MessageRecord)
    → ((e : MessageRecord) → Memᴰ e es → e.trans < length ds) → map (wired (ds ++ (d ∷ []))) es
    ≡ map (wired ds) es
map-known ds d [] h = refl
map-known ds d (e ∷ es) h = λ i. wired_same i ∷ map-known ds d es (λ x m. h x (Memᴰ.tail m)) i
  where
    same : get_or (ds ++ (d ∷ [])) e.trans no_transaction ≡ get_or ds e.trans no_transaction
    same = get_or-append ds (d ∷ []) no_transaction e.trans (h e (Memᴰ.head refl))

    wired_same : wired (ds ++ (d ∷ [])) e ≡ wired ds e
    wired_same = rw same

module _ (c : Card) (slots : List ℕ) (b : Book) (r : CardFor c slots b) (s : Sound b) (terms address value : ℕ) where
  pub open-refused : ltb (opened c.sendings) 32 ≡ false
      → open_transaction c terms address value ≡ record { card = c; refusal = 20; trans = record { 0 = 0 } }
  unfolding open_transaction opening_refusal
  open-refused q = rw q

  module _ (ok : ltb (opened c.sendings) 32 ≡ true) where
    abbrev pub opened-card : Card
    opened-card = record {
      own = c.own;
      peer = c.peer;
      limit = c.limit;
      used = c.used;
      last = c.last;
      window = c.window;
      sendings = opening c.sendings terms address value;
    }

    pub open_done : open_transaction c terms address value
        ≡ record { card = opened-card; refusal = 0; trans = c.sendings.next }
    unfolding open_transaction opening_refusal
    open_done = rw ok

    abbrev total : ℕ
    total = length b.transactions

    pub open-room : total < low_unfinished b + 32
    open-room =
        omega (arith, low-most c slots b r s, ltb-true (opened c.sendings) 32 ok, opened-is c slots b r s)

    abbrev b' : Book
    b' = enter_opening b terms address value

    abbrev new : Transaction
    new = new_transaction b terms address value

    abbrev new_sending : Sending
    new_sending = record { address = address; value = value; count = terms; added = 0; frame = record { 0 = 0 } }

    old-transaction : (i : ℕ) → i < total → transaction_at b' i ≡ transaction_at b i
    unfolding enter_opening
    old-transaction i h = get_or-append b.transactions (new ∷ []) no_transaction i h

    new-transaction : transaction_at b' total ≡ new
    unfolding enter_opening
    new-transaction = get_or-append_seam b.transactions new [] no_transaction

    longer : length b'.transactions ≡ suc total
    unfolding enter_opening
    longer = omega (arith, length-append b.transactions (new ∷ []))

    none_yet : in_all b total ≡ 0
    none_yet = none-beyond total (added_messages b) s.known total (omega arith)

    finished-same : (i : ℕ) → finished b' i ≡ finished b i
    unfolding finished enter_opening
    finished-same i = go (dec_lt i total)
      where
        go : Dec (i < total)
            → all_messages_in (transaction_at b' i) i (released_messages b)
            ≡ all_messages_in (transaction_at b i) i (released_messages b)
        go (yes h) = ap (λ (d : Transaction). all_messages_in d i (released_messages b)) (old-transaction i h)
        go (no n) =
            let z : count i (released_messages b) ≡ 0 = none-released b s i (omega arith) in
            not-full-none (transaction_at b' i) i (released_messages b) z
            ∙ sym (not-full-none (transaction_at b i) i (released_messages b) z)

    low_same : low_unfinished b' ≡ low_unfinished b
    low_same =
        leading-is (finished b') (length b'.transactions) (low_unfinished b)
        (omega (arith, longer, low-most c slots b r s))
        (λ i h. finished-same i ∙ leading-holds (finished b) total i h)
        (λ h. finished-same (low_unfinished b) ∙ stop (dec_lt (low_unfinished b) total))
      where
        stop : Dec (low_unfinished b < total) → finished b (low_unfinished b) ≡ false
        stop (yes h) = leading-stops (finished b) total h
        stop (no n) = unopened b s (low_unfinished b) (omega arith)

    wired-same : (es : List MessageRecord) → ((e : MessageRecord) → Memᴰ e es → e.trans < total)
        → map (wired b'.transactions) es ≡ map (wired b.transactions) es
    unfolding enter_opening
    wired-same es h = map-known b.transactions new es h

    entry-now : c.sendings.next.0 % 32 ≡ total % 32
    entry-now = rw r.trans_next_is (omega arith)

    old-terms : (i : ℕ) → low_unfinished b ≤ i → i < total → TermsFor (sending_at opened-card.sendings i) b' i
    unfolding opening enter_opening
    old-terms i l h =
        terms-same (sending_at c.sendings i) (sending_at opened-card.sendings i) b b' i here
        (old-transaction i h) refl
        (last-same (sending_at c.sendings i).frame.0 b b' i refl (λ k. refl) refl) (r.terms_are i l h)
      where
        here : sending_at opened-card.sendings i ≡ sending_at c.sendings i
        here =
            read-other c.sendings.table (c.sendings.next.0 % 32) (total % 32)
            (i % 32) new_sending no_sending entry-now
            (slots-differ (low_unfinished b) i total l (omega (arith, open-room)) (omega arith) open-room
            (λ q. omega arith))

    new-terms : TermsFor (sending_at opened-card.sendings total) b' total
    unfolding opening enter_opening
    new-terms =
        rw here (record {
          count_is = sym (ap (λ (d : Transaction). d.count) new-transaction);
          address_is = sym (ap (λ (d : Transaction). d.completion_address) new-transaction);
          value_is = sym (ap (λ (d : Transaction). d.completion_value) new-transaction);
          added_is = sym none_yet;
          last_is = λ p. absurd (omega (arith, none_yet));
        })
      where
        here : sending_at opened-card.sendings total ≡ new_sending
        here =
            read_set c.sendings.table (c.sendings.next.0 % 32) (total % 32) new_sending no_sending entry-now
            (rw r.terms_long (mod-lt total (lit< tt)))

    pub card-opened : CardFor opened-card slots b'
    unfolding opening enter_opening advance
    card-opened =
        record {
          fitted = r.fitted;
          next_is = r.next_is;
          low_is = r.low_is;
          marks_are = r.marks_are;
          sizes_long = r.sizes_long;
          slots_are =
              λ n l h. slot_same c opened-card slots b b' n refl refl refl refl (wired-same _ (in_frame n))
              (r.slots_are n l h);
          built_is =
              subst (Built opened-card slots) (sym (wired-same b.building in-building))
              (built-same c opened-card slots (map (wired b.transactions) b.building) refl refl refl refl refl
              refl
              r.built_is);
          built_fits = r.built_fits;
          trans_next_is = rw (r.trans_next_is, longer) (omega arith);
          trans_low_is = rw low_same r.trans_low_is;
          finished_are = λ i. rw (low_same, finished-same (low_unfinished b + i)) (r.finished_are i);
          terms_long = length-set c.sendings.table (c.sendings.next.0 % 32) new_sending ∙ r.terms_long;
          terms_are = λ i l h. go i (rw low_same at l) (rw longer at h) (ℕ_discrete total i);
        }
      where
        in_frame : (n : ℕ) (e : MessageRecord) → Memᴰ e (frame_at b n).messages → e.trans < total
        in_frame n e m = s.known e (Memᴰ.append_left b.building (messages-of-frame b.frames n e m))

        in-building : (e : MessageRecord) → Memᴰ e b.building → e.trans < total
        in-building e m = s.known e (Memᴰ.append_right (messages_in any_frame b.frames) m)

        go : (i : ℕ) → low_unfinished b ≤ i → i < suc total → Dec (total ≡ i)
            → TermsFor (sending_at opened-card.sendings i) b' i
        go i l h (yes q) = subst (λ (k : ℕ). TermsFor (sending_at opened-card.sendings k) b' k) q new-terms
        go i l h (no n) = old-terms i l (omega arith)
