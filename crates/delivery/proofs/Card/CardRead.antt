-- The card's reading of an acknowledgement against the book: frames are released and transactions finish as the book
-- says. Assumes nothing.
use Prim.Native.Nat.{ℕ, ◌+◌, ◌%◌, ◌≤◌, ◌<◌}
use native.Mathlib.Decide.{dec_le, dec_lt}
use native.Mathlib.Omega.{arith}
use mathlib.Core.Path.{◌≡◌, refl, sym, ap, ◌∙◌}
use mathlib.Core.Bool.{Bool, true, false, true≢false, ◌&&◌, ◌||◌}
use mathlib.Core.List.{List, ◌++◌, map, Memᴰ}
use mathlib.Core.Option.{some}
use borrow.Author.Tests.{lt-ltb, le-ltb, le-leb, lt-leb, leb-true}
use lib.Dec.{ltb, leb}
use lib.ListN.{length, take, get_or-eq_default}
use Rattle.seq.specs.Ring.{frame_space, trans_space}
use Rattle.bitmap.specs.Marks.{mark, leading}
use Rattle.bitmap.proofs.Marks.{leading_le, leading-holds, leading-mono}
use Rattle.wire.specs.Format.{needed}
use Rattle.wire.proofs.Format.{needed-pos}
use Rattle.card.specs.declared.SendWindow.{SendWindow}
use Rattle.card.specs.Window.{acknowledging, releasing}
use Rattle.card.proofs.Window.{base-after, marks-after, next-after}
use Rattle.card.specs.declared.Sending.{Sending}
use Rattle.card.specs.Sendings.{sending_at, all_released, finishing, passing}
use Rattle.card.proofs.Finishing.{not-all-released, all-released-is, lowest-after, finished-after}
use Rattle.card.specs.declared.Card.{Card}
use Rattle.card.specs.Card.{acknowledged}
use Rattle.card.proofs.Slots.{Built, built-same}
use Rattle.delivery.specs.Book.{
  Book,
  MessageRecord,
  AckRange,
  covers,
  FrameRecord,
  no_frame,
  messages_in,
  any_frame,
  all_messages_in,
  mark_acknowledged,
  frame_at,
  transaction_at,
  released_count,
  added_messages,
  finished,
  enter_ack,
}
use Rattle.delivery.proofs.Book.Counts.{
  count,
  count-append,
  count-prefix,
  count-take,
  length-where,
  where-acknowledged,
  SameMessages,
  same-marked,
  messages_in-same,
  all_same,
}
use Rattle.delivery.proofs.Book.Sound.{DueFor, Sound, low_unfinished, ack-near}
use Rattle.delivery.proofs.Book.Steps.{sound-acking, due-sealed}
use Rattle.delivery.proofs.Host.HostStep.{wired}
use Rattle.delivery.proofs.Card.CardFor.{
  in_first,
  in_all,
  LastMessageIn,
  TermsFor,
  SlotFor,
  CardFor,
  released-most,
  low-most,
  unopened,
  slot_same,
  terms-same,
  last-same,
}

module _ (c : Card) (slots : List ℕ) (b : Book) (r : CardFor c slots b) (s : Sound b) (x : AckRange)
    (is_due : Memᴰ x b.acks_due) (in_time : released_count b ≤ x.first + 32768) where
  abbrev pub b' : Book
  b' = enter_ack b (some x)

  abbrev total : ℕ
  total = length b.frames

  due : DueFor b.frames x
  due = s.due_accepted x is_due

  inside : x.first < total
  inside = due-sealed b x due

  pub read-sound : Sound b'
  read-sound = sound-acking b s x is_due

  -- ---- what the book's entry leaves

  same_length : length b'.frames ≡ total
  unfolding enter_ack
  same_length = length-where (covers x) mark_acknowledged b.frames

  same : SameMessages b.frames b'.frames
  unfolding enter_ack
  same = same-marked (covers x) b.frames

  taken-same : (n : ℕ) → messages_in any_frame (take n b'.frames) ≡ messages_in any_frame (take n b.frames)
  taken-same = messages_in-same any_frame b.frames b'.frames same (λ i. refl)

  added-same : added_messages b' ≡ added_messages b
  unfolding enter_ack
  added-same = ap (λ (l : List MessageRecord). l ++ b.building) (all_same b.frames b'.frames same)

  -- ---- frames

  abbrev was : ℕ → Bool
  was n = (frame_at b n).acknowledged

  abbrev is : ℕ → Bool
  is n = (frame_at b' n).acknowledged

  abbrev window : SendWindow
  window = acknowledging c.window (x.first % frame_space) x.many

  unsealed : (n : ℕ) → total ≤ n → was n ≡ false
  unsealed n h = ap (λ (f : FrameRecord). f.acknowledged) (get_or-eq_default b.frames no_frame h)

  -- acknowledged are those that were, and those that x covers
  after : (n : ℕ) → is n ≡ (was n || (ltb n total && covers x n))
  unfolding enter_ack
  after n = where-acknowledged (covers x) b.frames n

  stays : (n : ℕ) → was n ≡ true → is n ≡ true
  stays n q = after n ∙ rw q refl

  below : (n : ℕ) → n < released_count b → is n ≡ true
  below n h = stays n (leading-holds was total n h)

  released-is : released_count b' ≡ leading is total
  released-is = ap (leading is) same_length

  base-is : window.base.0 ≡ released_count b' % frame_space
  base-is =
      rw released-is
      (base-after c.window (released_count b) total (released-most c slots b r s) s.frames_fit r.low_is
      r.next_is
      x.first x.many in_time (ack-near b s x.first inside) (omega (arith, due.few)) was is
      r.marks_are unsealed below after)

  marks-are : (i : ℕ) → mark window.acked i ≡ is (released_count b' + i)
  marks-are i =
      rw released-is
      (marks-after c.window (released_count b) total (released-most c slots b r s) s.frames_fit r.low_is
      r.next_is
      x.first x.many in_time (ack-near b s x.first inside) (omega (arith, due.few)) was is
      r.marks_are unsealed below after i)

  next-is : window.next.0 ≡ total % frame_space
  next-is = rw (next-after c.window (x.first % frame_space) x.many) r.next_is

  released-more : released_count b ≤ released_count b'
  released-more = leading-mono was is total (length b'.frames) (omega (arith, same_length)) (λ n l. stays n)

  released-top : released_count b' ≤ total
  released-top = omega (arith, leading_le is (length b'.frames), same_length)

  -- ---- transactions

  transactions-same : b'.transactions ≡ b.transactions
  unfolding enter_ack
  transactions-same = refl

  building-same : b'.building ≡ b.building
  unfolding enter_ack
  building-same = refl

  finished-is : (k : ℕ) → finished b' k ≡ leb (needed (transaction_at b k).count) (in_first b k (released_count b'))
  unfolding finished all_messages_in
  finished-is k = rw (transactions-same, taken-same (released_count b'))

  finished-was : (k : ℕ) → finished b k ≡ leb (needed (transaction_at b k).count) (in_first b k (released_count b))
  unfolding finished all_messages_in
  finished-was k = refl

  finished-stays : (k : ℕ) → finished b k ≡ true → finished b' k ≡ true
  finished-stays k q =
      let l = leb-true (needed (transaction_at b k).count) (in_first b k (released_count b)) (sym (finished-was k) ∙ q) in
      finished-is k
      ∙ le-leb (needed (transaction_at b k).count) (in_first b k (released_count b'))
      (omega (arith, l, count-take k b.frames (released_count b) (released_count b') released-more))

  -- an opened transaction that was not finished
  module _ (k : ℕ) (least : low_unfinished b ≤ k) (is_open : k < length b.transactions)
      (unfinished : finished b k ≡ false) where
    abbrev terms : Sending
    terms = sending_at c.sendings k

    t : TermsFor terms b k
    t = r.terms_are k least is_open

    -- a message of it is missing
    not_yet : in_all b k < needed (transaction_at b k).count → all_released terms c.window.base.0 window.base.0
        ≡ finished b' k
    not_yet h =
        not-all-released terms c.window.base.0 window.base.0
        (omega (arith, t.added_is, ap needed t.count_is))
        ∙ sym (finished-is k ∙ lt-leb (needed (transaction_at b k).count) (in_first b k (released_count b')) (omega (
          arith,
          count-prefix k b.frames (released_count b'),
          count-append k (messages_in any_frame b.frames) b.building,
        )))

    -- all are added: it was not finished, so that the frame of the latest was not released
    module _ (all : in_all b k ≡ needed (transaction_at b k).count) (f : LastMessageIn terms.frame.0 b k) where
      unreleased : released_count b ≤ f.frame
      unreleased = go (dec_le (released_count b) f.frame)
        where
          go : Dec (released_count b ≤ f.frame) → released_count b ≤ f.frame
          go (yes q) = q
          go (no n) =
              let a = f.all_before (released_count b) (omega arith) (released-most c slots b r s) in
              let done : finished b k ≡ true =
              finished-was k
              ∙ le-leb (needed (transaction_at b k).count) (in_first b k (released_count b)) (omega (arith, a)) in
              absurd (true≢false (sym done ∙ unfinished))

      by-frame : ltb f.frame (released_count b') ≡ finished b' k
      by-frame = go (dec_lt f.frame (released_count b'))
        where
          go : Dec (f.frame < released_count b') → ltb f.frame (released_count b') ≡ finished b' k
          go (yes q) =
              lt-ltb f.frame (released_count b') q
              ∙ sym (finished-is k ∙ le-leb (needed (transaction_at b k).count) (in_first b k (released_count b'))
              (omega (arith, f.all_before (released_count b') q released-top)))
          go (no q) =
              le-ltb f.frame (released_count b') (omega arith)
              ∙ sym (finished-is k ∙ lt-leb (needed (transaction_at b k).count) (in_first b k (released_count b'))
              (omega (arith, f.not_before (released_count b') (omega arith))))

      all-added : all_released terms c.window.base.0 window.base.0 ≡ finished b' k
      all-added =
          all-released-is terms c.window.base.0 window.base.0 (released_count b) (released_count b') f.frame
          (t.added_is ∙ all ∙ sym (ap needed t.count_is)) f.is_number r.low_is base-is unreleased
          (omega (arith, f.at_most, s.frames_fit)) released-more (omega (arith, released-top, s.frames_fit))
          ∙ by-frame

    all-released-now : all_released terms c.window.base.0 window.base.0 ≡ finished b' k
    all-released-now = go (dec_lt (in_all b k) (needed (transaction_at b k).count))
      where
        go : Dec (in_all b k < needed (transaction_at b k).count)
            → all_released terms c.window.base.0 window.base.0 ≡ finished b' k
        go (yes h) = not_yet h
        go (no n) =
            let all : in_all b k ≡ needed (transaction_at b k).count = omega (arith, s.at_most k is_open) in
            all-added all (t.last_is (omega (arith, needed-pos (transaction_at b k).count)))

  finished-below : (k : ℕ) → k < low_unfinished b → finished b' k ≡ true
  finished-below k h = finished-stays k (leading-holds (finished b) (length b.transactions) k h)

  unopened-now : (k : ℕ) → length b.transactions ≤ k → finished b' k ≡ false
  unopened-now k h = unopened b' read-sound k (rw transactions-same h)

  -- ---- the card

  abbrev read-card : Card
  read-card = acknowledged c (x.first % frame_space) x.many

  low-is : low_unfinished b' ≡ leading (finished b') (length b.transactions)
  low-is = rw transactions-same

  low-after : read-card.sendings.lowest.0 ≡ low_unfinished b' % trans_space
  unfolding acknowledged
  low-after =
      rw low-is
      (lowest-after c.sendings (low_unfinished b) (length b.transactions) (low-most c slots b r s) s.trans_fit
      r.trans_low_is r.trans_next_is c.window.base.0 window.base.0 (finished b) (finished b')
      r.finished_are finished-below finished-stays all-released-now unopened-now)

  marks-now : (i : ℕ) → mark read-card.sendings.finished i ≡ finished b' (low_unfinished b' + i)
  unfolding acknowledged
  marks-now i =
      rw low-is
      (finished-after c.sendings (low_unfinished b) (length b.transactions) (low-most c slots b r s) s.trans_fit
      r.trans_low_is r.trans_next_is c.window.base.0 window.base.0 (finished b) (finished b')
      r.finished_are finished-below finished-stays all-released-now unopened-now i)

  low-more : low_unfinished b ≤ low_unfinished b'
  low-more =
      rw low-is
      (leading-mono (finished b) (finished b') (length b.transactions) (length b.transactions) (omega arith)
      (λ k l. finished-stays k))

  terms-kept : (i : ℕ) → TermsFor (sending_at c.sendings i) b i → TermsFor (sending_at read-card.sendings i) b' i
  unfolding acknowledged finishing passing
  terms-kept i =
      terms-same (sending_at c.sendings i) (sending_at read-card.sendings i) b b' i refl (rw transactions-same)
      (ap (count i) added-same)
      (last-same (sending_at c.sendings i).frame.0 b b' i same_length (λ k. ap (count i) (taken-same k))
      (ap (count i) added-same))

  pub card-read : CardFor (acknowledged c (x.first % frame_space) x.many) slots b'
  unfolding acknowledged acknowledging releasing finishing passing enter_ack
  card-read =
      record {
        fitted = r.fitted;
        next_is = rw same_length next-is;
        low_is = base-is;
        marks_are = marks-are;
        sizes_long = r.sizes_long;
        slots_are = λ n l h. slot n (r.slots_are n (omega (arith, released-more)) (rw same_length at h));
        built_is = built;
        built_fits = r.built_fits;
        trans_next_is = r.trans_next_is;
        trans_low_is = low-after;
        finished_are = marks-now;
        terms_long = r.terms_long;
        terms_are = λ i l h. terms-kept i (r.terms_are i (omega (arith, low-more)) (rw transactions-same at h));
      }
    where
      built : Built read-card slots (map (wired b'.transactions) b'.building)
      built =
          rw (transactions-same, building-same)
          (built-same c read-card slots (map (wired b.transactions) b.building) refl refl
          refl refl refl refl r.built_is)

      slot : (n : ℕ) → SlotFor c slots b n → SlotFor read-card slots b' n
      slot n =
          slot_same c read-card slots b b' n refl refl refl
          refl
          (rw (transactions-same, same.same_at n))
