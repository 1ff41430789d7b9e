-- The card's sealing, showing and choosing against the book, and changes of the book that do not concern the card.
-- Assumes nothing.
use Prim.Native.Nat.{ℕ, suc, ◌+◌, ◌%◌, ◌≤◌, ◌<◌}
use native.Mathlib.Nat.{mod-lt, not-suc-le-zero, add-zero}
use native.Mathlib.Decide.{dec_le, dec_lt, ℕ_discrete}
use native.Mathlib.Omega.{arith}
use mathlib.Core.Path.{◌≡◌, refl, sym, ap, ◌∙◌, subst}
use mathlib.Core.Bool.{Bool, true, false, true≢false}
use mathlib.Core.List.{List, [], ◌∷◌, map, append-nil}
use borrow.Author.Tests.{ltb-true, eq-eqb}
use lib.Dec.{eqb, ltb, lit<}
use lib.ListN.{length, get_or, set, take, length-set, length-append, get_or-append, get_or-eq_default}
use lib.Seq.{get_or-append_seam, take-append-le, take_all}
use Rattle.seq.specs.Ring.{frame_space, advance}
use Rattle.bitmap.specs.Marks.{mark, leading}
use Rattle.bitmap.proofs.Marks.{leading-holds, leading-stops, leading-is, leading-same}
use Rattle.card.specs.Window.{unreleased, held, before_held, oldest_held, sealing}
use Rattle.card.proofs.Window.{held-is, none-before-held, oldest-base}
use Rattle.card.specs.Sendings.{sending_at}
use Rattle.card.specs.declared.Card.{Card}
use Rattle.card.specs.Card.{slot_of, seal_refusal, seal_frame, frame_in}
use Rattle.card.proofs.Slots.{Built, frame-in}
use Rattle.delivery.specs.Book.{
  new_frame,
  Book,
  MessageRecord,
  FrameRecord,
  Transaction,
  no_transaction,
  no_frame,
  messages_in,
  any_frame,
  frame_at,
  released_count,
  added_messages,
  finished,
  enter_sealing,
}
use Rattle.delivery.proofs.Book.Counts.{count}
use Rattle.delivery.proofs.Book.Sound.{Sound, low_unfinished}
use Rattle.delivery.proofs.Book.Steps.{added-seal}
use Rattle.delivery.proofs.Host.HostStep.{wired, read_set, read-other}
use Rattle.delivery.proofs.Card.CardFor.{
  framed,
  frame_bytes,
  in_first,
  in_all,
  LastMessageIn,
  TermsFor,
  SlotFor,
  CardFor,
  released-most,
  unreleased-is,
  slot_same,
  terms-same,
  last-same,
}
use Rattle.delivery.proofs.Card.CardAdd.{mod64, slots-differ64}

-- ---- two books that look alike to the card

pub leading-ext : (p q : ℕ → Bool) (n : ℕ) → ((i : ℕ) → p i ≡ q i) → leading p n ≡ leading q n
leading-ext p q n h = leading-same p q n (λ i l. h i)

module _ (b b' : Book) (same_transactions : b'.transactions ≡ b.transactions)
    (same_building : b'.building ≡ b.building)
    (same_length : length b'.frames ≡ length b.frames)
    (same_messages : (n : ℕ) → (frame_at b' n).messages ≡ (frame_at b n).messages)
    (same_acknowledged : (n : ℕ) → (frame_at b' n).acknowledged ≡ (frame_at b n).acknowledged)
    (same_taken : (n : ℕ) → messages_in any_frame (take n b'.frames) ≡ messages_in any_frame (take n b.frames)) where
  alike-released : released_count b' ≡ released_count b
  alike-released =
      ap (leading (λ n. (frame_at b' n).acknowledged)) same_length
      ∙ leading-ext (λ n. (frame_at b' n).acknowledged) (λ n. (frame_at b n).acknowledged)
      (length b.frames) same_acknowledged

  pub alike-added : added_messages b' ≡ added_messages b
  alike-added =
      let l = length b'.frames in
      let all : messages_in any_frame b'.frames ≡ messages_in any_frame b.frames =
      ap (messages_in any_frame) (sym (take_all l b'.frames (omega arith))) ∙ same_taken l
      ∙ ap (messages_in any_frame) (take_all l b.frames (omega (arith, same_length))) in
      rw (all, same_building)

  alike-finished : (i : ℕ) → finished b' i ≡ finished b i
  unfolding finished
  alike-finished i = rw (same_transactions, alike-released, same_taken (released_count b))

  alike-low : low_unfinished b' ≡ low_unfinished b
  alike-low =
      ap (λ (x : List Transaction). leading (finished b') (length x)) same_transactions
      ∙ leading-ext (finished b') (finished b) (length b.transactions) alike-finished

  pub card-alike : (c : Card) (slots : List ℕ) → CardFor c slots b → CardFor c slots b'
  card-alike c slots r =
      record {
        fitted = r.fitted;
        next_is = rw same_length r.next_is;
        low_is = rw alike-released r.low_is;
        marks_are = λ i. rw (alike-released, same_acknowledged (released_count b + i)) (r.marks_are i);
        sizes_long = r.sizes_long;
        slots_are =
            λ n l h. slot_same c c slots b b' n refl refl refl refl (rw (same_transactions, same_messages n))
            (r.slots_are n (rw alike-released at l) (rw same_length at h));
        built_is = rw (same_transactions, same_building) r.built_is;
        built_fits = r.built_fits;
        trans_next_is = rw same_transactions r.trans_next_is;
        trans_low_is = rw alike-low r.trans_low_is;
        finished_are = λ i. rw (alike-low, alike-finished (low_unfinished b + i)) (r.finished_are i);
        terms_long = r.terms_long;
        terms_are = λ i l h. terms i (r.terms_are i (rw alike-low at l) (rw same_transactions at h));
      }
    where
      terms : (i : ℕ) → TermsFor (sending_at c.sendings i) b i → TermsFor (sending_at c.sendings i) b' i
      terms i =
          terms-same (sending_at c.sendings i) (sending_at c.sendings i) b b' i refl
          (ap (λ (x : List Transaction). get_or x i no_transaction) same_transactions) (ap (count i) alike-added)
          (last-same (sending_at c.sendings i).frame.0 b b' i same_length (λ k. ap (count i) (same_taken k))
          (ap (count i) alike-added))

-- ---- sealing

module _ (c : Card) (slots : List ℕ) (b : Book) (r : CardFor c slots b) (s : Sound b) where
  pub built-some : eqb c.used 0 ≡ false → 0 < length b.building
  built-some q = go b.building r.built_is
    where
      go : (es : List MessageRecord) → Built c slots (map (wired b.transactions) es) → 0 < length es
      go [] k = absurd (true≢false (sym (eq-eqb c.used 0 k) ∙ q))
      go (e ∷ es) k = omega arith

  module _ (nonempty : eqb c.used 0 ≡ false) where
    some : 0 < length b.building
    some = built-some nonempty

    abbrev pub sealed-card : Card
    sealed-card = record {
      own = c.own;
      peer = c.peer;
      limit = c.limit;
      used = 0;
      last = 0;
      window = sealing c.window c.used;
      sendings = c.sendings;
    }

    pub seal-done : seal_frame c slots ≡ record { card = sealed-card; refusal = 0; number = c.window.next }
    unfolding seal_frame seal_refusal
    seal-done = rw (r.fitted, nonempty)

    abbrev b' : Book
    b' = enter_sealing b

    abbrev total : ℕ
    total = length b.frames

    abbrev new : FrameRecord
    new = new_frame b

    longer : length b'.frames ≡ suc total
    unfolding enter_sealing
    longer = omega (arith, length-append b.frames (new ∷ []))

    new-frame : frame_at b' total ≡ new
    unfolding enter_sealing
    new-frame = get_or-append_seam b.frames new [] no_frame

    old-frame : (n : ℕ) → n < total → frame_at b' n ≡ frame_at b n
    unfolding enter_sealing
    old-frame n h = get_or-append b.frames (new ∷ []) no_frame n h

    unsealed : (n : ℕ) → total ≤ n → (frame_at b n).acknowledged ≡ false
    unsealed n h = rw (get_or-eq_default b.frames no_frame h)

    acknowledged-same : (n : ℕ) → (frame_at b' n).acknowledged ≡ (frame_at b n).acknowledged
    acknowledged-same n = go (dec_lt n total) (ℕ_discrete n total)
      where
        go : Dec (n < total) → Dec (n ≡ total) → (frame_at b' n).acknowledged ≡ (frame_at b n).acknowledged
        go (yes h) d = rw (old-frame n h)
        go (no h) (yes q) = rw (unsealed n (omega arith), q, new-frame)
        go (no h) (no q) =
            let past : length b'.frames ≤ n = omega (arith, longer) in
            rw (unsealed n (omega arith), get_or-eq_default b'.frames no_frame past)

    released-same : released_count b' ≡ released_count b
    released-same =
        leading-is (λ k. (frame_at b' k).acknowledged) (length b'.frames) (released_count b)
        (omega (arith, longer, released-most c slots b r s))
        (λ i h. acknowledged-same i ∙ leading-holds (λ k. (frame_at b k).acknowledged) total i h)
        (λ h. acknowledged-same (released_count b) ∙ stop (dec_lt (released_count b) total))
      where
        stop : Dec (released_count b < total) → (frame_at b (released_count b)).acknowledged ≡ false
        stop (yes h) = leading-stops (λ k. (frame_at b k).acknowledged) total h
        stop (no n) = unsealed (released_count b) (omega arith)

    taken-same : (k : ℕ) → k ≤ total → messages_in any_frame (take k b'.frames)
        ≡ messages_in any_frame (take k b.frames)
    unfolding enter_sealing
    taken-same k h = ap (messages_in any_frame) (take-append-le k b.frames (new ∷ []) h)

    finished-same : (i : ℕ) → finished b' i ≡ finished b i
    unfolding finished enter_sealing
    finished-same i = rw (released-same, taken-same (released_count b) (released-most c slots b r s))

    low_same : low_unfinished b' ≡ low_unfinished b
    unfolding enter_sealing
    low_same = leading-ext (finished b') (finished b) (length b.transactions) finished-same

    added-same : added_messages b' ≡ added_messages b
    added-same = added-seal b

    -- ---- the slots

    slot-now : c.window.next.0 % 64 ≡ total % 64
    slot-now = ap (λ (n : ℕ). n % 64) r.next_is ∙ mod64 total

    abbrev sealed-bytes : List MessageRecord → List ℕ
    sealed-bytes es = framed c.own c.peer b.transactions total es

    in-slot : (es : List MessageRecord) → 0 < length es → Built c slots (map (wired b.transactions) es)
        → (c.used ≡ length (sealed-bytes es)) × (take (length (sealed-bytes es)) (slot_of c slots total)
        ≡ sealed-bytes es)
    in-slot [] h k = absurd (not-suc-le-zero h)
    in-slot (e ∷ es) h k =
        (rw r.next_is at k.0, rw (r.next_is, mod64 total) at k.2)

    new-slot : SlotFor sealed-card slots b' total
    unfolding sealing enter_sealing
    new-slot =
        let f = in-slot b.building some r.built_is in
        let es : (frame_at b' total).messages ≡ b.building = ap (λ (x : FrameRecord). x.messages) new-frame in
        let size : get_or (set c.window.sizes (c.window.next.0 % 64) c.used) (total % 64) 0 ≡ c.used =
        read_set c.window.sizes (c.window.next.0 % 64) (total % 64) c.used 0 slot-now
        (rw r.sizes_long (mod-lt total (lit< tt))) in
        record {
          size_is = rw es (size ∙ f.0);
          size_fits = rw es (omega (arith, r.built_fits, f.0));
          bytes_are = rw es f.1;
        }

    old-slot : (n : ℕ) → released_count b ≤ n → n < total → SlotFor sealed-card slots b' n
    unfolding sealing enter_sealing
    old-slot n l h =
        slot_same c sealed-card slots b b' n refl refl refl
        (read-other c.window.sizes (c.window.next.0 % 64) (total % 64) (n % 64) c.used 0 slot-now
        (slots-differ64 (released_count b) n total l h (s.building_fits some)))
        (ap (λ (x : FrameRecord). map (wired b.transactions) x.messages) (old-frame n h)) (r.slots_are n l h)

    -- ---- the transactions

    all-frames : (k i : ℕ) → length b'.frames ≤ k → in_first b' i k ≡ in_all b' i
    unfolding enter_sealing
    all-frames k i u = rw (take_all k b'.frames u, append-nil (messages_in any_frame b'.frames))

    last-kept : (x i : ℕ) → LastMessageIn x b i → LastMessageIn x b' i
    last-kept x i f =
        record {
          frame = f.frame;
          is_number = f.is_number;
          at_most = omega (arith, longer, f.at_most);
          all_before = λ k p u. before k p (dec_le k total);
          not_before = λ k p. rw (taken-same k (omega (arith, f.at_most)), added-same) (f.not_before k p);
        }
      where
        before : (k : ℕ) → f.frame < k → Dec (k ≤ total) → in_first b' i k ≡ in_all b' i
        before k p (yes u) = rw (taken-same k u, added-same) (f.all_before k p u)
        before k p (no n) = all-frames k i (omega (arith, longer))

    terms-kept : (i : ℕ) → TermsFor (sending_at c.sendings i) b i → TermsFor (sending_at c.sendings i) b' i
    unfolding enter_sealing
    terms-kept i =
        terms-same (sending_at c.sendings i) (sending_at c.sendings i) b b' i refl refl (ap (count i) added-same)
        (last-kept (sending_at c.sendings i).frame.0 i)

    pub card-sealed : CardFor sealed-card slots b'
    unfolding sealing enter_sealing advance
    card-sealed =
        record {
          fitted = r.fitted;
          next_is = rw (r.next_is, longer) (omega arith);
          low_is = rw released-same r.low_is;
          marks_are = λ i. rw (released-same, acknowledged-same (released_count b + i)) (r.marks_are i);
          sizes_long = length-set c.window.sizes (c.window.next.0 % 64) c.used ∙ r.sizes_long;
          slots_are = λ n l h. slot n (rw released-same at l) (rw longer at h) (ℕ_discrete total n);
          built_is = refl;
          built_fits = omega arith;
          trans_next_is = r.trans_next_is;
          trans_low_is = rw low_same r.trans_low_is;
          finished_are = λ i. rw (low_same, finished-same (low_unfinished b + i)) (r.finished_are i);
          terms_long = r.terms_long;
          terms_are = λ i l h. terms-kept i (r.terms_are i (rw low_same at l) h);
        }
      where
        slot : (n : ℕ) → released_count b ≤ n → n < suc total → Dec (total ≡ n) → SlotFor sealed-card slots b' n
        slot n l h (yes q) = subst (SlotFor sealed-card slots b') q new-slot
        slot n l h (no q) = old-slot n l (omega arith)

-- ---- showing and choosing

module _ (c : Card) (slots : List ℕ) (b : Book) (r : CardFor c slots b) (s : Sound b) where
  -- what is handed out of a frame that is sealed and not released is that frame
  pub frame_is : (n : ℕ) → released_count b ≤ n → n < length b.frames → frame_in c slots (n % frame_space)
      ≡ frame_bytes c b n
  frame_is n l h =
      let o : SlotFor c slots b n = r.slots_are n l h in
      frame-in c slots (n % frame_space) (length (frame_bytes c b n)) r.fitted (rw (mod64 n) o.size_is) o.size_fits
      ∙ rw (mod64 n) o.bytes_are

  -- a shown number and the frame it means
  pub shown-is : (num : ℕ) → num < frame_space → held c.window num ≡ true
      → (n : ℕ) × (num ≡ n % frame_space) × (released_count b ≤ n) × (n < length b.frames)
  shown-is num h q =
      held-is c.window (released_count b) (length b.frames) (released-most c slots b r s) s.frames_fit r.low_is
      r.next_is num h q

  pub chosen_is : ltb 0 (unreleased c.window) ≡ true
      → (c.window.base.0 ≡ released_count b % frame_space) × (released_count b < length b.frames)
  chosen_is q = (r.low_is, omega (arith, ltb-true 0 (unreleased c.window) q, unreleased-is c slots b r s))

  -- the lowest sealed frame not released is never acknowledged, so it is the oldest held one
  pub none_before : before_held c.window ≡ 0
  none_before = none-before-held c.window clear
    where
      clear : 0 < unreleased c.window → mark c.window.acked 0 ≡ false
      clear h =
          r.marks_are 0
          ∙ rw (add-zero (released_count b)) (leading-stops (λ k. (frame_at b k).acknowledged) (length b.frames)
          (omega (arith, unreleased-is c slots b r s)))

  pub oldest-is : oldest_held c.window ≡ released_count b % frame_space
  oldest-is = oldest-base c.window (rw r.low_is (omega arith)) none_before ∙ r.low_is
