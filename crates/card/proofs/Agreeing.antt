-- What it means that a card agrees with the history of the calls on it, and that each step keeps this so. Where a step
-- releases frames, its test of a transaction comes to the rules' sentence on the history.
-- Assumes nothing.
use Prim.Native.Nat.{ℕ, suc, ◌+◌, ◌-◌, ◌%◌, ◌≤◌, ◌<◌}
use native.Mathlib.Nat.{mod-add-mod}
use native.Mathlib.Decide.{dec_lt, ℕ_discrete}
use native.Mathlib.Omega.{arith}
use mathlib.Core.Path.{◌≡◌, refl, sym, ap, ◌∙◌}
use mathlib.Core.Bool.{Bool, true, false, ◌&&◌, and-false, and-eq-true_iff}
use mathlib.Core.List.{List, [], ◌∷◌}
use borrow.Author.Tests.{ltb-true, ltb-false, lt-ltb, le-ltb, eq-eqb, ne_eqb}
use lib.Dec.{eqb, ltb, lit<}
use lib.ListN.{length, get_or, set, drop, length-set, length-append, get_or-append, get_or-eq_default}
use lib.Seq.{get_or-set_same, get_or-set_other, get_or-append_seam}
use Rattle.seq.specs.Ring.{frame_space, trans_space, distance, advance, latest}
use Rattle.seq.proofs.Ring.{latest-is, advance-distance}
use Rattle.bitmap.specs.Marks.{mark, leading}
use Rattle.bitmap.proofs.Marks.{leading_le, leading-holds, leading-ge}
use Rattle.wire.specs.Format.{needed}
use Rattle.wire.proofs.Format.{needed-pos}
use Rattle.card.specs.declared.SendWindow.{SendWindow}
use Rattle.card.specs.Window.{unreleased, sealing, acknowledging, releasing}
use Rattle.card.specs.declared.Sending.{Sending}
use Rattle.card.specs.declared.Sendings.{Sendings}
use Rattle.card.specs.Sendings.{
  no_sending,
  opened,
  sending_at,
  opening_refusal,
  opening,
  takes,
  one_added,
  adding,
  all_released,
  passing,
  finishing,
}
use Rattle.card.specs.declared.Card.{Card}
use Rattle.card.specs.Card.{
  open_transaction,
  add_refusal,
  with_message,
  add_message,
  seal_refusal,
  seal_frame,
  acknowledged,
}
use Rattle.card.specs.Reachable.{Reachable}
use Rattle.card.specs.History.{
  opens,
  adds,
  seals,
  Sent,
  History,
  sent_at,
  with_frame,
  added_to,
  enter,
  all_below,
  finished_in,
}
use Rattle.card.proofs.Adding.{takes-opened, takes-lacks}
use Rattle.card.proofs.Window.{unreleased-is}
use Rattle.card.proofs.Finishing.{
  not-all-released,
  all-released-is,
  opened-is,
  taking-is,
  lowest-after,
  finished-after,
}
use Rattle.card.proofs.Keeping.{released-and-left}
use Rattle.card.proofs.Slots.{addable}

-- ---- finished in the history

abbrev sent : ℕ → List ℕ → Sent
sent count frames = record { count = count; frames = frames }

-- A message is missing; all are added and in released frames; the latest is not, or an earlier one; a bare message is
-- missing, and is there.
pub history-edges : (finished_in 9 (sent 2 (3 ∷ [])) ≡ false) × (finished_in 9 (sent 2 (8 ∷ 3 ∷ [])) ≡ true)
    × (finished_in 8 (sent 2 (8 ∷ 3 ∷ [])) ≡ false) × (finished_in 9 (sent 2 (3 ∷ 9 ∷ [])) ≡ false)
    × (finished_in 9 (sent 0 []) ≡ false) × (finished_in 9 (sent 0 (8 ∷ [])) ≡ true)
unfolding finished_in all_below needed
history-edges = (refl, refl, refl, refl, refl, refl)

below_more : (n m : ℕ) (xs : List ℕ) → n ≤ m → all_below n xs ≡ true → all_below m xs ≡ true
unfolding all_below
below_more n m [] h e = refl
below_more n m (x ∷ xs) h e =
    let both = (and-eq-true_iff (ltb x n) (all_below n xs)).0 e in
    rw (lt-ltb x m (omega (arith, ltb-true x n both.0))) (below_more n m xs h both.1)

-- where none lies in a frame after f, the frame f decides
below-latest : (n f : ℕ) (fs : List ℕ) → all_below (suc f) fs ≡ true → all_below n (f ∷ fs) ≡ ltb f n
unfolding all_below
below-latest n f fs e = go (dec_lt f n)
  where
    go : Dec (f < n) → (ltb f n && all_below n fs) ≡ ltb f n
    go (yes h) = rw (lt-ltb f n h) (below_more (suc f) n fs h e)
    go (no h) = rw (le-ltb f n (omega arith))

module _ (n : ℕ) (d : Sent) where
  lacking : length d.frames < needed d.count → finished_in n d ≡ false
  unfolding finished_in
  lacking h = rw (ne_eqb (length d.frames) (needed d.count) (omega arith))

  with_all : length d.frames ≡ needed d.count → finished_in n d ≡ all_below n d.frames
  unfolding finished_in
  with_all h = rw (eq-eqb (length d.frames) (needed d.count) h)

  stays-finished : (m : ℕ) → n ≤ m → finished_in n d ≡ true → finished_in m d ≡ true
  unfolding finished_in
  stays-finished m h e =
      let both = (and-eq-true_iff (eqb (length d.frames) (needed d.count)) _).0 e in
      rw both.0 (below_more n m d.frames h both.1)

-- one of which no message is added
pub none-finished : (n count : ℕ) → finished_in n (record { count = count; frames = [] }) ≡ false
none-finished n count = lacking n (record { count = count; frames = [] }) (needed-pos count)

-- nor one whose latest message is in a frame that is not released
waiting : (n count f : ℕ) (fs : List ℕ) → n ≤ f → finished_in n (record { count = count; frames = f ∷ fs }) ≡ false
unfolding finished_in all_below
waiting n count f fs h = rw (le-ltb f n h) (and-false (eqb (suc (length fs)) (needed count)))

-- ---- the card and its history

-- What the card keeps of a transaction. Of the frames it keeps the latest, and no other message lies in a later one.
pub record Kept (e : Sending) (d : Sent) (sealed : ℕ) : Type 0 where
  pub count-is : e.count ≡ d.count
  pub added_is : e.added ≡ length d.frames
  pub latest-is : (f : ℕ) (fs : List ℕ) → d.frames ≡ f ∷ fs
      → (e.frame.0 ≡ f % frame_space) × (f ≤ sealed) × (all_below (suc f) fs ≡ true)

kept-as : (e e' : Sending) (d d' : Sent) (n : ℕ) → e ≡ e' → d ≡ d' → Kept e' d' n → Kept e d n
kept-as e e' d d' n p q k = rw (p, q) k

-- none of its messages lies in a frame after the one being built
none-later : (e : Sending) (d : Sent) (n : ℕ) → Kept e d n → all_below (suc n) d.frames ≡ true
unfolding all_below
none-later e d n k = go d.frames refl
  where
    go : (xs : List ℕ) → d.frames ≡ xs → all_below (suc n) xs ≡ true
    go [] q = refl
    go (f ∷ fs) q =
        let l = k.latest-is f fs q in
        below-latest (suc n) f fs l.2 ∙ lt-ltb f (suc n) (omega (arith, l.1))

-- A card agrees with a history: `low` transactions lie below its lowest unfinished one, and it has released `released`
-- frames.
pub record Agrees (c : Card) (h : History) : Type 0 where
  pub low : ℕ
  pub released : ℕ
  pub reach : Reachable c
  -- its numbers are those of counts, with windows of 32 transactions and 64 frames
  pub low-most : low ≤ length h.sent
  pub trans-few : length h.sent ≤ low + 32
  pub lowest-is : c.sendings.lowest.0 ≡ low % trans_space
  pub next-is : c.sendings.next.0 ≡ length h.sent % trans_space
  pub released-most : released ≤ h.sealed
  pub frames-few : h.sealed ≤ released + 64
  pub base-is : c.window.base.0 ≡ released % frame_space
  pub sealed-is : c.window.next.0 ≡ h.sealed % frame_space
  -- the transactions below the lowest unfinished one are finished, and of the others those that have a mark
  pub below : (i : ℕ) → i < low → finished_in released (sent_at h i) ≡ true
  pub marks : (i : ℕ) → mark c.sendings.finished i ≡ finished_in released (sent_at h (low + i))
  -- and it keeps these
  pub entries : (i : ℕ) → low ≤ i → i < length h.sent → Kept (sending_at c.sendings i) (sent_at h i) h.sealed

-- ---- opening a transaction

module _ (c : Card) (h : History) (r : Agrees c h) (count address value : ℕ) (room : opened c.sendings < 32) where
  abbrev total : ℕ
  total = length h.sent

  abbrev more : History
  more = enter h (opens count address value)

  abbrev opened-more : Sendings
  opened-more = opening c.sendings count address value

  free : total < r.low + 32
  free =
      omega (arith, opened-is c.sendings r.low total r.low-most r.trans-few r.lowest-is r.next-is)

  longer : length more.sent ≡ suc total
  unfolding enter
  longer = length-append h.sent _ ∙ omega arith

  sent-old : (i : ℕ) → i < total → sent_at more i ≡ sent_at h i
  unfolding enter
  sent-old i l = get_or-append h.sent _ _ i l

  sent-new : sent_at more total ≡ record { count = count; frames = [] }
  unfolding enter
  sent-new = get_or-append_seam h.sent _ [] _

  -- the new one is not finished
  finished-same : (i : ℕ) → finished_in r.released (sent_at more i) ≡ finished_in r.released (sent_at h i)
  finished-same i = go (dec_lt i total) (ℕ_discrete i total)
    where
      none : total ≤ i → finished_in r.released (sent_at h i) ≡ false
      none l =
          ap (finished_in r.released) (get_or-eq_default h.sent _ l) ∙ none-finished r.released 0

      go : Dec (i < total) → Dec (i ≡ total)
          → finished_in r.released (sent_at more i) ≡ finished_in r.released (sent_at h i)
      go (yes l) q = ap (finished_in r.released) (sent-old i l)
      go (no l) (yes q) =
          ap (λ (k : ℕ). finished_in r.released (sent_at more k)) q
          ∙ ap (finished_in r.released) sent-new
          ∙ none-finished r.released count
          ∙ sym (none (omega arith))
      go (no l) (no q) =
          ap (finished_in r.released) (get_or-eq_default more.sent _ (omega (arith, longer)))
          ∙ none-finished r.released 0 ∙ sym (none (omega arith))

  entry_old : (i : ℕ) → r.low ≤ i → i < total → sending_at opened-more i ≡ sending_at c.sendings i
  unfolding opening
  entry_old i l u =
      get_or-set_other c.sendings.table (c.sendings.next.0 % 32) (i % 32) _ no_sending
      (λ e. omega (arith, r.next-is, free))

  entry_new : sending_at opened-more total
      ≡ record { address = address; value = value; count = count; added = 0; frame = record { 0 = 0 } }
  unfolding opening
  entry_new =
      let e : total % 32 ≡ c.sendings.next.0 % 32 = omega (arith, r.next-is) in
      rw e
      (get_or-set_same c.sendings.table (c.sendings.next.0 % 32) _ no_sending
      (omega (arith, r.reach.sendings.entries)))

  new-kept : Kept (record { address = address; value = value; count = count; added = 0; frame = record { 0 = 0 } })
      (record { count = count; frames = [] }) h.sealed
  new-kept =
      record { count-is = refl; added_is = refl; latest-is = λ f fs e. absurd (omega (arith, ap (length {A = ℕ}) e)) }

  kept-open : (i : ℕ) → r.low ≤ i → i < length more.sent → Dec (i ≡ total)
      → Kept (sending_at opened-more i) (sent_at more i) h.sealed
  kept-open i l u (yes q) =
      kept-as _ _ _ _ h.sealed (ap (sending_at opened-more) q ∙ entry_new) (ap (sent_at more) q ∙ sent-new) new-kept
  kept-open i l u (no q) =
      let k : i < total = omega (arith, longer) in
      kept-as _ _ _ _ h.sealed (entry_old i l k) (sent-old i k) (r.entries i l k)

  pub opening-agrees : Reachable (open_transaction c count address value).card
      → Agrees (open_transaction c count address value).card more
  unfolding open_transaction opening_refusal opening advance enter
  opening-agrees q =
      let z = lt-ltb (opened c.sendings) 32 room in
      rw z (record {
        low = r.low;
        released = r.released;
        reach = rw z at q;
        low-most = omega (arith, longer, r.low-most);
        trans-few = omega (arith, longer, free);
        lowest-is = r.lowest-is;
        next-is = omega (arith, longer, r.next-is);
        released-most = r.released-most;
        frames-few = r.frames-few;
        base-is = r.base-is;
        sealed-is = r.sealed-is;
        below = λ i l. finished-same i ∙ r.below i l;
        marks = λ i. r.marks i ∙ sym (finished-same (r.low + i));
        entries = λ i l u. kept-open i l u (ℕ_discrete i total);
      })

-- ---- adding a message

module _ (c : Card) (h : History) (r : Agrees c h) (slots : List ℕ) (t at : ℕ) (bytes : List ℕ) (typed : t < trans_space)
    (ok : add_refusal c slots t bytes ≡ 0) where
  takes_one : takes c.sendings t ≡ true
  takes_one = (addable c slots t bytes ok).takes-more

  -- the transaction meant
  abbrev its : ℕ
  its = r.low + distance trans_space c.sendings.lowest.0 t

  meant : (its < length h.sent) × (its % trans_space ≡ t)
  meant =
      taking-is c.sendings r.low (length h.sent) r.low-most r.trans-few r.lowest-is r.next-is t
      typed (takes-opened c.sendings t takes_one)

  its-entry : t % 32 ≡ its % 32
  its-entry = let z : its % trans_space % 32 ≡ its % 32 = omega arith in rw meant.1 at z

  latest-its : latest trans_space (length h.sent) t ≡ its
  latest-its =
      ap (latest trans_space (length h.sent)) (sym meant.1)
      ∙ latest-is trans_space (lit< tt) (length h.sent) its meant.0 (omega (arith, r.trans-few))

  abbrev with-one : History
  with-one = added_to h its

  pub entered : enter h (adds slots t at bytes) ≡ with-one
  unfolding enter
  entered = ap (added_to h) latest-its

  sent-its : sent_at with-one its ≡ with_frame h its
  sent-its = get_or-set_same h.sent its (with_frame h its) _ meant.0

  sent-other : (i : ℕ) → (i ≡ its → ⊥) → sent_at with-one i ≡ sent_at h i
  sent-other i q = get_or-set_other h.sent its i (with_frame h its) _ q

  its-is : sending_at c.sendings t ≡ sending_at c.sendings its
  its-is = ap (λ (n : ℕ). get_or c.sendings.table n no_sending) its-entry

  kept-its : Kept (sending_at c.sendings t) (sent_at h its) h.sealed
  kept-its = rw its-is (r.entries its (omega arith) meant.0)

  -- it was not finished, and is not while its latest message is in the frame being built
  finished-as-before : (i : ℕ) → Dec (i ≡ its)
      → finished_in r.released (sent_at with-one i) ≡ finished_in r.released (sent_at h i)
  finished-as-before i (no q) = ap (finished_in r.released) (sent-other i q)
  finished-as-before i (yes q) =
      ap (λ (k : ℕ). finished_in r.released (sent_at with-one k)) q
      ∙ ap (finished_in r.released) sent-its
      ∙ waiting r.released (sent_at h its).count h.sealed (sent_at h its).frames r.released-most
      ∙ sym (ap (λ (k : ℕ). finished_in r.released (sent_at h k)) q ∙ lacking r.released (sent_at h its) lacks)
    where
      lacks : length (sent_at h its).frames < needed (sent_at h its).count
      lacks =
          omega (arith, takes-lacks c.sendings t takes_one, kept-its.added_is, ap needed kept-its.count-is)

  abbrev table_more : List Sending
  table_more = set c.sendings.table (t % 32) (one_added (sending_at c.sendings t) c.window.next.0)

  one_kept : Kept (one_added (sending_at c.sendings t) c.window.next.0) (with_frame h its) h.sealed
  one_kept =
      record {
        count-is = kept-its.count-is;
        added_is = ap suc kept-its.added_is;
        latest-is = λ f fs e.
            let here : h.sealed ≡ f = ap (λ (xs : List ℕ). get_or xs 0 0) e in
            let rest : (sent_at h its).frames ≡ fs = ap (drop 1) e in (
              r.sealed-is ∙ ap (λ (n : ℕ). n % frame_space) here,
              omega arith,
              rw (← here, ← rest) (none-later (sending_at c.sendings t) (sent_at h its) h.sealed kept-its),
            );
      }

  kept-added : (i : ℕ) → r.low ≤ i → i < length h.sent → Dec (i ≡ its)
      → Kept (get_or table_more (i % 32) no_sending) (sent_at with-one i) h.sealed
  kept-added i l u (yes q) =
      let e : i % 32 ≡ t % 32 = omega (arith, its-entry) in
      kept-as _ _ _ _ h.sealed
      (ap (λ (n : ℕ). get_or table_more n no_sending) e
      ∙ get_or-set_same c.sendings.table (t % 32) _ no_sending (omega (arith, r.reach.sendings.entries)))
      (ap (sent_at with-one) q ∙ sent-its)
      one_kept
  kept-added i l u (no q) =
      kept-as _ _ _ _ h.sealed
      (get_or-set_other c.sendings.table (t % 32) (i % 32) _ no_sending
      (λ e. omega (arith, its-entry, meant.0, r.trans-few)))
      (sent-other i q) (r.entries i l u)

  pub adding-agrees : Reachable (add_message c slots t at bytes).step.card
      → Agrees (add_message c slots t at bytes).step.card with-one
  unfolding add_message with_message adding
  adding-agrees q =
      rw (ok, takes_one) (record {
        low = r.low;
        released = r.released;
        reach = rw (ok, takes_one) at q;
        low-most = omega (arith, same_length, r.low-most);
        trans-few = omega (arith, same_length, r.trans-few);
        lowest-is = r.lowest-is;
        next-is = rw same_length r.next-is;
        released-most = r.released-most;
        frames-few = r.frames-few;
        base-is = r.base-is;
        sealed-is = r.sealed-is;
        below = λ i l. finished-as-before i (ℕ_discrete i its) ∙ r.below i l;
        marks = λ i. r.marks i ∙ sym (finished-as-before (r.low + i) (ℕ_discrete (r.low + i) its));
        entries = λ i l u. kept-added i l (omega (arith, same_length)) (ℕ_discrete i its);
      })
    where
      same_length : length with-one.sent ≡ length h.sent
      same_length = length-set h.sent its (with_frame h its)

-- ---- sealing

kept-longer : (e : Sending) (d : Sent) (n : ℕ) → Kept e d n → Kept e d (suc n)
kept-longer e d n k =
    record {
      count-is = k.count-is;
      added_is = k.added_is;
      latest-is = λ f fs q. let l = k.latest-is f fs q in (l.0, omega (arith, l.1), l.2);
    }

pub sealing-agrees : (c : Card) (h : History) (slots : List ℕ) → Agrees c h → seal_refusal c slots ≡ 0
    → Reachable (seal_frame c slots).card → Agrees (seal_frame c slots).card (enter h (seals slots))
unfolding seal_frame sealing advance distance enter
sealing-agrees c h slots r ok q =
    let sound = rw ok at q in
    rw ok (record {
      low = r.low;
      released = r.released;
      reach = sound;
      low-most = r.low-most;
      trans-few = r.trans-few;
      lowest-is = r.lowest-is;
      next-is = r.next-is;
      released-most = omega (arith, r.released-most);
      frames-few = omega (arith, sound.window.few, r.base-is, r.sealed-is, r.released-most, r.frames-few);
      base-is = r.base-is;
      sealed-is = omega (arith, r.sealed-is);
      below = r.below;
      marks = r.marks;
      entries = λ i l u. kept-longer _ _ _ (r.entries i l u);
    })

-- ---- reading acknowledgements

module _ (c : Card) (h : History) (r : Agrees c h) (start count : ℕ) where
  abbrev left : SendWindow
  left = acknowledging c.window start count

  abbrev many : ℕ
  many = distance frame_space c.window.base.0 left.base.0

  -- how many frames are released then
  abbrev released-now : ℕ
  released-now = r.released + many

  parts_are : many + unreleased left ≡ unreleased c.window
  parts_are = released-and-left c.window c.limit start count r.reach.window

  unreleased-were : unreleased c.window ≡ h.sealed - r.released
  unreleased-were =
      unreleased-is c.window r.released h.sealed r.released-most r.frames-few r.base-is r.sealed-is

  module _ (sound : Reachable (acknowledged c start count)) where
    fits : left.base.0 < frame_space
    unfolding acknowledged
    fits = sound.window.base-fits

    base-now : left.base.0 ≡ released-now % frame_space
    unfolding advance
    base-now =
        sym (advance-distance frame_space (lit< tt) c.window.base.0 left.base.0 r.reach.window.base-fits
        fits)
        ∙ ap (λ (n : ℕ). (n + many) % frame_space) r.base-is ∙ mod-add-mod r.released frame_space many

    abbrev was : ℕ → Bool
    was i = finished_in r.released (sent_at h i)

    abbrev is : ℕ → Bool
    is i = finished_in released-now (sent_at h i)

    stays : (i : ℕ) → was i ≡ true → is i ≡ true
    stays i = stays-finished r.released (sent_at h i) released-now (omega arith)

    never-opened : (i : ℕ) → length h.sent ≤ i → is i ≡ false
    never-opened i l =
        ap (finished_in released-now) (get_or-eq_default h.sent _ l) ∙ none-finished released-now 0

    -- an opened one that was not finished
    now : (i : ℕ) → r.low ≤ i → i < length h.sent → was i ≡ false
        → all_released (sending_at c.sendings i) c.window.base.0 left.base.0 ≡ is i
    now i l u f = go (dec_lt e.added (needed e.count))
      where
        e : Sending
        e = sending_at c.sendings i

        d : Sent
        d = sent_at h i

        k : Kept e d h.sealed
        k = r.entries i l u

        -- with all messages added the frame of the latest decides
        by-latest : e.added ≡ needed e.count → (xs : List ℕ) → d.frames ≡ xs
            → all_released e c.window.base.0 left.base.0 ≡ is i
        by-latest full xs q = latest xs q
          where
            all : length d.frames ≡ needed d.count
            all = omega (arith, full, k.added_is, ap needed k.count-is)

            latest : (xs : List ℕ) → d.frames ≡ xs → all_released e c.window.base.0 left.base.0 ≡ is i
            latest [] q = absurd (omega (arith, ap (length {A = ℕ}) q, all, needed-pos d.count))
            latest (x ∷ xs) q =
                let z = k.latest-is x xs q in
                let decides : (n : ℕ) → finished_in n d ≡ ltb x n =
                λ n. with_all n d all ∙ ap (all_below n) q ∙ below-latest n x xs z.2 in
                let not_yet : r.released ≤ x = ltb-false x r.released (sym (decides r.released) ∙ f) in
                all-released-is e c.window.base.0 left.base.0 r.released released-now x full z.0
                r.base-is base-now not_yet (omega (arith, z.1, r.frames-few)) (omega arith)
                (omega (arith, parts_are, r.reach.window.few))
                ∙ sym (decides released-now)

        go : Dec (e.added < needed e.count) → all_released e c.window.base.0 left.base.0 ≡ is i
        go (yes lacks) =
            not-all-released e c.window.base.0 left.base.0 lacks
            ∙ sym (lacking released-now d (omega (arith, k.added_is, ap needed k.count-is)))
        go (no lacks) =
            by-latest (omega (arith, (r.reach.sendings.each (i % 32)).added-most)) d.frames refl

    abbrev low-now : ℕ
    low-now = leading is (length h.sent)

    finished-below : (i : ℕ) → i < r.low → is i ≡ true
    finished-below i l = stays i (r.below i l)

    low-more : r.low ≤ low-now
    low-more = leading-ge is (length h.sent) r.low r.low-most finished-below

    pub reading-agrees : Agrees (acknowledged c start count) h
    unfolding acknowledged acknowledging releasing finishing passing
    reading-agrees =
        record {
          low = low-now;
          released = released-now;
          reach = sound;
          low-most = leading_le is (length h.sent);
          trans-few = omega (arith, low-more, r.trans-few);
          lowest-is = lowest-after c.sendings r.low (length h.sent) r.low-most r.trans-few r.lowest-is
              r.next-is c.window.base.0 left.base.0 was is r.marks finished-below stays now never-opened;
          next-is = r.next-is;
          released-most = omega (arith, parts_are, unreleased-were, r.released-most);
          frames-few = omega (arith, r.frames-few);
          base-is = base-now;
          sealed-is = r.sealed-is;
          below = leading-holds is (length h.sent);
          marks = finished-after c.sendings r.low (length h.sent) r.low-most r.trans-few r.lowest-is
              r.next-is c.window.base.0 left.base.0 was is r.marks finished-below stays now never-opened;
          entries = λ i l u. r.entries i (omega (arith, low-more)) u;
        }
