-- Adding a message that the card does not refuse, against the book.
-- Assumes nothing.
use Prim.Native.Nat.{ℕ, suc, ◌+◌, ◌*◌, ◌%◌, ◌≤◌, ◌<◌}
use native.Mathlib.Nat.{mod-lt}
use native.Mathlib.Decide.{ℕ_discrete}
use native.Mathlib.Omega.{arith}
use mathlib.Core.Path.{◌≡◌, refl, sym, ap, ◌∙◌, subst}
use mathlib.Core.Logic.{◌≢◌}
use mathlib.Core.Bool.{true, false}
use mathlib.Core.List.{List, [], ◌∷◌, ◌++◌, map, map-append}
use borrow.Author.Tests.{ltb-false, leb-false, eq-eqb}
use lib.Dec.{ltb, lit<}
use lib.ListN.{length, get_or, set, take, length-set}
use lib.Seq.{take_all}
use Rattle.seq.specs.Ring.{frame_space, trans_space, distance, in_range, latest}
use Rattle.seq.proofs.Ring.{latest-is, same_count}
use Rattle.wire.specs.Format.{Message, needed}
use Rattle.card.specs.Window.{unreleased}
use Rattle.card.specs.declared.Sending.{Sending}
use Rattle.card.specs.Sendings.{no_sending, opened, sending_at, one_added, adding}
use Rattle.card.proofs.Adding.{takes-opened, takes-lacks}
use Rattle.card.proofs.Finishing.{taking-is}
use Rattle.card.specs.declared.Card.{Card}
use Rattle.card.specs.Card.{fits, header_offset, add_refusal, message_of, built_slots, with_message, add_message}
use Rattle.card.proofs.Slots.{Built, Addable, addable, room_in, buffer-long, length-slots, other-slot, built-more}
use Rattle.delivery.specs.Book.{
  Book,
  MessageRecord,
  FrameRecord,
  messages_in,
  any_frame,
  of_transaction,
  transaction_at,
  released_count,
  added_messages,
  finished,
  enter_message,
}
use Rattle.delivery.proofs.Book.Counts.{count, count-append, count-take}
use Rattle.delivery.proofs.Book.Writes.{of_transaction-cons-same, of_transaction-cons-other}
use Rattle.delivery.proofs.Book.Sound.{Sound, low_unfinished}
use Rattle.delivery.proofs.Book.Steps.{with_added, added-add, sound-adding}
use Rattle.delivery.proofs.Host.HostStep.{wired, read_set, read-other, slots-differ}
use Rattle.delivery.proofs.Card.CardFor.{
  in_first,
  in_all,
  LastMessageIn,
  TermsFor,
  SlotFor,
  frame_bytes,
  CardFor,
  unreleased-is,
  low-most,
  terms-same,
}

-- the slots of two frames less than 64 apart
pub slots-differ64 : (a i t : ℕ) → a ≤ i → i < t → t < a + 64 → i % 64 ≢ t % 64
slots-differ64 a i t h₁ h₂ h₃ q = let z : i ≡ t = same_count 64 (lit< tt) i t (omega arith) (omega arith) q in
    omega arith

pub mod64 : (n : ℕ) → n % frame_space % 64 ≡ n % 64
mod64 n = omega arith

module _ (c : Card) (slots : List ℕ) (b : Book) (r : CardFor c slots b) (s : Sound b) (t at : ℕ) (bytes : List ℕ)
    (t_fits : t < trans_space) (ok : add_refusal c slots t bytes ≡ 0) where
  may : Addable c slots t bytes
  may = addable c slots t bytes ok

  -- ---- the transaction meant, and the message

  abbrev pub i : ℕ
  i = low_unfinished b + distance trans_space c.sendings.lowest.0 t

  abbrev pub e : MessageRecord
  e = record { trans = i; data_address = at; bytes = bytes }

  abbrev told : Sending
  told = sending_at c.sendings t

  abbrev total : ℕ
  total = length b.transactions

  in-range : in_range trans_space c.sendings.lowest.0 (opened c.sendings) t ≡ true
  in-range = takes-opened c.sendings t may.takes-more

  few : told.added < needed told.count
  few = takes-lacks c.sendings t may.takes-more

  meant : (i < total) × (i % trans_space ≡ t)
  meant =
      taking-is c.sendings (low_unfinished b) total (low-most c slots b r s) s.trans_fit r.trans_low_is
      r.trans_next_is
      t t_fits in-range

  pub i-open : i < total
  i-open = meant.0

  pub t-is : i % trans_space ≡ t
  t-is = meant.1

  entry-is : t % 32 ≡ i % 32
  entry-is = let z : i % trans_space % 32 ≡ i % 32 = omega arith in rw t-is at z

  told_is : told ≡ sending_at c.sendings i
  told_is = ap (λ (n : ℕ). get_or c.sendings.table n no_sending) entry-is

  terms-for : TermsFor told b i
  terms-for = rw told_is (r.terms_are i (omega arith) i-open)

  room : in_all b i < needed (transaction_at b i).count
  room = omega (arith, few, terms-for.added_is, ap needed terms-for.count_is)

  bare : (transaction_at b i).count ≡ 0 → bytes ≡ []
  bare z = go bytes (rw (eq-eqb told.count 0 (terms-for.count_is ∙ z)) at may.bare-empty)
    where
      go : (bs : List ℕ) → ltb 0 (length bs) ≡ false → bs ≡ []
      go [] q = refl
      go (x ∷ xs) q = absurd (omega (arith, ltb-false 0 (length (x ∷ xs)) q))

  slot-free : length b.frames < released_count b + 64
  slot-free = omega (arith, leb-false 64 (unreleased c.window) may.slot-free, unreleased-is c slots b r s)

  pub added-sound : Sound (with_added b e)
  added-sound = sound-adding b s e i-open room bare slot-free

  -- the book enters this very message
  pub entered : enter_message b t at bytes ≡ with_added b e
  unfolding enter_message
  entered =
      ap (λ (k : ℕ). with_added b (record { trans = k; data_address = at; bytes = bytes }))
      (ap (latest trans_space total) (sym t-is)
      ∙ latest-is trans_space (lit< tt) total i i-open (omega (arith, s.trans_fit)))

  -- ---- the step

  abbrev pub m : Message
  m = message_of c t at bytes

  m-is : m ≡ wired b.transactions e
  unfolding message_of
  m-is = rw (terms-for.count_is, terms-for.address_is, terms-for.value_is, t-is)

  abbrev pub added-card : Card
  added-card = with_message c t bytes

  abbrev pub added-slots : List ℕ
  added-slots = built_slots c slots m

  pub add_done : add_message c slots t at bytes
      ≡ record { step = record { card = added-card; refusal = 0 }; slots = added-slots }
  unfolding add_message
  add_done = rw ok

  pub fits-slot : header_offset c + 24 + length bytes ≤ c.limit
  fits-slot = room_in c slots t bytes may

  -- ---- counts of messages

  none : (k : ℕ) → count k [] ≡ 0
  unfolding of_transaction
  none k = refl

  all-now : (k : ℕ) → in_all (with_added b e) k ≡ in_all b k + count k (e ∷ [])
  all-now k = ap (count k) (added-add b s e i-open room bare slot-free) ∙ count-append k (added_messages b) (e ∷ [])

  count_same : (k : ℕ) → i ≢ k → in_all (with_added b e) k ≡ in_all b k
  count_same k n = omega (arith, all-now k, ap length (of_transaction-cons-other k e [] n), none k)

  count-more : in_all (with_added b e) i ≡ suc (in_all b i)
  count-more = omega (arith, all-now i, ap length (of_transaction-cons-same i e [] refl), none i)

  -- ---- the card's transactions

  sendings-are : added-card.sendings.table ≡ set c.sendings.table (t % 32) (one_added told c.window.next.0)
  unfolding with_message adding
  sendings-are = rw may.takes-more

  new-terms : TermsFor (sending_at added-card.sendings i) (with_added b e) i
  new-terms =
      rw here (record {
        count_is = terms-for.count_is;
        address_is = terms-for.address_is;
        value_is = terms-for.value_is;
        added_is = ap suc terms-for.added_is ∙ sym count-more;
        last_is = λ p. last-now;
      })
    where
      here : sending_at added-card.sendings i ≡ one_added told c.window.next.0
      here =
          ap (λ (l : List Sending). get_or l (i % 32) no_sending) sendings-are
          ∙ read_set c.sendings.table (t % 32) (i % 32) (one_added told c.window.next.0) no_sending entry-is
          (rw r.terms_long (mod-lt i (lit< tt)))

      not_yet : (j : ℕ) → j ≤ length b.frames → in_first (with_added b e) i j < in_all (with_added b e) i
      not_yet j p =
          let frames = b.frames in
          let w : in_first b i (length frames) ≡ count i (messages_in any_frame frames) =
          ap (λ (x : List FrameRecord). count i (messages_in any_frame x))
          (take_all (length frames) frames (omega arith)) in
          omega (
            arith,
            count-more,
            count-take i frames j (length frames) p,
            count-append i (messages_in any_frame frames) b.building,
          )

      last-now : LastMessageIn c.window.next.0 (with_added b e) i
      last-now =
          record {
            frame = length b.frames;
            is_number = r.next_is;
            at_most = omega arith;
            all_before = λ j p u. absurd (omega arith);
            not_before = not_yet;
          }

  old-terms : (k : ℕ) → i ≢ k → low_unfinished b ≤ k → k < total
      → TermsFor (sending_at added-card.sendings k) (with_added b e) k
  old-terms k n l h =
      terms-same (sending_at c.sendings k) (sending_at added-card.sendings k) b (with_added b e) k here refl
      (count_same k n)
      last-kept (r.terms_are k l h)
    where
      here : sending_at added-card.sendings k ≡ sending_at c.sendings k
      here =
          ap (λ (l : List Sending). get_or l (k % 32) no_sending) sendings-are
          ∙ read-other c.sendings.table (t % 32) (i % 32) (k % 32)
          (one_added told c.window.next.0) no_sending entry-is
          (slots-differ (low_unfinished b) k i l (omega (arith, s.trans_fit)) (omega arith)
          (omega (arith, s.trans_fit, i-open)) n)

      last-kept : LastMessageIn (sending_at c.sendings k).frame.0 b k
          → LastMessageIn (sending_at c.sendings k).frame.0 (with_added b e) k
      last-kept f =
          record {
            frame = f.frame;
            is_number = f.is_number;
            at_most = f.at_most;
            all_before = λ j p u. f.all_before j p u ∙ sym (count_same k n);
            not_before = λ j p. rw (count_same k n) (f.not_before j p);
          }

  -- ---- the slots

  long : length slots ≡ 64 * c.limit
  long = buffer-long c.limit slots r.fitted

  old-slot : (n : ℕ) → released_count b ≤ n → n < length b.frames → SlotFor added-card added-slots (with_added b e) n
  unfolding with_message
  old-slot n l h =
      record {
        size_is = f.size_is;
        size_fits = f.size_fits;
        bytes_are = ap (take (length (frame_bytes c b n))) (other-slot c slots m long n apart) ∙ f.bytes_are;
      }
    where
      f : SlotFor c slots b n
      f = r.slots_are n l h

      apart : n % 64 ≢ c.window.next.0 % 64
      apart q =
          slots-differ64 (released_count b) n (length b.frames) l h slot-free
          (q ∙ ap (λ (k : ℕ). k % 64) r.next_is ∙ mod64 (length b.frames))

  pub card-added : CardFor added-card added-slots (with_added b e)
  unfolding with_message finished adding fits message_of
  card-added =
      record {
        fitted = rw (length-slots c slots m) r.fitted;
        next_is = r.next_is;
        low_is = r.low_is;
        marks_are = r.marks_are;
        sizes_long = r.sizes_long;
        slots_are = old-slot;
        built_is =
            subst (Built added-card added-slots)
            (ap (λ (x : Message). map (wired b.transactions) b.building ++ (x ∷ [])) m-is
            ∙ sym (map-append (wired b.transactions) b.building (e ∷ [])))
            (built-more c slots m r.fitted fits-slot t (map (wired b.transactions) b.building) r.built_is);
        built_fits = fits-slot;
        trans_next_is = rw may.takes-more r.trans_next_is;
        trans_low_is = rw may.takes-more r.trans_low_is;
        finished_are = rw may.takes-more r.finished_are;
        terms_long =
            ap length sendings-are
            ∙ length-set c.sendings.table (t % 32) (one_added told c.window.next.0) ∙ r.terms_long;
        terms_are = λ k l h. go k l h (ℕ_discrete i k);
      }
    where
      go : (k : ℕ) → low_unfinished b ≤ k → k < total → Dec (i ≡ k)
          → TermsFor (sending_at added-card.sendings k) (with_added b e) k
      go k l h (yes q) = subst (λ (x : ℕ). TermsFor (sending_at added-card.sendings x) (with_added b e) x) q new-terms
      go k l h (no n) = old-terms k n l h
