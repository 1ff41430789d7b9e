-- After any calls on a card that was opened, the transactions that it takes for finished are exactly those of which the
-- rules' sentence holds in the history: all messages added and in released frames, by counts that never wrap.
-- Assumes nothing.
use Prim.Native.Nat.{ℕ, ◌+◌, ◌-◌, ◌%◌, ◌^◌, ◌<◌}
use native.Mathlib.Decide.{dec_lt}
use native.Mathlib.Omega.{arith}
use mathlib.Core.Path.{◌≡◌, refl, sym, ap, ◌∙◌}
use mathlib.Core.Bool.{Bool, true, false, cond, ◌||◌}
use mathlib.Core.List.{List, [], ◌∷◌, ◌++◌}
use borrow.Author.Tests.{ltb-true, lt-ltb, le-ltb, eqb-true}
use lib.Dec.{eqb, ltb, lit<}
use lib.ListN.{length}
use Rattle.seq.specs.Ring.{frame_space, trans_space, latest}
use Rattle.bitmap.specs.Marks.{mark}
use Rattle.bitmap.proofs.Marks.{mark-of-zero}
use Rattle.wire.specs.Format.{needed}
use Rattle.wire.specs.Writing.{ack_frame}
use Rattle.wire.proofs.RoundTrip.{ack-addressed, ack-count, ack-start, ack-back}
use Rattle.wire.specs.Reading.{addressed, read_frame, refusal_of, ack_start, ack_count}
use Rattle.card.specs.Window.{empty_window, unreleased}
use Rattle.card.specs.Sendings.{no_sendings, opened, opening_refusal}
use Rattle.card.specs.declared.Card.{Card}
use Rattle.card.specs.declared.TransOpened.{TransOpened}
use Rattle.card.specs.declared.Stepped.{Stepped}
use Rattle.card.specs.declared.Sealed.{Sealed}
use Rattle.card.specs.Card.{
  Added,
  fresh_card,
  card_refusal,
  open_card,
  open_transaction,
  add_refusal,
  add_message,
  seal_refusal,
  seal_frame,
  acknowledged,
  read_acks,
}
use Rattle.card.specs.Reachable.{Reachable}
use Rattle.card.specs.History.{
  Call,
  opens,
  adds,
  seals,
  reads,
  Typed,
  AllTyped,
  card_after,
  refusal_given,
  History,
  no_history,
  sent_at,
  enter,
  Run,
  after,
  run_from,
  run_of,
  released_count,
  all_below,
  finished_in,
  lowest_count,
  taken_for_finished,
}
use Rattle.card.proofs.Window.{unreleased-is}
use Rattle.card.proofs.Finishing.{opened-is}
use Rattle.card.proofs.Cases.{running, slots}
use Rattle.card.proofs.Agreeing.{
  none-finished,
  Agrees,
  opening-agrees,
  entered,
  adding-agrees,
  sealing-agrees,
  reading-agrees,
}
use Rattle.card.proofs.Reachable.{
  opened-reachable,
  opening-reachable,
  adding-reachable,
  sealing-reachable,
  reading-reachable,
}

-- ---- any call

-- the refusal that a step hands back is the one that decides it
given : {A : Type 0} (f : A → ℕ) (n : ℕ) (done refused : A) → f done ≡ 0 → f refused ≡ n
    → f (cond (eqb n 0) done refused) ≡ n
given f n done refused p q = go (eqb n 0) refl
  where
    go : (b : Bool) → eqb n 0 ≡ b → f (cond b done refused) ≡ n
    go true z = p ∙ sym (eqb-true n 0 z)
    go false z = q

module _ (c : Card) where
  open-given : (count address value : ℕ) → (open_transaction c count address value).refusal ≡ opening_refusal c.sendings
  unfolding open_transaction
  open-given count address value = given (λ (s : TransOpened). s.refusal) (opening_refusal c.sendings) _ _ refl refl

  add-given : (slots : List ℕ) (t at : ℕ) (bytes : List ℕ)
      → (add_message c slots t at bytes).step.refusal ≡ add_refusal c slots t bytes
  unfolding add_message
  add-given slots t at bytes = given (λ (s : Added). s.step.refusal) (add_refusal c slots t bytes) _ _ refl refl

  seal-given : (slots : List ℕ) → (seal_frame c slots).refusal ≡ seal_refusal c slots
  unfolding seal_frame
  seal-given slots = given (λ (s : Sealed). s.refusal) (seal_refusal c slots) _ _ refl refl

  read-given : (f : List ℕ) → (read_acks c f).refusal ≡ refusal_of (read_frame (addressed c.own c.peer f) f)
  unfolding read_acks
  read-given f =
      given (λ (s : Stepped). s.refusal) (refusal_of (read_frame (addressed c.own c.peer f) f)) _ _ refl refl

-- A refused call leaves card and history as they were.
module _ (c : Card) (h : History) (k : Agrees c h) where
  abbrev Then : Card → ℕ → Call → Type 0
  Then c' refusal x = Agrees c' (cond (eqb refusal 0) (enter h x) h)

  then-opens : (count address value : ℕ) → Typed (opens count address value)
      → Then (open_transaction c count address value).card (opening_refusal c.sendings) (opens count address value)
  unfolding open_transaction opening_refusal
  then-opens count address value typed = go (ltb (opened c.sendings) 32) refl
    where
      go : (b : Bool) → ltb (opened c.sendings) 32 ≡ b
          → Then (open_transaction c count address value).card (opening_refusal c.sendings)
          (opens count address value)
      go false z = rw z k
      go true z =
          rw z (rw z at (opening-agrees c h k count address value (ltb-true (opened c.sendings) 32 z)
          (opening-reachable c count address value k.reach typed.0 typed.1 typed.2)))

  then-adds : (slots : List ℕ) (t at : ℕ) (bytes : List ℕ) → t < trans_space
      → Then (add_message c slots t at bytes).step.card (add_refusal c slots t bytes) (adds slots t at bytes)
  unfolding add_message
  then-adds slots t at bytes typed = go (eqb (add_refusal c slots t bytes) 0) refl
    where
      go : (b : Bool) → eqb (add_refusal c slots t bytes) 0 ≡ b
          → Then (add_message c slots t at bytes).step.card (add_refusal c slots t bytes) (adds slots t at bytes)
      go false z = rw z k
      go true z =
          let ok : add_refusal c slots t bytes ≡ 0 = eqb-true (add_refusal c slots t bytes) 0 z in
          rw (z, entered c h k slots t at bytes typed ok)
          (rw z at (adding-agrees c h k slots t at bytes typed ok (adding-reachable c slots t at bytes k.reach)))

  then-seals : (slots : List ℕ) → Then (seal_frame c slots).card (seal_refusal c slots) (seals slots)
  unfolding seal_frame
  then-seals slots = go (eqb (seal_refusal c slots) 0) refl
    where
      go : (b : Bool) → eqb (seal_refusal c slots) 0 ≡ b
          → Then (seal_frame c slots).card (seal_refusal c slots) (seals slots)
      go false z = rw z k
      go true z =
          rw z (rw z at (sealing-agrees c h slots k (eqb-true (seal_refusal c slots) 0 z)
          (sealing-reachable c slots k.reach)))

  then-reads : (f : List ℕ)
      → Then (read_acks c f).card (refusal_of (read_frame (addressed c.own c.peer f) f)) (reads f)
  unfolding read_acks enter
  then-reads f = go (eqb (refusal_of (read_frame (addressed c.own c.peer f) f)) 0) refl
    where
      go : (b : Bool) → eqb (refusal_of (read_frame (addressed c.own c.peer f) f)) 0 ≡ b
          → Then (read_acks c f).card (refusal_of (read_frame (addressed c.own c.peer f) f)) (reads f)
      go false z = rw z k
      go true z =
          let sound : Reachable (acknowledged c (ack_start f) (ack_count f)) =
          rw z at (reading-reachable c f k.reach) in
          rw z (reading-agrees c h k (ack_start f) (ack_count f) sound)

agrees_after : (r : Run) (x : Call) → Typed x → Agrees r.card r.history
    → Agrees (after r x).card (after r x).history
unfolding after card_after refusal_given
agrees_after r (opens count address value) typed k =
    rw (open-given r.card count address value) (then-opens r.card r.history k count address value typed)
agrees_after r (adds slots t at bytes) typed k =
    rw (add-given r.card slots t at bytes) (then-adds r.card r.history k slots t at bytes typed)
agrees_after r (seals slots) typed k = rw (seal-given r.card slots) (then-seals r.card r.history k slots)
agrees_after r (reads f) typed k = rw (read-given r.card f) (then-reads r.card r.history k f)

agrees_from : (xs : List Call) (r : Run) → AllTyped xs → Agrees r.card r.history
    → Agrees (run_from r xs).card (run_from r xs).history
unfolding run_from
agrees_from [] r typed k = k
agrees_from (x ∷ xs) r typed k = agrees_from xs (after r x) typed.1 (agrees_after r x typed.0 k)

-- ---- the theorem

fresh-agrees : (own peer limit : ℕ) → Reachable (fresh_card own peer limit) → Agrees (fresh_card own peer limit) no_history
unfolding fresh_card empty_window no_sendings
fresh-agrees own peer limit sound =
    record {
      low = 0;
      released = 0;
      reach = sound;
      low-most = omega arith;
      trans-few = omega arith;
      lowest-is = refl;
      next-is = refl;
      released-most = omega arith;
      frames-few = omega arith;
      base-is = refl;
      sealed-is = refl;
      below = λ i l. absurd (omega arith);
      marks = λ i. mark-of-zero i ∙ sym (none-finished 0 0);
      entries = λ i l u. absurd (omega arith);
    }

opened-agrees : (own peer limit : ℕ) (slots : List ℕ) → own < 2 ^ 16 → peer < 2 ^ 16
    → Agrees (open_card own peer limit slots).card no_history
unfolding open_card
opened-agrees own peer limit slots p q = go (eqb (card_refusal own peer limit slots) 0) refl
  where
    sound : Reachable (open_card own peer limit slots).card
    sound = opened-reachable own peer limit slots p q

    go : (b : Bool) → eqb (card_refusal own peer limit slots) 0 ≡ b
        → Agrees (open_card own peer limit slots).card no_history
    go true z = rw z (fresh-agrees own peer limit (rw z at sound))
    go false z = rw z (fresh-agrees 0 0 0 (rw z at sound))

module _ (own peer limit : ℕ) (slots : List ℕ) (xs : List Call) (own-fits : own < 2 ^ 16) (peer-fits : peer < 2 ^ 16)
    (typed : AllTyped xs) where
  abbrev r : Run
  r = run_of own peer limit slots xs

  agrees : Agrees r.card r.history
  unfolding run_of
  agrees = agrees_from xs _ typed (opened-agrees own peer limit slots own-fits peer-fits)

  low-is : lowest_count r ≡ agrees.low
  low-is =
      omega (
        arith,
        agrees.low-most,
        opened-is r.card.sendings agrees.low (length r.history.sent) agrees.low-most
            agrees.trans-few agrees.lowest-is agrees.next-is,
      )

  released-is : released_count r ≡ agrees.released
  released-is =
      omega (
        arith,
        agrees.released-most,
        unreleased-is r.card.window agrees.released r.history.sealed
            agrees.released-most agrees.frames-few agrees.base-is agrees.sealed-is,
      )

  -- the counts are those behind the numbers that the card keeps
  pub counts-are : (r.card.sendings.lowest.0 ≡ lowest_count r % trans_space)
      × (r.card.window.base.0 ≡ released_count r % frame_space)
  counts-are = (rw low-is agrees.lowest-is, rw released-is agrees.base-is)

  pub finished-exactly : (k : ℕ) → taken_for_finished r k ≡ finished_in (released_count r) (sent_at r.history k)
  unfolding taken_for_finished
  finished-exactly k = rw (low-is, released-is) (go (dec_lt k agrees.low))
    where
      go : Dec (k < agrees.low)
          → (ltb k agrees.low || mark r.card.sendings.finished (k - agrees.low))
          ≡ finished_in agrees.released (sent_at r.history k)
      go (yes l) = rw (lt-ltb k agrees.low l) (sym (agrees.below k l))
      go (no l) =
          let z : agrees.low + (k - agrees.low) ≡ k = omega arith in
          rw (le-ltb k agrees.low (omega arith))
          (agrees.marks (k - agrees.low) ∙ ap (λ (n : ℕ). finished_in agrees.released (sent_at r.history n)) z)

-- ---- a worked case

-- Transactions 0 and 1 of one message each are opened. The message of transaction 1 is added and a second one refused,
-- and its frame is sealed. The message of transaction 0 is in the frame being built when the other frame is
-- acknowledged.
unfoldable pub ack : List ℕ
ack = ack_frame 2 1 0 0 1

abbrev start : Run
start = record { card = (open_card 2 1 34 slots).card; history = no_history }

abbrev built : List Call
built = opens 1 0 0 ∷ opens 1 0 0 ∷ adds slots 1 0 [] ∷ adds slots 1 0 [] ∷ seals slots ∷ adds slots 0 0 [] ∷ []

abbrev before : Run
before = run_from start built

-- the acknowledgement is read as one of frame 0
module _ (r : Run) (own : r.card.own ≡ 2) (peer : r.card.peer ≡ 1) where
  taken : refusal_of (read_frame (addressed r.card.own r.card.peer ack) ack) ≡ 0
  unfolding ack
  taken =
      rw (own, peer, ack-addressed 2 1 0 0 1 (lit< tt) (lit< tt) (lit< tt) (lit< tt) (lit< tt))
      (ap refusal_of (ack-back 2 1 0 0 1 (lit< tt) (lit< tt) (lit< tt) (lit< tt) (lit< tt)))

  read-card : (after r (reads ack)).card ≡ acknowledged r.card 0 1
  unfolding after card_after read_acks ack
  read-card =
      rw (
        taken,
        ack-start 2 1 0 0 1 (lit< tt) (lit< tt) (lit< tt) (lit< tt) (lit< tt),
        ack-count 2 1 0 0 1 (lit< tt) (lit< tt) (lit< tt) (lit< tt) (lit< tt),
      )

  read_history : (after r (reads ack)).history ≡ r.history
  unfolding after enter
  read_history = go (eqb (refusal_given r.card (reads ack)) 0)
    where
      go : (b : Bool) → cond b r.history r.history ≡ r.history
      go true = refl
      go false = refl

abbrev run : Run
run = run_of 2 1 34 slots (built ++ reads ack ∷ [])

-- The history: one frame is sealed and released, the message of transaction 1 lies in it, and that of transaction 0 in
-- the next.
abbrev entries-so : History
entries-so = record {
  sent = record { count = 1; frames = 1 ∷ [] } ∷ record { count = 1; frames = 0 ∷ [] } ∷ [];
  sealed = 1;
}

pub entered_so : (run.history ≡ entries-so) × (released_count run ≡ 1)
unfolding running slots latest card_after refusal_given enter after run_from run_of
entered_so = (
  read_history before refl refl,
  ap (λ (h : History). h.sealed - unreleased run.card.window) (read_history before refl refl)
      ∙ ap (λ (c : Card). 1 - unreleased c.window) (read-card before refl refl),
)

-- So the card takes transaction 1 for finished, and not transaction 0: this is read from the theorem.
pub worked : (taken_for_finished run 0 ≡ false) × (taken_for_finished run 1 ≡ true)
unfolding finished_in all_below needed
worked = (said 0, said 1)
  where
    opening-typed : Typed (opens 1 0 0)
    opening-typed = (lit< tt, lit< tt, lit< tt)

    said : (k : ℕ) → taken_for_finished run k ≡ finished_in 1 (sent_at entries-so k)
    said k =
        finished-exactly 2 1 34 slots (built ++ reads ack ∷ []) (lit< tt) (lit< tt)
        (opening-typed, (opening-typed, (lit< tt, (lit< tt, (tt, (lit< tt, (tt, tt))))))) k
        ∙ ap (λ (n : ℕ). finished_in n (sent_at run.history k)) entered_so.1
        ∙ ap (λ (h : History). finished_in 1 (sent_at h k)) entered_so.0
