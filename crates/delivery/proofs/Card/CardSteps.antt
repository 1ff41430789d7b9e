-- The card's six steps keep the system and the book in agreement.
-- Assumes nothing.
use Prim.Native.Nat.{ℕ, ◌+◌, ◌%◌, ◌≤◌, ◌<◌}
use native.Mathlib.Nat.{mod-lt}
use native.Mathlib.Omega.{arith}
use mathlib.Core.Path.{◌≡◌, refl, ap, ◌∙◌, subst}
use mathlib.Core.Logic.{◌⊎◌, inl, inr}
use mathlib.Core.Bool.{Bool, true, false, cond, not, ◌&&◌, ◌||◌, and-eq-true_iff}
use mathlib.Core.List.{List, [], ◌∷◌, ◌++◌}
use mathlib.Core.Option.{Option, some}
use borrow.Author.Tests.{eqb-true, ltb-true, leb-true, ne_eqb}
use lib.Dec.{eqb, ltb, lit<}
use lib.ListN.{length}
use Rattle.seq.specs.Ring.{latest, frame_space, trans_space}
use Rattle.seq.proofs.Ring.{latest-is}
use Rattle.octets.specs.Octets.{little, value, field}
use Rattle.octets.proofs.Octets.{value-little}
use Rattle.wire.specs.Reading.{number, addressed}
use Rattle.wire.specs.Writing.{frame_head, frame_of, ack_frame}
use Rattle.wire.proofs.Reading.{read_short}
use Rattle.wire.proofs.RoundTrip.{ack-addressed, ack-back, ack-start, ack-count}
use Rattle.card.specs.Window.{unreleased, held}
use Rattle.card.specs.Sendings.{opened}
use Rattle.card.specs.declared.Card.{Card}
use Rattle.card.specs.Card.{
  add_refusal,
  with_message,
  add_message,
  seal_refusal,
  seal_frame,
  acknowledged,
  read_acks,
  frame_in,
  show_refusal,
  show_frame,
  is_ack,
  choose_refusal,
  choose_next,
}
use Rattle.card.proofs.Slots.{limit-most}
use Rattle.delivery.specs.Book.{
  MessageRecord,
  Transaction,
  HandOut,
  nothing_handed,
  lent_ack,
  frame_copy,
  AckRange,
  Book,
  frame_at,
  released_count,
  book_memory,
  enter_opening,
  enter_sealing,
  enter_ack,
  enter_hand_out,
  shown,
  chosen,
  enter,
  book_step,
}
use Rattle.delivery.specs.System.{
  specified_card,
  CardCall,
  open_call,
  add_call,
  seal_call,
  read_call,
  show_call,
  choose_call,
  System,
  with_card_side,
  StepResult,
  by_card,
  card_step,
}
use Rattle.delivery.specs.Demand3.{typed_call, ack_in_time, call_in_time}
use Rattle.delivery.proofs.Book.Along.{along-more, Found, along-at}
use Rattle.delivery.proofs.Book.Steps.{sound-opening, sound-sealing, sound-handing, with_added}
use Rattle.delivery.proofs.Card.CardFor.{SlotFor, framed, open-room, open_done, open-refused, card-opened}
use Rattle.delivery.proofs.Card.CardAdd.{e, entered, added-sound, add_done, fits-slot, card-added}
use Rattle.delivery.proofs.Card.CardSeal.{
  card-alike,
  built-some,
  seal-done,
  card-sealed,
  frame_is,
  shown-is,
  chosen_is,
  none_before,
  oldest-is,
}
use Rattle.delivery.proofs.Card.CardRead.{read-sound, card-read}
use Rattle.delivery.proofs.Rest.{
  Copied,
  Acknowledges,
  copies-alike,
  rest-opening,
  rest-adding,
  rest-sealing,
  rest-acking,
}
use Rattle.delivery.proofs.Agree.{SystemFor, after-card}

module _ (card_id host_id : ℕ) (card_fits : card_id < frame_space) (host_fits : host_id < frame_space) (w : System) (b : Book)
    (f : SystemFor card_id host_id w b) where
  abbrev For : System → Book → Type 0
  For = SystemFor card_id host_id

  abbrev c : Card
  c = w.card

  abbrev slots : List ℕ
  slots = w.slots

  -- the card call x
  abbrev calling : CardCall → StepResult
  calling = card_step specified_card w

  abbrev pub AgreesAfter : CardCall → Type 0
  AgreesAfter x = For (calling x).system (book_step b (calling x).observation)

  -- a refused one
  pub stays : For (by_card w seal_call (record { refusal = 0; card = c; slots = slots; part = [] })).system b
  unfolding by_card
  stays = after-card card_id host_id w b c slots f.card_for f.card_own f.card_peer f.rest f.sound

  -- ---- opening

  pub step-opens : (count address value : ℕ) → typed_call (open_call count address value) ≡ true
      → AgreesAfter (open_call count address value)
  unfolding enter by_card
  step-opens count address value t = go (ltb (opened c.sendings) 32) refl
    where
      fit : (count < frame_space) × (address < trans_space) × (value < trans_space)
      fit =
          let all = (and-eq-true_iff (ltb count 65536) (ltb address trans_space && ltb value trans_space)).0 t in
          let rest = (and-eq-true_iff (ltb address trans_space) (ltb value trans_space)).0 all.1 in
          (ltb-true count 65536 all.0, ltb-true address trans_space rest.0, ltb-true value trans_space rest.1)

      go : (y : Bool) → ltb (opened c.sendings) 32 ≡ y → AgreesAfter (open_call count address value)
      go true q =
          rw (open_done c slots b f.card_for f.sound count address value q)
          (after-card card_id host_id w (enter_opening b count address value) _ slots
          (card-opened c slots b f.card_for f.sound count address value q) f.card_own f.card_peer
          (rest-opening card_id host_id b f.sound count address value w.host w.memory w.hand_outs w.acks
          w.answers fit f.rest)
          (sound-opening b f.sound count address value
          (open-room c slots b f.card_for f.sound count address value q)))
      go false q = rw (open-refused c slots b f.card_for f.sound count address value q) stays

  -- ---- adding

  limited : c.limit ≤ 9000
  limited = limit-most c.limit slots f.card_for.fitted

  add-refused : (t at : ℕ) (bytes : List ℕ) → eqb (add_refusal c slots t bytes) 0 ≡ false
      → add_message c slots t at bytes
      ≡ record { step = record { card = c; refusal = add_refusal c slots t bytes }; slots = slots }
  unfolding add_message
  add-refused t at bytes q = rw q

  pub step-adds : (t at : ℕ) (bytes : List ℕ) → typed_call (add_call t at bytes) ≡ true → AgreesAfter (add_call t at bytes)
  unfolding enter by_card with_message
  step-adds t at bytes ty = go (eqb (add_refusal c slots t bytes) 0) refl
    where
      t-fits : t < trans_space
      t-fits = ltb-true t trans_space ((and-eq-true_iff (ltb t trans_space) (ltb at trans_space)).0 ty).0

      at-fits : at < trans_space
      at-fits = ltb-true at trans_space ((and-eq-true_iff (ltb t trans_space) (ltb at trans_space)).0 ty).1

      added : add_refusal c slots t bytes ≡ 0 → AgreesAfter (add_call t at bytes)
      added ok =
          rw (
            add_done c slots b f.card_for f.sound t at bytes t-fits ok,
            entered c slots b f.card_for f.sound t at bytes t-fits ok,
          )
          (after-card card_id host_id w (with_added b (e c slots b f.card_for f.sound t at bytes t-fits ok)) _ _
          (card-added c slots b f.card_for f.sound t at bytes t-fits ok) f.card_own f.card_peer
          (rest-adding card_id host_id b f.sound (e c slots b f.card_for f.sound t at bytes t-fits ok)
          (record { at-fits = at-fits; bytes_fit = small }) w.host w.memory w.hand_outs w.acks w.answers
          f.rest)
          (added-sound c slots b f.card_for f.sound t at bytes t-fits ok))
        where
          small : length bytes < frame_space
          small = omega (arith, limited, fits-slot c slots b f.card_for f.sound t at bytes t-fits ok)

      go : (y : Bool) → eqb (add_refusal c slots t bytes) 0 ≡ y → AgreesAfter (add_call t at bytes)
      go false q = rw (add-refused t at bytes q, q) stays
      go true q = added (eqb-true (add_refusal c slots t bytes) 0 q)

  -- ---- sealing

  seal-refused : eqb c.used 0 ≡ true → seal_frame c slots
      ≡ record { card = c; refusal = 24; number = record { 0 = 0 } }
  unfolding seal_frame seal_refusal
  seal-refused q = rw (f.card_for.fitted, q)

  pub step-seals : AgreesAfter seal_call
  unfolding enter by_card
  step-seals = go (eqb c.used 0) refl
    where
      go : (y : Bool) → eqb c.used 0 ≡ y → AgreesAfter seal_call
      go true q = rw (seal-refused q) stays
      go false q =
          let some = built-some c slots b f.card_for f.sound q in
          rw (seal-done c slots b f.card_for f.sound q)
          (after-card card_id host_id w (enter_sealing b) _ slots (card-sealed c slots b f.card_for f.sound q)
          f.card_own f.card_peer
          (rest-sealing card_id host_id b f.sound some w.host w.memory w.hand_outs w.acks w.answers
          f.rest)
          (sound-sealing b f.sound some))

  -- ---- handing out

  -- the system with one thing more handed out
  abbrev handing : List ℕ → System
  handing g = with_card_side w c slots (w.hand_outs ++ (g ∷ []))

  after-handing : (g : List ℕ) (x : HandOut) → Copied card_id host_id b g x
      → ((n : ℕ) → frame_copy n ≡ x → n < length b.frames) → For (handing g) (enter_hand_out b x)
  unfolding enter_hand_out book_memory
  after-handing g x k l = record {
    card_for = card-alike b (enter_hand_out b x) refl refl refl (λ n. refl) (λ n. refl) (λ n. refl) c slots f.card_for;
    card_own = f.card_own;
    card_peer = f.card_peer;
    rest = record {
      host_for = record {
        next_is = f.rest.host_for.next_is;
        marks_are = f.rest.host_for.marks_are;
        transactions_for = f.rest.host_for.transactions_for;
      };
      host_own = f.rest.host_own;
      host_peer = f.rest.host_peer;
      memory_is = f.rest.memory_is;
      traffic = record {
        copies =
            copies-alike card_id host_id b (enter_hand_out b x) (w.hand_outs ++ (g ∷ [])) (b.hand_outs ++ (x ∷ []))
            (λ n m. refl)
            (along-more (Copied card_id host_id b) w.hand_outs b.hand_outs g x f.rest.traffic.copies k);
        acks_are = f.rest.traffic.acks_are;
        matching = f.rest.traffic.matching;
        once = f.rest.traffic.once;
      };
      sums = record {
        messages_are = f.rest.sums.messages_are;
        bytes_are = f.rest.sums.bytes_are;
        complete_are = f.rest.sums.complete_are;
      };
      typed = record { terms_typed = f.rest.typed.terms_typed; messages_typed = f.rest.typed.messages_typed };
    };
    sound = sound-handing b f.sound x l;
  }

  not-frame : (n : ℕ) (x : HandOut) → (x ≡ nothing_handed) ⊎ (x ≡ lent_ack) → frame_copy n ≡ x → n < length b.frames
  not-frame n x (inl o) q =
      let z : ◌≡◌ {A = ℕ} 0 1 = cc in
      absurd (omega arith)
  not-frame n x (inr o) q =
      let z : ◌≡◌ {A = ℕ} 0 1 = cc in
      absurd (omega arith)

  that-frame : (n m : ℕ) → m < length b.frames → frame_copy n ≡ frame_copy m → n < length b.frames
  that-frame n m h q =
      let z : n ≡ m = cc in
      rw z h

  -- a frame that is sealed and not released, as handed out; and what its number means
  module _ (n : ℕ) (least : released_count b ≤ n) (most : n < length b.frames) where
    out-is : Copied card_id host_id b (frame_in c slots (n % frame_space)) (frame_copy n)
    out-is =
        let bytes = frame_is c slots b f.card_for f.sound n least most in
        let o : SlotFor c slots b n = f.card_for.slots_are n least most in
        (bytes ∙ rw (f.card_own, f.card_peer), omega (arith, limited, ap length bytes, o.size_fits))

    means : latest frame_space (length b.frames) (n % frame_space) ≡ n
    means = latest-is frame_space (lit< tt) (length b.frames) n most (omega (arith, f.sound.frames_fit))

    after_frame : For (handing (frame_in c slots (n % frame_space))) (enter_hand_out b (frame_copy n))
    after_frame = after-handing (frame_in c slots (n % frame_space)) (frame_copy n) out-is (λ k q. that-frame k n most q)

  after_nothing : For (handing []) (enter_hand_out b nothing_handed)
  after_nothing = after-handing [] nothing_handed refl (λ n q. not-frame n nothing_handed (inl refl) q)

  -- ---- showing

  show-refusal : (num : ℕ) → show_refusal c slots num ≡ cond (held c.window num) 0 25
  unfolding show_refusal
  show-refusal num = rw f.card_for.fitted

  show-part : (num : ℕ) → show_frame c slots num ≡ cond (held c.window num) (frame_in c slots num) []
  unfolding show_frame
  show-part num = rw (show-refusal num) (go (held c.window num))
    where
      go : (y : Bool) → cond (eqb (cond y 0 25) 0) (frame_in c slots num) [] ≡ cond y (frame_in c slots num) []
      go true = refl
      go false = refl

  pub step-shows : (num : ℕ) → typed_call (show_call num) ≡ true → AgreesAfter (show_call num)
  unfolding enter by_card shown
  step-shows num ty = rw (show-refusal num, show-part num) (go (held c.window num) refl)
    where
      go : (y : Bool) → held c.window num ≡ y
          → For (handing (cond y (frame_in c slots num) []))
          (enter_hand_out b (cond (not (eqb (cond y 0 25) 0)) nothing_handed
          (frame_copy (latest frame_space (length b.frames) num))))
      go false q = after_nothing
      go true q =
          let n = shown-is c slots b f.card_for f.sound num (ltb-true num frame_space ty) q in
          rw (n.1, means n.0 n.2 n.3) (after_frame n.0 n.2 n.3)

  -- ---- choosing

  number-framed : (ds : List Transaction) (n : ℕ) (es : List MessageRecord)
      → number (framed card_id host_id ds n es) ≡ n % frame_space
  unfolding frame_of frame_head field little value
  number-framed ds n es = value-little 2 (n % frame_space) (mod-lt n (lit< tt))

  abbrev any : Bool
  any = ltb 0 (unreleased c.window)

  choose-refusal : (ack : List ℕ) → choose_refusal c slots ack ≡ cond (is_ack ack || any) 0 25
  unfolding choose_refusal
  choose-refusal ack = rw (f.card_for.fitted, none_before c slots b f.card_for f.sound)

  abbrev chosen-part : List ℕ → Bool → Bool → List ℕ
  chosen-part ack lent y =
      cond (eqb (cond (lent || y) 0 25) 0) (cond lent ack (frame_in c slots (released_count b % frame_space))) []

  choose-part : (ack : List ℕ) → choose_next c slots ack ≡ chosen-part ack (is_ack ack) any
  unfolding choose_next
  choose-part ack = rw (choose-refusal ack, oldest-is c slots b f.card_for f.sound)

  pub step-chooses : (ack : List ℕ) → AgreesAfter (choose_call ack)
  unfolding enter by_card chosen
  step-chooses ack = rw (choose-refusal ack, choose-part ack) (go (is_ack ack) refl any refl)
    where
      go : (lent : Bool) → is_ack ack ≡ lent → (y : Bool) → any ≡ y
          → For (handing (chosen-part ack lent y))
          (enter_hand_out b
          (cond (not (eqb (cond (lent || y) 0 25) 0)) nothing_handed
          (cond lent lent_ack (frame_copy (latest frame_space (length b.frames) (number (chosen-part ack lent y)))))))
      go true q y u = after-handing ack lent_ack (eqb-true (length ack) 10 q) (λ n p. not-frame n lent_ack (inr refl) p)
      go false q false u = after_nothing
      go false q true u =
          let r : released_count b < length b.frames = (chosen_is c slots b f.card_for f.sound u).1 in
          let k : number (frame_in c slots (released_count b % frame_space)) ≡ released_count b % frame_space =
          ap number (out-is (released_count b) (omega arith) r).0
          ∙ number-framed b.transactions (released_count b) (frame_at b (released_count b)).messages in
          rw (k, means (released_count b) (omega arith) r) (after_frame (released_count b) (omega arith) r)

  -- ---- reading

  read-nothing : read_acks c [] ≡ record { card = c; refusal = 1 }
  unfolding read_acks
  read-nothing = rw (read_short (addressed c.own c.peer []) [] (omega arith))

  pub read-ack : (x many : ℕ) → x < frame_space → 0 < many → many < 256
      → read_acks c (ack_frame card_id host_id 0 x many) ≡ record { card = acknowledged c x many; refusal = 0 }
  unfolding read_acks
  read-ack x many h more few =
      rw (
        f.card_own,
        f.card_peer,
        ack-addressed card_id host_id 0 x many card_fits host_fits (lit< tt) h few,
        ack-back card_id host_id 0 x many card_fits host_fits (lit< tt) h few,
        ack-start card_id host_id 0 x many card_fits host_fits (lit< tt) h few,
        ack-count card_id host_id 0 x many card_fits host_fits (lit< tt) h few,
        ne_eqb many 0 (λ z. omega arith),
      )

  pub step-reads : (k : ℕ) → call_in_time b (read_call k) ≡ true → AgreesAfter (read_call k)
  unfolding enter by_card ack_in_time acknowledged
  step-reads k late = go (along-at (Acknowledges card_id host_id) [] w.acks b.acks_due f.rest.traffic.acks_are k)
    where
      go : Found (Acknowledges card_id host_id) [] w.acks b.acks_due k → AgreesAfter (read_call k)
      go (inl p) = rw (p.1, read-nothing) stays
      go (inr p) =
          let r = p.0 in
          let d = f.sound.due_accepted r p.2 in
          let l : ack_in_time b (some r) ≡ true = subst (λ (o : Option AckRange). ack_in_time b o ≡ true) p.1 late in
          let t : released_count b ≤ r.first + 32768 = omega (arith, leb-true) in
          rw (p.3, read-ack (r.first % frame_space) r.many (mod-lt r.first (lit< tt)) d.some d.few, p.1)
          (after-card card_id host_id w (enter_ack b (some r)) (acknowledged c (r.first % frame_space) r.many) slots
          (card-read c slots b f.card_for f.sound r p.2 t) f.card_own f.card_peer
          (rest-acking card_id host_id b f.sound r w.host w.memory w.hand_outs w.acks w.answers
          f.rest)
          (read-sound c slots b f.card_for f.sound r p.2 t))

  -- ---- any call on the card

  pub step-card : (x : CardCall) → typed_call x ≡ true → call_in_time b x ≡ true → AgreesAfter x
  step-card (open_call count address value) t i = step-opens count address value t
  step-card (add_call n at bytes) t i = step-adds n at bytes t
  step-card seal_call t i = step-seals
  step-card (read_call k) t i = step-reads k i
  step-card (show_call n) t i = step-shows n t
  step-card (choose_call ack) t i = step-chooses ack
