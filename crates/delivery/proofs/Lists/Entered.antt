-- What the book is after a call that the card does not refuse, where system and book agree; and the bytes of what was
-- handed out. Assumes nothing.
use Prim.Native.Nat.{ℕ, ◌+◌, ◌%◌, ◌≤◌, ◌<◌}
use native.Mathlib.Nat.{mod-lt}
use native.Mathlib.Omega.{arith}
use mathlib.Core.Path.{◌≡◌, sym, ◌∙◌, subst}
use mathlib.Core.Logic.{inl, inr}
use mathlib.Core.Bool.{false}
use mathlib.Core.List.{List, []}
use mathlib.Core.Option.{none, some}
use lib.Dec.{lit<}
use lib.ListN.{length, get_or, get_elem?}
use Rattle.seq.specs.Ring.{frame_space, trans_space}
use Rattle.seq.proofs.Ring.{latest-is}
use Rattle.bitmap.proofs.Marks.{leading-fails}
use Rattle.wire.specs.Format.{needed}
use Rattle.card.specs.declared.Card.{Card}
use Rattle.delivery.specs.Book.{
  AckRange,
  HandOut,
  frame_copy,
  Book,
  messages_in,
  any_frame,
  frame_at,
  released_count,
  released_messages,
  transaction_at,
  finished,
  enter_opening,
  enter_message,
  enter_sealing,
  enter_ack,
  enter_hand_out,
  shown,
  enter,
  book_step,
}
use Rattle.delivery.specs.System.{
  specified_card,
  open_call,
  add_call,
  seal_call,
  read_call,
  show_call,
  System,
  by_card,
  card_step,
}
use Rattle.delivery.proofs.Book.Along.{Found, along-at}
use Rattle.delivery.proofs.Book.Counts.{count-append, count-prefix, not_full}
use Rattle.delivery.proofs.Book.Sound.{low_unfinished}
use Rattle.delivery.proofs.Card.CardFor.{in_all}
use Rattle.delivery.proofs.Card.CardAdd.{add_done}
use Rattle.delivery.proofs.Card.CardSeal.{seal-done}
use Rattle.delivery.proofs.Rest.{Copied, Acknowledges}
use Rattle.delivery.proofs.Agree.{SystemFor}
use Rattle.delivery.proofs.Card.CardSteps.{read-ack}
use Rattle.delivery.proofs.Lists.Unrefused.{opens-unrefused, adds-unrefused, seals-unrefused, shows-unrefused}

none-some : {A : Type 0} (x : A) → none ≡ some x → ⊥
none-some x q =
    let z : ◌≡◌ {A = ℕ} 0 1 = cc in
    omega arith

module _ (card_id host_id : ℕ) (card_fits : card_id < frame_space) (host_fits : host_id < frame_space) (w : System) (b : Book)
    (f : SystemFor card_id host_id w b) where
  abbrev c : Card
  c = w.card

  abbrev slots : List ℕ
  slots = w.slots

  pub opening-entered : (count address value : ℕ) → length b.transactions < low_unfinished b + 32
      → book_step b (card_step specified_card w (open_call count address value)).observation
      ≡ enter_opening b count address value
  unfolding by_card enter
  opening-entered count address value few = rw (opens-unrefused card_id host_id w b f count address value few)

  -- a message of no bytes as the first of a frame, of a transaction that takes more
  pub adding-entered : (t : ℕ) → t < length b.transactions
      → in_all b t < needed (transaction_at b t).count → b.building ≡ [] → length b.frames < released_count b + 64
      → (at : ℕ)
      → book_step b (card_step specified_card w (add_call (t % trans_space) at [])).observation
      ≡ enter_message b (t % trans_space) at []
  unfolding by_card enter finished
  adding-entered t known room empty free at =
      rw (add_done c slots b f.card_for f.sound (t % trans_space) at [] (mod-lt t (lit< tt))
      (adds-unrefused card_id host_id w b f t from_low known room empty free))
    where
      unfinished : finished b t ≡ false
      unfinished =
          not_full (transaction_at b t) t (released_messages b)
          (omega (
            arith,
            room,
            count-prefix t b.frames (released_count b),
            count-append t (messages_in any_frame b.frames) b.building,
          ))

      from_low : low_unfinished b ≤ t
      from_low = leading-fails (finished b) (length b.transactions) t unfinished

  pub sealing-entered : 0 < length b.building → book_step b (card_step specified_card w seal_call).observation
      ≡ enter_sealing b
  unfolding by_card enter
  sealing-entered h = rw (seal-done c slots b f.card_for f.sound (seals-unrefused card_id host_id w b f h))

  pub showing-entered : (n : ℕ) → released_count b ≤ n → n < length b.frames → (frame_at b n).acknowledged ≡ false
      → book_step b (card_step specified_card w (show_call (n % frame_space))).observation ≡ enter_hand_out b (frame_copy n)
  unfolding by_card enter shown
  showing-entered n least most is_open =
      rw (
        shows-unrefused card_id host_id w b f n least most is_open,
        latest-is frame_space (lit< tt) (length b.frames) n most (omega (arith, f.sound.frames_fit)),
      )

  -- an acknowledgement that an answer called for
  pub reading-entered : (k : ℕ) (x : AckRange) → get_elem? b.acks_due k ≡ some x
      → book_step b (card_step specified_card w (read_call k)).observation ≡ enter_ack b (some x)
  unfolding by_card enter
  reading-entered k x q = go (along-at (Acknowledges card_id host_id) [] w.acks b.acks_due
      f.rest.traffic.acks_are k)
    where
      go : Found (Acknowledges card_id host_id) [] w.acks b.acks_due k
          → book_step b (card_step specified_card w (read_call k)).observation ≡ enter_ack b (some x)
      go (inl p) = absurd (none-some x (sym p.0 ∙ q))
      go (inr p) =
          let r = p.0 in
          rw (
            p.3,
            read-ack card_id host_id card_fits host_fits w b f (r.first % frame_space) r.many
                (mod-lt r.first (lit< tt))
                (f.sound.due_accepted r p.2).some (f.sound.due_accepted r p.2).few,
            q,
          )

  pub ack-at : (k : ℕ) (x : AckRange) → get_elem? b.acks_due k ≡ some x
      → Acknowledges card_id host_id (get_or w.acks k []) x
  ack-at k x q = go (along-at (Acknowledges card_id host_id) [] w.acks b.acks_due f.rest.traffic.acks_are k)
    where
      go : Found (Acknowledges card_id host_id) [] w.acks b.acks_due k
          → Acknowledges card_id host_id (get_or w.acks k []) x
      go (inl p) = absurd (none-some x (sym p.0 ∙ q))
      go (inr p) =
          let same : some p.0 ≡ some x = sym p.1 ∙ q in
          let is : p.0 ≡ x = cc in
          subst (Acknowledges card_id host_id (get_or w.acks k [])) is p.3

  pub copy_at : (k : ℕ) (x : HandOut) → get_elem? b.hand_outs k ≡ some x
      → Copied card_id host_id b (get_or w.hand_outs k []) x
  copy_at k x q = go (along-at (Copied card_id host_id b) [] w.hand_outs b.hand_outs f.rest.traffic.copies k)
    where
      go : Found (Copied card_id host_id b) [] w.hand_outs b.hand_outs k
          → Copied card_id host_id b (get_or w.hand_outs k []) x
      go (inl p) = absurd (none-some x (sym p.0 ∙ q))
      go (inr p) =
          let same : some p.0 ≡ some x = sym p.1 ∙ q in
          let is : p.0 ≡ x = cc in
          subst (Copied card_id host_id b (get_or w.hand_outs k [])) is p.3
