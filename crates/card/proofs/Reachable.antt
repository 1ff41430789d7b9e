-- Opening hands back a reachable card, and each step keeps a card reachable, whatever it is called with. In a reachable
-- card the lowest frame not released is the oldest held one, and a part is handed out exactly where the number of the
-- refusal is 0. Assumes nothing.
use Prim.Native.Nat.{ℕ, ◌+◌, ◌-◌, ◌*◌, ◌/◌, ◌%◌, ◌^◌, ◌≤◌, ◌<◌}
use native.Mathlib.Nat.{add-zero}
use native.Mathlib.Omega.{arith}
use mathlib.Core.Path.{◌≡◌, refl, sym}
use mathlib.Core.Logic.{◌≢◌, ◌⊎◌, inl, inr}
use mathlib.Core.Bool.{Bool, true, false}
use mathlib.Core.List.{List}
use borrow.Author.Tests.{eqb-true, eqb-false, ltb-true, leb-false, lt-ltb}
use lib.Dec.{eqb, ltb}
use lib.ListN.{length, get_or}
use lib.Seq.{length-take-le}
use Rattle.seq.specs.Ring.{frame_space, distance}
use Rattle.wire.specs.Format.{frame_most}
use Rattle.wire.specs.Reading.{addressed, read_frame, refusal_of, ack_start, ack_count}
use Rattle.wire.proofs.Format.{next-form}
use Rattle.card.specs.declared.SendWindow.{SendWindow}
use Rattle.card.specs.Window.{empty_window, unreleased, held, any_held, before_held, oldest_held, acknowledging}
use Rattle.card.specs.Sendings.{opened, opening_refusal, opening}
use Rattle.card.specs.declared.Card.{Card}
use Rattle.card.specs.Card.{
  fresh_card,
  fits,
  card_refusal,
  open_card,
  open_transaction,
  header_offset,
  add_refusal,
  with_message,
  add_message,
  seal_refusal,
  seal_frame,
  acknowledged,
  read_acks,
  slot_of,
  frame_in,
  show_refusal,
  show_frame,
  is_ack,
  choose_refusal,
  choose_next,
}
use Rattle.card.proofs.Window.{none-before-held, oldest-base, held-near}
use Rattle.card.proofs.Slots.{
  limit-least,
  limit-most,
  buffer-long,
  Addable,
  addable,
  room_in,
  frame-in,
  slot-long,
}
use Rattle.card.proofs.Keeping.{
  empty-in-order,
  sealing-keeps,
  released-and-left,
  acknowledging-keeps,
  none-orderly,
  opening-keeps,
  adding-keeps,
  finishing-keeps,
  none-settled,
  opening-settles,
  adding-settles,
  sealing-settles,
  finishing-settles,
}
use Rattle.card.specs.Reachable.{Building, Reachable}

-- ---- opening

fresh-reachable : (own peer limit : ℕ) → own < 2 ^ 16 → peer < 2 ^ 16
    → ((own ≡ 0) × (peer ≡ 0) × (limit ≡ 0)) ⊎ ((own ≢ 0) × (peer ≢ 0) × (34 ≤ limit) × (limit ≤ frame_most))
    → Reachable (fresh_card own peer limit)
unfolding fresh_card
fresh-reachable own peer limit h k opening =
    record {
      own-fits = h;
      peer-fits = k;
      opening = opening;
      building = inl (refl, refl);
      window = empty-in-order limit;
      sendings = none-orderly;
      settled = none-settled empty_window;
    }

pub opened-reachable : (own peer limit : ℕ) (slots : List ℕ) → own < 2 ^ 16 → peer < 2 ^ 16
    → Reachable (open_card own peer limit slots).card
unfolding open_card card_refusal
opened-reachable own peer limit slots h k = go (eqb own 0) refl (eqb peer 0) refl (fits limit slots) refl
  where
    none : Reachable (fresh_card 0 0 0)
    none = fresh-reachable 0 0 0 (omega arith) (omega arith) (inl (refl, refl, refl))

    go : (a : Bool) → eqb own 0 ≡ a → (b : Bool) → eqb peer 0 ≡ b → (d : Bool) → fits limit slots ≡ d
        → Reachable (open_card own peer limit slots).card
    go true x b y d z = rw x none
    go false x true y d z = rw (x, y) none
    go false x false y false z = rw (x, y, z) none
    go false x false y true z =
        rw (x, y, z)
        (fresh-reachable own peer limit h k
        (inr (eqb-false own 0 x, eqb-false peer 0 y, limit-least limit slots z, limit-most limit slots z)))

-- ---- the steps

pub opening-reachable : (c : Card) (count address value : ℕ) → Reachable c → count < 2 ^ 16 → address < 2 ^ 32
    → value < 2 ^ 32
    → Reachable (open_transaction c count address value).card
unfolding open_transaction opening_refusal
opening-reachable c count address value r k t v = go (ltb (opened c.sendings) 32) refl
  where
    go : (b : Bool) → ltb (opened c.sendings) 32 ≡ b → Reachable (open_transaction c count address value).card
    go false z = rw z r
    go true z =
        let room : opened c.sendings < 32 = ltb-true (opened c.sendings) 32 z in
        rw z (record {
          own-fits = r.own-fits;
          peer-fits = r.peer-fits;
          opening = r.opening;
          building = still r.building;
          window = r.window;
          sendings = opening-keeps c.sendings count address value r.sendings room k t v;
          settled = opening-settles c.sendings count address value c.window r.sendings room r.settled;
        })
      where
        still : ((c.used ≡ 0) × (c.last ≡ 0)) ⊎ Building c
            → ((c.used ≡ 0) × (c.last ≡ 0)) ⊎ Building (record {
              own = c.own;
              peer = c.peer;
              limit = c.limit;
              used = c.used;
              last = c.last;
              window = c.window;
              sendings = opening c.sendings count address value;
            })
        still (inl e) = inl e
        still (inr b) =
            inr (record {
              least = b.least;
              most = b.most;
              last-least = b.last-least;
              last-inside = b.last-inside;
              slot-free = b.slot-free;
            })

pub adding-reachable : (c : Card) (slots : List ℕ) (t at : ℕ) (bytes : List ℕ) → Reachable c
    → Reachable (add_message c slots t at bytes).step.card
unfolding add_message with_message
adding-reachable c slots t at bytes r = go (eqb (add_refusal c slots t bytes) 0) refl
  where
    go : (b : Bool) → eqb (add_refusal c slots t bytes) 0 ≡ b → Reachable (add_message c slots t at bytes).step.card
    go false z = rw z r
    go true z =
        let a : Addable c slots t bytes = addable c slots t bytes (eqb-true (add_refusal c slots t bytes) 0 z) in
        let p : header_offset c ≡ 10 + 8 * ((c.used - 10 + 7) / 8) = next-form c.used in
        rw z (record {
          own-fits = r.own-fits;
          peer-fits = r.peer-fits;
          opening = r.opening;
          building = inr (record {
            least = omega arith;
            most = room_in c slots t bytes a;
            last-least = omega arith;
            last-inside = omega arith;
            slot-free = omega (arith, leb-false 64 (unreleased c.window) a.slot-free);
          });
          window = r.window;
          sendings = adding-keeps c.sendings t c.window.next.0 r.sendings r.window.next_fits;
          settled = adding-settles c.sendings t c.window r.sendings r.settled;
        })

pub sealing-reachable : (c : Card) (slots : List ℕ) → Reachable c → Reachable (seal_frame c slots).card
unfolding seal_frame seal_refusal
sealing-reachable c slots r = go (fits c.limit slots) refl (eqb c.used 0) refl
  where
    built : eqb c.used 0 ≡ false → Building c
    built z = some r.building
      where
        some : ((c.used ≡ 0) × (c.last ≡ 0)) ⊎ Building c → Building c
        some (inl e) = absurd (eqb-false c.used 0 z e.0)
        some (inr b) = b

    go : (a : Bool) → fits c.limit slots ≡ a → (b : Bool) → eqb c.used 0 ≡ b → Reachable (seal_frame c slots).card
    go false x b y = rw x r
    go true x true y = rw (x, y) r
    go true x false y =
        let b : Building c = built y in
        rw (x, y) (record {
          own-fits = r.own-fits;
          peer-fits = r.peer-fits;
          opening = r.opening;
          building = inl (refl, refl);
          window = sealing-keeps c.window c.limit c.used r.window b.slot-free b.least b.most;
          sendings = r.sendings;
          settled = sealing-settles c.sendings c.window c.limit c.used r.window b.slot-free b.least
              b.most r.settled;
        })

pub reading-reachable : (c : Card) (f : List ℕ) → Reachable c → Reachable (read_acks c f).card
unfolding read_acks acknowledged
reading-reachable c f r = go (eqb (refusal_of (read_frame (addressed c.own c.peer f) f)) 0) refl
  where
    w : SendWindow
    w = acknowledging c.window (ack_start f) (ack_count f)

    read : Card
    read = acknowledged c (ack_start f) (ack_count f)

    left : distance frame_space c.window.base.0 w.base.0 + unreleased w ≡ unreleased c.window
    left = released-and-left c.window c.limit (ack_start f) (ack_count f) r.window

    still : ((c.used ≡ 0) × (c.last ≡ 0)) ⊎ Building c → ((c.used ≡ 0) × (c.last ≡ 0)) ⊎ Building read
    still (inl e) = inl e
    still (inr b) =
        inr (record {
          least = b.least;
          most = b.most;
          last-least = b.last-least;
          last-inside = b.last-inside;
          slot-free = omega (arith, b.slot-free, left);
        })

    go : (b : Bool) → eqb (refusal_of (read_frame (addressed c.own c.peer f) f)) 0 ≡ b
        → Reachable (read_acks c f).card
    go false z = rw z r
    go true z =
        rw z (record {
          own-fits = r.own-fits;
          peer-fits = r.peer-fits;
          opening = r.opening;
          building = still r.building;
          window = acknowledging-keeps c.window c.limit (ack_start f) (ack_count f) r.window;
          sendings = finishing-keeps c.sendings c.window.base.0 w.base.0 r.sendings;
          settled = finishing-settles c.sendings c.window c.limit (ack_start f) (ack_count f) r.sendings
              r.window r.settled;
        })

-- ---- what is handed out

-- the lowest frame not released is the oldest held one
pub none_before : (c : Card) → Reachable c → before_held c.window ≡ 0
none_before c r = none-before-held c.window (λ h. r.window.lowest-clear)

pub oldest-is-lowest : (c : Card) → Reachable c → oldest_held c.window ≡ c.window.base.0
oldest-is-lowest c r = oldest-base c.window r.window.base-fits (none_before c r)

-- the i-th frame from there on has at least the bytes of a frame header and a message header
module _ (c : Card) (slots : List ℕ) (r : Reachable c) (ok : fits c.limit slots ≡ true) where
  frame-long : (n i : ℕ) → i < unreleased c.window → n % 64 ≡ (c.window.base.0 + i) % 64
      → 34 ≤ length (frame_in c slots n)
  frame-long n i h e =
      let least : 34 ≤ size = rw e (r.window.sizes-least i h) in
      let most : size ≤ c.limit = r.window.sizes-most (n % 64) in
      let long = slot-long c slots (buffer-long c.limit slots ok) n in
      rw (frame-in c slots n size ok refl most)
      (omega (arith, length-take-le size (slot_of c slots n) (omega (arith, long))))
    where
      size : ℕ
      size = get_or c.window.sizes (n % 64) 0

  held-long : (n : ℕ) → n < frame_space → held c.window n ≡ true → 34 ≤ length (frame_in c slots n)
  unfolding distance
  held-long n h e =
      frame-long n (distance frame_space c.window.base.0 n) (held-near c.window n e)
      (omega (arith, r.window.base-fits))

  oldest-long : any_held c.window ≡ true → 34 ≤ length (frame_in c slots (oldest_held c.window))
  oldest-long e =
      let some : before_held c.window < unreleased c.window =
      ltb-true (before_held c.window) (unreleased c.window) e in
      frame-long (oldest_held c.window) 0 (omega arith) (rw (oldest-is-lowest c r, add-zero c.window.base.0))

-- The number of a showing's refusal is 0 exactly where the part that it hands out is not empty, and the same of a
-- choice.
pub show-agrees : (c : Card) (slots : List ℕ) (n : ℕ) → Reachable c → n < frame_space
    → eqb (show_refusal c slots n) 0 ≡ ltb 0 (length (show_frame c slots n))
unfolding show_refusal show_frame
show-agrees c slots n r h = go (fits c.limit slots) refl (held c.window n) refl
  where
    go : (a : Bool) → fits c.limit slots ≡ a → (b : Bool) → held c.window n ≡ b
        → eqb (show_refusal c slots n) 0 ≡ ltb 0 (length (show_frame c slots n))
    go false x b y = rw x
    go true x false y = rw (x, y)
    go true x true y =
        rw (x, y) (sym (lt-ltb 0 (length (frame_in c slots n)) (omega (arith, held-long c slots r x n h y))))

pub choose-agrees : (c : Card) (slots ack : List ℕ) → Reachable c
    → eqb (choose_refusal c slots ack) 0 ≡ ltb 0 (length (choose_next c slots ack))
unfolding choose_refusal choose_next
choose-agrees c slots ack r = go (fits c.limit slots) refl (is_ack ack) refl (any_held c.window) refl
  where
    go : (a : Bool) → fits c.limit slots ≡ a → (b : Bool) → is_ack ack ≡ b → (d : Bool) → any_held c.window ≡ d
        → eqb (choose_refusal c slots ack) 0 ≡ ltb 0 (length (choose_next c slots ack))
    go false x b y d z = rw x
    go true x true y d z =
        let ten : length ack ≡ 10 = eqb-true (length ack) 10 y in
        rw (x, y) (sym (lt-ltb 0 (length ack) (omega arith)))
    go true x false y false z = rw (x, y, z)
    go true x false y true z =
        rw (x, y, z)
        (sym (lt-ltb 0 (length (frame_in c slots (oldest_held c.window))) (omega (arith, oldest-long c slots r x z))))
