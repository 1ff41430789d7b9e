-- The slot buffer: adding a message writes the slot of the frame being built and no other, and that slot then starts
-- with the frame of the messages so far.
-- Assumes nothing.
use Prim.Native.Nat.{ℕ, suc, ◌+◌, ◌-◌, ◌*◌, ◌%◌, ◌≤◌, ◌<◌}
use native.Mathlib.Nat.{mul-le-mul_right, mod-lt}
use native.Mathlib.Decide.{dec_lt}
use native.Mathlib.Omega.{arith}
use mathlib.Core.Path.{◌≡◌, refl, sym, ap, ◌∙◌}
use mathlib.Core.Logic.{◌≢◌}
use mathlib.Core.Bool.{Bool, true, false, cond, not, ◌&&◌, ◌||◌, and-eq-true_iff}
use mathlib.Core.List.{List, [], ◌∷◌, ◌++◌, append_assoc}
use borrow.Author.Tests.{ltb-false, le-leb, leb-true, eqb-true, eq-eqb, ne_eqb}
use lib.Dec.{eqb, leb, ltb, lit<}
use lib.ListN.{length, take, drop, get_or, set, length-set, length-drop}
use lib.Seq.{
  sets,
  sets-eq,
  length-sets,
  length-take-le,
  take_at,
  drop_at,
  take-take,
  take-set-le,
  drop-set-lt,
  drop-set-add,
}
use Rattle.wire.specs.Format.{Message, next_header, frame_most}
use Rattle.wire.specs.Writing.{
  frame_head,
  message_head,
  end_of,
  gap_at,
  laid,
  frame_of,
  room_for,
  first_message,
  next_message,
}
use Rattle.wire.proofs.Format.{length-laid-one, length-frame}
use Rattle.wire.proofs.Building.{last_at, last_more, length_more, first-built, next_built}
use Rattle.card.specs.Window.{unreleased}
use Rattle.card.specs.Sendings.{sending_at, takes}
use Rattle.card.specs.declared.Card.{Card}
use Rattle.card.specs.Card.{
  card_refusal,
  add_refusal,
  fits,
  slot_start,
  slot_of,
  header_offset,
  built_slot,
  built_slots,
  with_message,
  frame_in,
}

-- ---- refusals

-- the code asks what refuses, a definition may ask what does not
pub turned : (b : Bool) (x y : ℕ) → cond (not b) x y ≡ cond b y x
turned true x y = refl
turned false x y = refl

-- ---- a slot buffer that fits

module _ (limit : ℕ) (slots : List ℕ) (ok : fits limit slots ≡ true) where
  parts : (leb 34 limit ≡ true) × (leb limit frame_most ≡ true) × (eqb (length slots) (64 * limit) ≡ true)
  unfolding fits
  parts =
      let outer = (and-eq-true_iff (leb 34 limit) (leb limit frame_most && eqb (length slots) (64 * limit))).0 ok in
      let inner = (and-eq-true_iff (leb limit frame_most) (eqb (length slots) (64 * limit))).0 outer.1 in
      (outer.0, inner.0, inner.1)

  pub limit-least : 34 ≤ limit
  limit-least = leb-true 34 limit parts.0

  pub limit-most : limit ≤ frame_most
  limit-most = leb-true limit frame_most parts.1

  pub buffer-long : length slots ≡ 64 * limit
  buffer-long = eqb-true (length slots) (64 * limit) parts.2

-- a card that is opened has a limit that fits
pub opened-limit : (own peer limit : ℕ) (slots : List ℕ) → card_refusal own peer limit slots ≡ 0 → limit ≤ frame_most
unfolding card_refusal
opened-limit own peer limit slots e = limit-most limit slots (go (eqb own 0 || eqb peer 0) (fits limit slots) e)
  where
    go : (x y : Bool) → ◌≡◌ {A = ℕ} (cond x 13 (cond y 0 26)) 0 → y ≡ true
    go false true q = refl
    go false false q = absurd (omega arith)
    go true y q = absurd (omega arith)

-- ---- what holds where adding is not refused

pub record Addable (c : Card) (slots : List ℕ) (t : ℕ) (bytes : List ℕ) : Type 0 where
  pub slots-fit : fits c.limit slots ≡ true
  pub takes-more : takes c.sendings t ≡ true
  pub bare-empty : (eqb (sending_at c.sendings t).count 0 && ltb 0 (length bytes)) ≡ false
  pub slot-free : leb 64 (unreleased c.window) ≡ false
  pub in-slot : ltb c.limit (header_offset c + 24 + length bytes) ≡ false

pub addable : (c : Card) (slots : List ℕ) (t : ℕ) (bytes : List ℕ) → add_refusal c slots t bytes ≡ 0
    → Addable c slots t bytes
unfolding add_refusal
addable c slots t bytes e =
    let k = go (fits c.limit slots) (takes c.sendings t) _ (leb 64 (unreleased c.window)) _ e in
    record { slots-fit = k.0; takes-more = k.1; bare-empty = k.2; slot-free = k.3; in-slot = k.4 }
  where
    go : (v w x y z : Bool)
        → ◌≡◌ {A = ℕ} (cond (not v) 26 (cond (not w) 23 (cond x 27 (cond y 21 (cond z 22 0))))) 0
        → (v ≡ true) × (w ≡ true) × (x ≡ false) × (y ≡ false) × (z ≡ false)
    go true true false false false q = (refl, refl, refl, refl, refl)
    go false w x y z q = absurd (omega arith)
    go true false x y z q = absurd (omega arith)
    go true true true y z q = absurd (omega arith)
    go true true false true z q = absurd (omega arith)
    go true true false false true q = absurd (omega arith)

-- a message of an addable size lies in the slot
pub room_in : (c : Card) (slots : List ℕ) (t : ℕ) (bytes : List ℕ) → Addable c slots t bytes
    → header_offset c + 24 + length bytes ≤ c.limit
room_in c slots t bytes a = ltb-false c.limit (header_offset c + 24 + length bytes) a.in-slot

-- ---- stores outside a part of a buffer

before-store : (s : List ℕ) (at n i v : ℕ) → at + n ≤ i → take n (drop at (set s i v)) ≡ take n (drop at s)
before-store s at n i v h =
    let e : at + (i - at) ≡ i = omega arith in
    ap (λ (k : ℕ). take n (drop at (set s k v))) (sym e)
    ∙ ap (take n) (drop-set-add at s (i - at) v)
    ∙ take-set-le n (drop at s) (i - at) v (omega arith)

before-stores : (s : List ℕ) (at n i : ℕ) (vs : List ℕ) → at + n ≤ i
    → take n (drop at (sets s i vs)) ≡ take n (drop at s)
before-stores s at n i [] h = refl
before-stores s at n i (v ∷ vs) h =
    before-stores (set s i v) at n (suc i) vs (omega arith) ∙ before-store s at n i v h

after-stores : (s : List ℕ) (at i : ℕ) (vs : List ℕ) → i + length vs ≤ at → drop at (sets s i vs) ≡ drop at s
after-stores s at i [] h = refl
after-stores s at i (v ∷ vs) h =
    after-stores (set s i v) at (suc i) vs (omega arith) ∙ drop-set-lt at s i v (omega arith)

-- ---- the slots after a message is written

-- a slot is written in place
pub length-first : (slot : List ℕ) (to from num : ℕ) (m : Message)
    → length (first_message slot to from num m) ≡ length slot
unfolding first_message
length-first slot to from num m = go (room_for slot (end_of 10 m))
  where
    new : List ℕ
    new = frame_head to from num 0 0 1 ++ (message_head m 0 ++ m.bytes)

    go : (b : Bool) → length (cond b (sets slot 0 new) slot) ≡ length slot
    go true = length-sets slot 0 new
    go false = refl

pub length-next : (slot : List ℕ) (used last : ℕ) (m : Message) → length (next_message slot used last m) ≡ length slot
unfolding next_message
length-next slot used last m = go (room_for slot (end_of (next_header used) m))
  where
    new : List ℕ
    new = gap_at used ++ (message_head m 0 ++ m.bytes)

    go : (b : Bool) → length (cond b (sets (set slot (last + 23) 1) used new) slot) ≡ length slot
    go true = length-sets (set slot (last + 23) 1) used new ∙ length-set slot (last + 23) 1
    go false = refl

-- a slot's start stays inside a word
pub slot-low : (n limit : ℕ) → limit < 65536 → n % 64 * limit < 64 * 65536
slot-low n limit h =
    let low : n % 64 ≤ 63 = omega arith in
    omega (arith, mul-le-mul_right limit low)

-- a buffer that fits has 64 slots of the limit's length
module _ (c : Card) (slots : List ℕ) (long : length slots ≡ 64 * c.limit) where
  pub slot-inside : (n : ℕ) → slot_start c n + c.limit ≤ length slots
  slot-inside n =
      let q : n % 64 < 64 = mod-lt n (lit< tt) in
      omega (arith, long, mul-le-mul_right c.limit q)

  pub slot-long : (n : ℕ) → length (slot_of c slots n) ≡ c.limit
  slot-long n =
      length-take-le c.limit (drop (slot_start c n) slots)
      (omega (arith, slot-inside n, length-drop (slot_start c n) slots))

module _ (c : Card) (slots : List ℕ) (m : Message) where
  abbrev num : ℕ
  num = c.window.next.0

  pub length-slot : (slot : List ℕ) → length (built_slot c slot m) ≡ length slot
  unfolding built_slot
  length-slot slot = go (eqb c.used 0)
    where
      go : (b : Bool)
          → length (cond b (first_message slot c.peer c.own num m) (next_message slot c.used c.last m))
          ≡ length slot
      go true = length-first slot c.peer c.own num m
      go false = length-next slot c.used c.last m

  pub length-slots : length (built_slots c slots m) ≡ length slots
  unfolding built_slots
  length-slots = length-sets slots (slot_start c num) (built_slot c (slot_of c slots num) m)

  module _ (long : length slots ≡ 64 * c.limit) where
    abbrev written : List ℕ
    written = built_slot c (slot_of c slots num) m

    written-long : length written ≡ c.limit
    written-long = length-slot (slot_of c slots num) ∙ slot-long c slots long num

    -- the slot of the frame being built is written
    pub own-slot : slot_of c (built_slots c slots m) num ≡ written
    unfolding built_slots
    own-slot =
        let at = slot_start c num in
        let l : length (take at slots) ≡ at = length-take-le at slots (omega (arith, slot-inside c slots long num)) in
        ap (λ (r : List ℕ). take c.limit (drop at r))
        (sets-eq written slots at (omega (arith, slot-inside c slots long num, written-long))
        ∙ append_assoc (take at slots) written (drop (at + length written) slots))
        ∙ ap (take c.limit) (drop_at (take at slots) (written ++ drop (at + length written) slots) at l)
        ∙ take_at written (drop (at + length written) slots) c.limit written-long

    -- and no other
    pub other-slot : (n : ℕ) → n % 64 ≢ num % 64 → slot_of c (built_slots c slots m) n ≡ slot_of c slots n
    unfolding built_slots
    other-slot n ne = go (dec_lt (n % 64) (num % 64))
      where
        go : Dec (n % 64 < num % 64) → slot_of c (built_slots c slots m) n ≡ slot_of c slots n
        go (yes l) =
            before-stores slots (slot_start c n) c.limit (slot_start c num) written
            (omega (arith, mul-le-mul_right c.limit l))
        go (no l) =
            let d : num % 64 ≡ n % 64 → ⊥ = λ e. ne (sym e) in
            let g : num % 64 < n % 64 = omega arith in
            ap (take c.limit)
            (after-stores slots (slot_start c n) (slot_start c num) written
            (omega (arith, written-long, mul-le-mul_right c.limit g)))

-- ---- the frame being built

-- It holds these messages: its length, the offset of its last header, and its bytes at the start of its slot.
abbrev pub Built : Card → List ℕ → List Message → Type 0
Built c slots [] = c.used ≡ 0
Built c slots (m ∷ ms) =
    let frame = frame_of c.peer c.own c.window.next.0 (m ∷ ms) in
    (c.used ≡ length frame) × (c.last ≡ last_at 10 (m ∷ ms))
    × (take (length frame) (slot_of c slots c.window.next.0) ≡ frame)

-- What a card holds of the frame being built, of the slots' size and of its IDs is all that this depends on.
pub built-same : (c c' : Card) (slots : List ℕ) (ms : List Message) → c'.peer ≡ c.peer → c'.own ≡ c.own
    → c'.window.next.0 ≡ c.window.next.0 → c'.limit ≡ c.limit → c'.used ≡ c.used → c'.last ≡ c.last
    → Built c slots ms → Built c' slots ms
built-same c c' slots [] p o n l u t k = u ∙ k
built-same c c' slots (m ∷ ms) p o n l u t k = rw (p, o, n, l, u, t) k

-- One message more, where it fits the slot.
module _ (c : Card) (slots : List ℕ) (m : Message) (ok : fits c.limit slots ≡ true)
    (room : end_of (header_offset c) m ≤ c.limit) where
  abbrev at : ℕ
  at = c.window.next.0

  abbrev slot : List ℕ
  slot = slot_of c slots at

  has_room : (size : ℕ) → size ≤ c.limit → room_for slot size ≡ true
  unfolding room_for
  has_room size h =
      let l : length slot ≡ c.limit = slot-long c slots (buffer-long c.limit slots ok) at in
      rw (
        le-leb size (length slot) (omega arith),
        le-leb size frame_most (omega (arith, limit-most c.limit slots ok)),
      )

  after : slot_of c (built_slots c slots m) at ≡ built_slot c slot m
  after = own-slot c slots m (buffer-long c.limit slots ok)

  -- the first one
  pub first-offset : c.used ≡ 0 → header_offset c ≡ 10
  unfolding next_header
  first-offset e = rw e

  pub built-first : c.used ≡ 0
      → take (end_of 10 m) (slot_of c (built_slots c slots m) at) ≡ frame_of c.peer c.own at (m ∷ [])
  unfolding built_slot
  built-first e =
      let h : end_of 10 m ≤ c.limit = omega (arith, first-offset e) in
      rw (after, eq-eqb c.used 0 e) (first-built slot c.peer c.own at m (has_room (end_of 10 m) h))

  -- a later one
  module _ (x : Message) (xs : List Message) (built : Built c slots (x ∷ xs)) where
    abbrev so_far : List ℕ
    so_far = frame_of c.peer c.own at (x ∷ xs)

    pub built-later : take (end_of (header_offset c) m) (slot_of c (built_slots c slots m) at)
        ≡ frame_of c.peer c.own at ((x ∷ xs) ++ (m ∷ []))
    unfolding built_slot
    built-later =
        let u : c.used ≡ length so_far = built.0 in
        let l : length so_far ≡ 10 + length (laid 10 (x ∷ xs)) = length-frame c.peer c.own at (x ∷ xs) in
        let some : eqb c.used 0 ≡ false = ne_eqb c.used 0 (λ e. omega arith) in
        let r : room_for slot (end_of (next_header (length so_far)) m) ≡ true =
        rw u at (has_room (end_of (header_offset c) m) room) in
        rw (after, some, u, built.1) (next_built slot c.peer c.own at x xs m built.2 r)

  -- So the frame of the messages so far and this one is being built.
  pub built-more : (t : ℕ) (ms : List Message) → Built c slots ms
      → Built (with_message c t m.bytes) (built_slots c slots m) (ms ++ (m ∷ []))
  unfolding with_message last_at
  built-more t [] k =
      let l : length (frame_of c.peer c.own at (m ∷ [])) ≡ end_of 10 m =
      length-frame c.peer c.own at (m ∷ []) ∙ length-laid-one 10 m in
      let p : header_offset c ≡ 10 = first-offset k in
      (rw (p, l), p, rw l (built-first k))
  built-more t (x ∷ xs) k =
      let u : c.used ≡ 10 + length (laid 10 (x ∷ xs)) = k.0 ∙ length-frame c.peer c.own at (x ∷ xs) in
      let l : length (frame_of c.peer c.own at ((x ∷ xs) ++ (m ∷ []))) ≡ end_of (header_offset c) m =
      length-frame c.peer c.own at ((x ∷ xs) ++ (m ∷ [])) ∙ length_more m 10 x xs
      ∙ ap (λ (n : ℕ). end_of (next_header n) m) (sym u) in
      (sym l, ap next_header u ∙ sym (last_more m 10 x xs), rw l (built-later x xs k))

-- ---- a sealed frame handed out

pub frame-in : (c : Card) (slots : List ℕ) (n size : ℕ) → fits c.limit slots ≡ true
    → get_or c.window.sizes (n % 64) 0 ≡ size
    → size ≤ c.limit → frame_in c slots n ≡ take size (slot_of c slots n)
unfolding frame_in
frame-in c slots n size ok is h =
    let q : n % 64 < 64 = mod-lt n (lit< tt) in
    let inside : slot_start c n + size ≤ length slots =
    omega (arith, buffer-long c.limit slots ok, mul-le-mul_right c.limit q) in
    rw (is, le-leb (slot_start c n + size) (length slots) inside)
    (sym (take-take size c.limit (drop (slot_start c n) slots) h))
