-- What is held and shown of a card in lent words, and that offset and length are those of the part itself.
-- Assumes nothing.
use mathlib.Core.Path.{◌≡◌, refl, ◌∙◌}
use mathlib.Core.Logic.{◌≢◌}
use mathlib.Core.Bool.{Bool, true, false, not}
use mathlib.Core.List.{List, []}
use Prim.Native.Nat.{ℕ, ◌+◌, ◌*◌, ◌%◌, ◌≤◌, ◌<◌}
use native.Mathlib.Decide.{dec_le}
use native.Mathlib.Omega.{arith}
use borrow.Author.Tests.{lt-ltb, le-ltb, le-leb, lt-leb, eq-eqb, ne_eqb}
use lib.Dec.{eqb}
use lib.ListN.{length}
use Rattle.refusal.specs.declared.Reason.{Reason}
use Rattle.refusal.specs.Reason.{number}
use Rattle.refusal.proofs.Numbers.{number-positive}
use Rattle.seq.specs.Ring.{frame_space, distance}
use Rattle.bitmap.specs.Marks.{mark}
use Rattle.card.specs.declared.Card.{Card}
use Rattle.card.specs.Window.{size_of, held}
use Rattle.card.specs.Card.{slot_start, frame_in, show_refusal, show_frame}
use Rattle.card_words.specs.declared.Head.{Head}
use Rattle.card_words.specs.Words.{card_words, card_of, head_part, or_other_length}
use Rattle.card_words.proofs.Heads.{unreleased-read}
use Rattle.card_send.specs.declared.show.Part.{Part}
use Rattle.card_send.specs.Parts.{part_of, no_part, frame_part, shown_part, shown_in}

-- ---- held frames, by the head

module _ (w : List ℕ) (h : Head) (head-is : h ≡ head_part (card_of w)) where
  module _ (u : ℕ) (u-is : u ≡ distance frame_space h.base.0 h.next.0) where
    module _ (n d : ℕ) (d-is : d ≡ distance frame_space h.base.0 n) where
      away : d ≡ distance frame_space (card_of w).window.base.0 n
      away = rw head-is at d-is

      pub not-sealed : u ≤ d → false ≡ held (card_of w).window n
      unfolding held
      not-sealed l = rw (← away, ← unreleased-read w h head-is u u-is, le-ltb d u l)

      pub sealed-held : d < u → (m : Bool) → m ≡ mark h.acked d → not m ≡ held (card_of w).window n
      unfolding held
      sealed-held l m is =
          let k : m ≡ mark (card_of w).window.acked d = rw head-is at is in
          rw (← away, ← unreleased-read w h head-is u u-is, lt-ltb d u l, k)

  -- ---- where a sealed frame lies in the slots, by the head

  module _ (slots : List ℕ) (n start size : ℕ) (start_is : start ≡ n % 64 * h.limit)
      (size_is : size ≡ size_of (card_of w).window n) where
    starts : start ≡ slot_start (card_of w) n
    starts = rw head-is at start_is

    pub frame-inside : start + size ≤ length slots
        → record { offset = start; len = size } ≡ frame_part (card_of w) slots n
    unfolding frame_part
    frame-inside l = rw (← starts, ← size_is, le-leb (start + size) (length slots) l)

    pub frame-outside : length slots < start + size → no_part ≡ frame_part (card_of w) slots n
    unfolding frame_part
    frame-outside l = rw (← starts, ← size_is, lt-leb (start + size) (length slots) l)

-- ---- parts of the slots

-- a frame's part lies in the slots, and is the frame
pub record PartIs (p : Part) (slots out : List ℕ) : Type 0 where
  pub inside : p.offset + p.len ≤ length slots
  pub is : part_of p slots ≡ out

pub none_is : (slots : List ℕ) → PartIs no_part slots []
none_is slots = record { inside = omega arith; is = refl }

pub frame_is : (c : Card) (slots : List ℕ) (n : ℕ) → PartIs (frame_part c slots n) slots (frame_in c slots n)
unfolding frame_part frame_in
frame_is c slots n = go (dec_le (slot_start c n + size_of c.window n) (length slots))
  where
    go : Dec (slot_start c n + size_of c.window n ≤ length slots)
        → PartIs (frame_part c slots n) slots (frame_in c slots n)
    go (yes l) = rw (le-leb (slot_start c n + size_of c.window n) (length slots) l) (record { inside = l; is = refl })
    go (no l) = rw (lt-leb (slot_start c n + size_of c.window n) (length slots) (omega arith)) (none_is slots)

pub lies-inside : (c : Card) (slots : List ℕ) (n : ℕ) (p : Part) → p ≡ frame_part c slots n
    → PartIs p slots (frame_in c slots n)
lies-inside c slots n p e = rw e (frame_is c slots n)

-- ---- showing

module _ (w slots : List ℕ) (n r : ℕ) (is : r ≡ or_other_length w (show_refusal (card_of w) slots n)) where
  pub shown-none : r ≢ 0 → [] ≡ shown_in w slots n
  unfolding shown_in show_frame
  shown-none ne = go (eqb (length w) card_words) refl
    where
      go : (a : Bool) → eqb (length w) card_words ≡ a → [] ≡ shown_in w slots n
      go false x = rw x
      go true x =
          let k : r ≡ show_refusal (card_of w) slots n = is ∙ rw x in
          rw (x, ← k, ne_eqb r 0 ne)

  pub shown-some : r ≡ 0 → frame_in (card_of w) slots n ≡ shown_in w slots n
  unfolding shown_in show_frame
  shown-some e = go (eqb (length w) card_words) refl
    where
      go : (a : Bool) → eqb (length w) card_words ≡ a → frame_in (card_of w) slots n ≡ shown_in w slots n
      go false x =
          let k : r ≡ 255 = is ∙ rw x in
          absurd (omega arith)
      go true x =
          let k : r ≡ show_refusal (card_of w) slots n = is ∙ rw x in
          rw (x, ← k, eq-eqb r 0 e)

module _ (w slots : List ℕ) (n : ℕ) where
  -- the refusal is told as it is
  pub showing-refused : (reason : Reason) → number reason ≡ or_other_length w (show_refusal (card_of w) slots n)
      → number reason ≡ (shown_part w slots n).refusal
  unfolding shown_part
  showing-refused reason is =
      rw (← is, ne_eqb (number reason) 0 (λ z. omega (arith, number-positive reason)))

  -- and comes with no part
  pub no-part-shown : (shown_part w slots n).refusal ≢ 0 → (shown_part w slots n).part ≡ no_part
  unfolding shown_part
  no-part-shown ne = go (eqb (or_other_length w (show_refusal (card_of w) slots n)) 0) refl
    where
      go : (b : Bool) → eqb (or_other_length w (show_refusal (card_of w) slots n)) 0 ≡ b
          → (shown_part w slots n).part ≡ no_part
      go false y = rw y
      go true y = absurd (ne (rw y))

  -- the same where the refusal is told without a look at the words' length
  pub unshown : (reason : Reason) → number reason ≡ show_refusal (card_of w) slots n
      → (shown_part w slots n).part ≡ no_part
  unfolding shown_part
  unshown reason is = go (eqb (length w) card_words) refl
    where
      go : (a : Bool) → eqb (length w) card_words ≡ a → (shown_part w slots n).part ≡ no_part
      go false x = rw x
      go true x = rw (x, ← is, ne_eqb (number reason) 0 (λ z. omega (arith, number-positive reason)))

-- offset and length are those of the part
pub shown-is : (w slots : List ℕ) (n : ℕ) → PartIs (shown_part w slots n).part slots (shown_in w slots n)
unfolding shown_part shown_in show_frame
shown-is w slots n = go (eqb (length w) card_words) refl (eqb (show_refusal (card_of w) slots n) 0) refl
  where
    go : (a : Bool) → eqb (length w) card_words ≡ a → (b : Bool) → eqb (show_refusal (card_of w) slots n) 0 ≡ b
        → PartIs (shown_part w slots n).part slots (shown_in w slots n)
    go false x b y = rw x (none_is slots)
    go true x false y = rw (x, y) (none_is slots)
    go true x true y = rw (x, y) (frame_is (card_of w) slots n)

pub nothing-shown : (w slots : List ℕ) (n : ℕ) (reason : Reason) → number reason ≡ (shown_part w slots n).refusal
    → [] ≡ shown_in w slots n
nothing-shown w slots n reason is =
    let none = no-part-shown w slots n (λ z. omega (arith, number-positive reason)) in
    rw none at (shown-is w slots n).is
