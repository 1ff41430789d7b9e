-- What is chosen of a card in lent words, and that offset and length are those of the part itself.
-- Assumes nothing.
use mathlib.Core.Path.{◌≡◌, refl, sym, ap, ◌∙◌}
use mathlib.Core.Logic.{◌≢◌}
use mathlib.Core.Bool.{Bool, true, false, cond}
use mathlib.Core.List.{List, []}
use Prim.Native.Nat.{ℕ, ◌+◌, ◌^◌, ◌≤◌, ◌<◌, min}
use native.Mathlib.Decide.{dec_lt}
use native.Mathlib.Omega.{arith}
use borrow.Author.Tests.{eq-eqb, ne_eqb, eqb-true}
use lib.Dec.{eqb, ltb}
use lib.ListN.{length, take, drop}
use lib.Seq.{take_all}
use Rattle.refusal.specs.declared.Reason.{Reason}
use Rattle.refusal.specs.Reason.{number}
use Rattle.refusal.proofs.Numbers.{number-positive}
use Rattle.seq.specs.Ring.{frame_space, distance, advance}
use Rattle.bitmap.specs.Marks.{trailing_ones}
use Rattle.bitmap.proofs.Marks.{ones_cut, ones-whole}
use Rattle.card.specs.Window.{before_held, any_held, oldest_held}
use Rattle.card.specs.Card.{frame_in, is_ack, choose_refusal, choose_next}
use Rattle.card_words.specs.declared.Head.{Head}
use Rattle.card_words.specs.Words.{card_words, card_of, head_part, or_other_length}
use Rattle.card_words.proofs.Heads.{unreleased-read}
use Rattle.card_send.specs.declared.show.Part.{Part}
use Rattle.card_send.specs.declared.choose.Chosen.TheVariants.{Acknowledgement, Frame}
use Rattle.card_send.specs.Parts.{part_of, no_part, frame_part}
use Rattle.card_send.proofs.show.Parts.{PartIs, frame_is}
use Rattle.card_send.specs.Choices.{Choice, choice_of, chosen_part, chosen_in}

-- ---- held frames, by the head

-- the run among the first `most` marks is the run of the whole word, cut
pub run-cut : (m most run r : ℕ) → m < 2 ^ 64 → run ≡ trailing_ones 64 m → r ≡ min run most → r ≡ trailing_ones most m
run-cut m most run r fits run-is is = go (dec_lt most (trailing_ones 64 m))
  where
    go : Dec (most < trailing_ones 64 m) → r ≡ trailing_ones most m
    go (yes l) =
        let e : r ≡ most = omega arith in
        e ∙ sym (ones_cut 64 m most fits l)
    go (no l) =
        let e : r ≡ trailing_ones 64 m = omega arith in
        e ∙ sym (ones-whole 64 m most fits (omega arith))

module _ (w : List ℕ) (h : Head) (head-is : h ≡ head_part (card_of w)) where
  module _ (u : ℕ) (u-is : u ≡ distance frame_space h.base.0 h.next.0) where
    pub before-is : (r : ℕ) → r ≡ trailing_ones u h.acked → r ≡ before_held (card_of w).window
    unfolding before_held
    before-is r is = rw (unreleased-read w h head-is u u-is, head-is) at is

    pub any-is : (r : ℕ) → r ≡ before_held (card_of w).window → ltb r u ≡ any_held (card_of w).window
    any-is r is = rw (is, unreleased-read w h head-is u u-is)

  pub oldest-is : (r n : ℕ) → r ≡ before_held (card_of w).window → n ≡ advance frame_space h.base.0 r
      → n ≡ oldest_held (card_of w).window
  oldest-is r n is n-is = n-is ∙ rw (is, head-is)

-- ---- the choice

module _ (w slots ack : List ℕ) (r : ℕ) (is : r ≡ or_other_length w (choose_refusal (card_of w) slots ack)) where
  pub chosen_none : r ≢ 0 → [] ≡ chosen_in w slots ack
  unfolding chosen_in choose_next
  chosen_none ne = go (eqb (length w) card_words) refl
    where
      go : (a : Bool) → eqb (length w) card_words ≡ a → [] ≡ chosen_in w slots ack
      go false x = rw x
      go true x =
          let k : r ≡ choose_refusal (card_of w) slots ack = is ∙ rw x in
          rw (x, ← k, ne_eqb r 0 ne)

  pub chosen-some : r ≡ 0
      → cond (is_ack ack) ack (frame_in (card_of w) slots (oldest_held (card_of w).window)) ≡ chosen_in w slots ack
  unfolding chosen_in choose_next
  chosen-some e = go (eqb (length w) card_words) refl
    where
      go : (a : Bool) → eqb (length w) card_words ≡ a
          → cond (is_ack ack) ack (frame_in (card_of w) slots (oldest_held (card_of w).window)) ≡ chosen_in w slots ack
      go false x =
          let k : r ≡ 255 = is ∙ rw x in
          absurd (omega arith)
      go true x =
          let k : r ≡ choose_refusal (card_of w) slots ack = is ∙ rw x in
          rw (x, ← k, eq-eqb r 0 e)

module _ (w slots ack : List ℕ) where
  -- the refusal is told as it is
  pub choosing-refused : (reason : Reason) → number reason ≡ or_other_length w (choose_refusal (card_of w) slots ack)
      → number reason ≡ (chosen_part w slots ack).refusal
  unfolding chosen_part
  choosing-refused reason is =
      rw (← is, ne_eqb (number reason) 0 (λ z. omega (arith, number-positive reason)))

  -- and comes with no part
  pub none-chosen : (chosen_part w slots ack).refusal ≢ 0
      → chosen_part w slots ack
      ≡ record { refusal = (chosen_part w slots ack).refusal; lent = false; part = no_part }
  unfolding chosen_part
  none-chosen ne =
      go (eqb (or_other_length w (choose_refusal (card_of w) slots ack)) 0) refl (is_ack ack) refl
    where
      go : (b : Bool) → eqb (or_other_length w (choose_refusal (card_of w) slots ack)) 0 ≡ b
          → (d : Bool) → is_ack ack ≡ d
          → chosen_part w slots ack
          ≡ record { refusal = (chosen_part w slots ack).refusal; lent = false; part = no_part }
      go false y d z = rw y
      go true y false z = absurd (ne (rw (y, z)))
      go true y true z = absurd (ne (rw (y, z)))

  -- the same where the refusal is told without a look at the words' length
  pub unchosen : (reason : Reason) → number reason ≡ choose_refusal (card_of w) slots ack
      → ((chosen_part w slots ack).lent ≡ false) × ((chosen_part w slots ack).part ≡ no_part)
  unfolding chosen_part
  unchosen reason is = go (eqb (length w) card_words) refl
    where
      go : (a : Bool) → eqb (length w) card_words ≡ a
          → ((chosen_part w slots ack).lent ≡ false) × ((chosen_part w slots ack).part ≡ no_part)
      go false x = (rw x, rw x)
      go true x =
          let some = ne_eqb (number reason) 0 (λ z. omega (arith, number-positive reason)) in
          (rw (x, ← is, some), rw (x, ← is, some))

  pub lent-chosen : 0 ≡ or_other_length w (choose_refusal (card_of w) slots ack) → is_ack ack ≡ true
      → chosen_part w slots ack ≡ choice_of Acknowledgement
  unfolding chosen_part
  lent-chosen is e = rw (← is, e)

  pub frame-chosen : 0 ≡ or_other_length w (choose_refusal (card_of w) slots ack) → is_ack ack ≡ false → (p : Part)
      → p ≡ frame_part (card_of w) slots (oldest_held (card_of w).window)
      → chosen_part w slots ack ≡ choice_of (Frame p)
  unfolding chosen_part
  frame-chosen is e p p-is = rw (← is, e, p-is)

-- a part of the lent acknowledgement, or of the slots
pub chosen_is : (w slots ack : List ℕ)
    → part_of (chosen_part w slots ack).part (cond (chosen_part w slots ack).lent ack slots) ≡ chosen_in w slots ack
unfolding chosen_part chosen_in choose_next
chosen_is w slots ack =
    go (eqb (length w) card_words) refl (eqb (choose_refusal (card_of w) slots ack) 0) refl (is_ack ack) refl
  where
    go : (a : Bool) → eqb (length w) card_words ≡ a → (b : Bool) → eqb (choose_refusal (card_of w) slots ack) 0 ≡ b
        → (d : Bool) → is_ack ack ≡ d
        → part_of (chosen_part w slots ack).part (cond (chosen_part w slots ack).lent ack slots) ≡ chosen_in w slots ack
    go false x b y d z = rw x
    go true x false y d z = rw (x, y)
    go true x true y true z =
        let ten : length ack ≡ 10 = eqb-true (length ack) 10 z in
        rw (x, y, z) (take_all 10 ack (omega arith))
    go true x true y false z = rw (x, y, z) (frame_is (card_of w) slots (oldest_held (card_of w).window)).is

-- that part lies in its buffer
chosen-inside : (w slots ack : List ℕ)
    → (chosen_part w slots ack).part.offset + (chosen_part w slots ack).part.len
    ≤ length (cond (chosen_part w slots ack).lent ack slots)
unfolding chosen_part
chosen-inside w slots ack =
    go (eqb (or_other_length w (choose_refusal (card_of w) slots ack)) 0) refl (is_ack ack) refl
  where
    go : (b : Bool) → eqb (or_other_length w (choose_refusal (card_of w) slots ack)) 0 ≡ b
        → (d : Bool) → is_ack ack ≡ d
        → (chosen_part w slots ack).part.offset + (chosen_part w slots ack).part.len
        ≤ length (cond (chosen_part w slots ack).lent ack slots)
    go false y d z = rw y (omega arith)
    go true y true z = rw (y, z) (omega (arith, eqb-true (length ack) 10 z))
    go true y false z = rw (y, z) (frame_is (card_of w) slots (oldest_held (card_of w).window)).inside

lent-of-ten : (w slots ack : List ℕ) → true ≡ (chosen_part w slots ack).lent → length ack ≡ 10
unfolding chosen_part
lent-of-ten w slots ack l =
    go (eqb (or_other_length w (choose_refusal (card_of w) slots ack)) 0) refl (is_ack ack) refl l
  where
    go : (b : Bool) → eqb (or_other_length w (choose_refusal (card_of w) slots ack)) 0 ≡ b
        → (d : Bool) → is_ack ack ≡ d → true ≡ (chosen_part w slots ack).lent → length ack ≡ 10
    go b y true z l = eqb-true (length ack) 10 z
    go false y false z l = absurd (cc (rw y at l))
    go true y false z l = absurd (cc (rw (y, z) at l))

-- what goes out
module _ (w slots ack : List ℕ) where
  pub frame-goes-out : (p : Part) → choice_of (Frame p) ≡ chosen_part w slots ack
      → PartIs p slots (chosen_in w slots ack)
  frame-goes-out p e =
      record { inside = rw (← e) at (chosen-inside w slots ack); is = rw (← e) at (chosen_is w slots ack) }

  pub nothing-goes-out : (reason : Reason) → number reason ≡ (chosen_part w slots ack).refusal
      → [] ≡ chosen_in w slots ack
  nothing-goes-out reason is =
      let none = none-chosen w slots ack (λ z. omega (arith, number-positive reason)) in
      rw none at (chosen_is w slots ack)

  pub lent-goes-out : choice_of Acknowledgement ≡ chosen_part w slots ack → ack ≡ chosen_in w slots ack
  lent-goes-out e =
      let whole : take 10 (drop 0 ack) ≡ chosen_in w slots ack = rw (← e) at (chosen_is w slots ack) in
      let ten = lent-of-ten w slots ack (ap (λ (c : Choice). c.lent) e) in
      sym (take_all 10 ack (omega arith)) ∙ whole
