-- The refusals that a showing and a choice carry are those of the calls that answer them alone.
-- Assumes nothing.
use mathlib.Core.Path.{◌≡◌, refl, sym, ap, ◌∙◌}
use mathlib.Core.Bool.{Bool, true, false, cond}
use mathlib.Core.List.{List}
use Prim.Native.Nat.{ℕ}
use borrow.Author.Tests.{eq-eqb, eqb-true}
use lib.Dec.{eqb}
use lib.ListN.{length}
use Rattle.card.specs.Card.{is_ack, choose_refusal}
use Rattle.card_words.specs.Words.{card_of}
use Rattle.card_send.specs.Parts.{Showing, shown_part}
use Rattle.card_send.specs.Choices.{Choice, chosen_part}
use Rattle.logwhisker.specs.Face.{frame_shown, next_chosen}

showing-carries : (r : ℕ) (x y : Showing) → x.refusal ≡ 0 → y.refusal ≡ r → (cond (eqb r 0) x y).refusal ≡ r
showing-carries r x y none some = go (eqb r 0) refl
  where
    go : (t : Bool) → eqb r 0 ≡ t → (cond t x y).refusal ≡ r
    go true e = none ∙ sym (eqb-true r 0 e)
    go false e = some

module _ (w slots : List ℕ) (long : length w ≡ 85) where
  pub shown-refusal : (n : ℕ) (s : Showing) → s ≡ shown_part w slots n → s.refusal ≡ (frame_shown w slots n).refusal
  unfolding shown_part
  shown-refusal n s is =
      ap (λ (x : Showing). x.refusal) is
      ∙ rw (eq-eqb (length w) 85 long) (showing-carries _ _ _ refl refl)

  pub chosen-refusal : (ack : List ℕ) (k : Choice) → k ≡ chosen_part w slots ack
      → k.refusal ≡ (next_chosen w slots ack).refusal
  unfolding chosen_part
  chosen-refusal ack k is =
      ap (λ (x : Choice). x.refusal) is ∙ go (eqb (choose_refusal (card_of w) slots ack) 0) refl (is_ack ack) refl
    where
      go : (t : Bool) → eqb (choose_refusal (card_of w) slots ack) 0 ≡ t → (d : Bool) → is_ack ack ≡ d
          → (chosen_part w slots ack).refusal ≡ choose_refusal (card_of w) slots ack
      go true e true z =
          rw (eq-eqb (length w) 85 long, e, z) (sym (eqb-true (choose_refusal (card_of w) slots ack) 0 e))
      go true e false z =
          rw (eq-eqb (length w) 85 long, e, z) (sym (eqb-true (choose_refusal (card_of w) slots ack) 0 e))
      go false e d z = rw (eq-eqb (length w) 85 long, e)
