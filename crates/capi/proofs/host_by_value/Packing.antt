-- What receiving by value comes to, in words into which the pair is packed only where the frame took effect.
-- Assumes nothing.
use mathlib.Core.Path.{◌≡◌, refl, sym, ap, ◌∙◌}
use mathlib.Core.Logic.{◌≢◌, ◌⊎◌, inl, inr}
use mathlib.Core.Bool.{true, false}
use mathlib.Core.List.{List}
use Prim.Native.Nat.{ℕ}
use native.Mathlib.Omega.{arith}
use borrow.Author.Tests.{eq-eqb, ne_eqb}
use lib.Dec.{eqb}
use lib.ListN.{get_or}
use Rattle.host.specs.declared.Answer.{Answer}
use Rattle.host.specs.declared.Answer.TheVariants.{Accepted, Again, NoMessages, Refused}
use Rattle.host.specs.declared.Pair.{Pair}
use Rattle.host.specs.declared.Stepped.{Stepped}
use Rattle.host.specs.Host.{took_effect, answer_words, receive_of, stepped_of, LeavesWords}
use Rattle.host.proofs.Answers.{effect-told}
use Rattle.host_words.specs.Words.{pair_of}
use Rattle.delivery.specs.Demand3.{seen_as}
use Rattle.delivery_restarts.specs.OverRestarts.{acceptances}
use Rattle.delivery_restarts.proofs.Accepting.{acceptance, unmoved}
use Rattle.logwhisker.specs.Face.{received}

no-acceptance : (a : Answer) → took_effect a ≡ false → acceptance a ≡ 0
unfolding acceptances seen_as
no-acceptance (Accepted n sums run) e = let z : ◌≡◌ {A = ℕ} 0 1 = cc in absurd (omega (arith, z))
no-acceptance (Again n run) e = refl
no-acceptance NoMessages e = refl
no-acceptance (Refused r) e = refl

-- The pair is packed where the kind of the answer is 1, and the words stay as they were where it is another.
abbrev pub Packed : ℕ → Pair → List ℕ → List ℕ → Type 0
Packed kind pair w words = ((kind ≡ 1) × (pair_of words ≡ pair)) ⊎ ((kind ≢ 1) × (words ≡ w))

module _ (w f memory words : List ℕ) (kind : ℕ)
    (told : kind ≡ get_or (answer_words (received w f memory).answer) 0 0) where
  effect : eqb kind 1 ≡ took_effect (received w f memory).answer
  effect = rw told (effect-told (received w f memory).answer)

  pub holds : Packed kind (received w f memory).pair w words → pair_of words ≡ (received w f memory).pair
  holds (inl (one, e)) = e
  holds (inr (other, e)) =
      let none = no-acceptance (received w f memory).answer (sym effect ∙ ne_eqb kind 1 other) in
      ap pair_of e ∙ sym (unmoved (pair_of w) f memory none).0

  pub leaves : Packed kind (received w f memory).pair w words → LeavesWords (received w f memory).answer w words
  leaves (inl (one, e)) none =
      let both : true ≡ false = sym (eq-eqb kind 1 one) ∙ effect ∙ none in
      let z : ◌≡◌ {A = ℕ} 0 1 = cc in
      absurd (omega (arith, z))
  leaves (inr (other, e)) none = e

pub received-in-words : (w f memory : List ℕ) (q : Pair) → q ≡ pair_of w
    → (s : Stepped) → s ≡ stepped_of (receive_of q f memory)
    → (left : List ℕ) → left ≡ (receive_of q f memory).memory
    → (kind : ℕ) → kind ≡ get_or (answer_words s.answer) 0 0
    → (words : List ℕ) → Packed kind s.pair w words
    → (out : List ℕ) → out ≡ answer_words s.answer
    → (kind ≡ get_or (answer_words (received w f memory).answer) 0 0)
    × ((pair_of words ≡ (received w f memory).pair)
    × ((left ≡ (received w f memory).memory)
    × ((out ≡ answer_words (received w f memory).answer) × LeavesWords (received w f memory).answer w words)))
received-in-words w f memory q q-is s s-is left left_is kind kind-is words words_are out out-is = (
  told,
  (
    holds w f memory words kind told packed,
    (
      left_is ∙ ap (λ (q : Pair). (receive_of q f memory).memory) q-is,
      (out-is ∙ ap answer_words answer, leaves w f memory words kind told packed),
    ),
  ),
)
  where
    answer : s.answer ≡ (received w f memory).answer
    answer = ap (λ (s : Stepped). s.answer) s-is ∙ ap (λ (q : Pair). (receive_of q f memory).answer) q-is

    pair : s.pair ≡ (received w f memory).pair
    pair = ap (λ (s : Stepped). s.pair) s-is ∙ ap (λ (q : Pair). (receive_of q f memory).pair) q-is

    told : kind ≡ get_or (answer_words (received w f memory).answer) 0 0
    told = kind-is ∙ ap (λ (a : Answer). get_or (answer_words a) 0 0) answer

    packed : Packed kind (received w f memory).pair w words
    packed = rw (← pair) words_are
