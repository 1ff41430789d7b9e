-- What receiving in words comes to, from what the plain host hands back.
-- Assumes nothing.
use mathlib.Core.Path.{◌≡◌, ap, ◌∙◌}
use mathlib.Core.Logic.{◌≢◌}
use mathlib.Core.Bool.{cond}
use mathlib.Core.List.{List}
use Prim.Native.Nat.{ℕ}
use borrow.Author.Tests.{eq-eqb, ne_eqb}
use lib.Dec.{eqb}
use lib.ListN.{get_or}
use Rattle.host.specs.declared.Answer.{Answer}
use Rattle.host.specs.Host.{answer_words}
use Rattle.host.proofs.Answers.{effect-told}
use Rattle.host_plain.specs.declared.PlainPair.{PlainPair}
use Rattle.host_plain.specs.declared.PlainStepped.{PlainStepped}
use Rattle.host_plain.specs.Plain.{receive_of, stepped_of}
use Rattle.capi_plain.specs.Words.{plain_of, words_of, received, left_words}

pub stored : (kind : ℕ) (a b : List ℕ) → kind ≡ 1 → a ≡ cond (eqb kind 1) a b
stored kind a b e = rw (eq-eqb kind 1 e)

pub kept : (kind : ℕ) (a b : List ℕ) → kind ≢ 1 → b ≡ cond (eqb kind 1) a b
kept kind a b e = rw (ne_eqb kind 1 e)

pub received-in-words : (w f memory : List ℕ) (q : PlainPair) → q ≡ plain_of w
    → (s : PlainStepped) → s ≡ stepped_of (receive_of q f memory)
    → (left : List ℕ) → left ≡ (receive_of q f memory).memory
    → (kind : ℕ) → kind ≡ get_or (answer_words s.answer) 0 0
    → (words : List ℕ) → words ≡ cond (eqb kind 1) (words_of s.pair) w
    → (out : List ℕ) → out ≡ answer_words s.answer
    → (kind ≡ get_or (answer_words (received w f memory).answer) 0 0)
    × ((words ≡ left_words w (received w f memory))
    × ((left ≡ (received w f memory).memory) × (out ≡ answer_words (received w f memory).answer)))
received-in-words w f memory q q-is s s-is left left_is kind kind-is words words-is out out-is = (
  kind-is ∙ ap (λ (a : Answer). get_or (answer_words a) 0 0) answer,
  (
    words-is ∙ rw (kind-is, effect-told s.answer, answer, pair),
    (left_is ∙ ap (λ (q : PlainPair). (receive_of q f memory).memory) q-is, out-is ∙ ap answer_words answer),
  ),
)
  where
    answer : s.answer ≡ (received w f memory).answer
    answer = ap (λ (s : PlainStepped). s.answer) s-is ∙ ap (λ (q : PlainPair). (receive_of q f memory).answer) q-is

    pair : s.pair ≡ (received w f memory).pair
    pair = ap (λ (s : PlainStepped). s.pair) s-is ∙ ap (λ (q : PlainPair). (receive_of q f memory).pair) q-is
