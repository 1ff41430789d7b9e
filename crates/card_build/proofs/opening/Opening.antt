-- Words cleared, and a card opened in them.
-- Assumes nothing.
use mathlib.Core.Path.{◌≡◌, refl, ◌∙◌}
use mathlib.Core.Logic.{◌≢◌}
use mathlib.Core.List.{List}
use Prim.Native.Nat.{ℕ, zero, suc, ◌+◌, ◌*◌, ◌/◌, ◌%◌, ◌≤◌, ◌<◌}
use native.Mathlib.Nat.{not-suc-le-zero}
use native.Mathlib.Decide.{dec_lt, ℕ_discrete}
use native.Mathlib.Omega.{arith}
use borrow.Author.Tests.{eq-eqb, ne_eqb}
use lib.ListN.{length, get_or, set, replicate, length-set}
use lib.Seq.{get_or-set_same, get_or-set_other}
use Rattle.words.specs.Words.{listed}
use Rattle.words.proofs.Words.{get_or-out, part_none}
use Rattle.words.proofs.Listed.{listed-all}
use Rattle.card.specs.declared.Card.{Card}
use Rattle.card.specs.Window.{empty_window}
use Rattle.card.specs.Sendings.{no_sending, no_sendings}
use Rattle.card.specs.Card.{fresh_card, card_refusal, open_card}
use Rattle.card_words.specs.declared.Head.{Head}
use Rattle.card_words.specs.Words.{size_in, sending_in, card_of, with_head}

-- every word is 0
abbrev Zeros : List ℕ → Type 0
Zeros w = (k : ℕ) → get_or w k 0 ≡ 0

zero-words : (n : ℕ) → Zeros (replicate n 0)
zero-words zero k = refl
zero-words (suc n) zero = refl
zero-words (suc n) (suc k) = zero-words n k

-- words of 0 are a card with nothing in it
blank-card : (w : List ℕ) → Zeros w → card_of w ≡ fresh_card 0 0 0
unfolding card_of fresh_card empty_window no_sendings
blank-card w clear =
    let sizes : listed (size_in w) 0 64 ≡ replicate 64 0 = listed-all (size_in w) 0 64 0 no_size in
    let table : listed (sending_in w) 0 32 ≡ replicate 32 no_sending =
    listed-all (sending_in w) no_sending 32 0 no-sending in
    rw (
      sizes,
      table,
      clear 0,
      clear 1,
      clear 2,
      clear 3,
      clear 4,
      part_none 16 0,
      part_none 16 1,
      part_none 16 2,
      part_none 16 3,
      part_none 32 0,
      part_none 32 1,
    )
  where
    no_size : (k : ℕ) → size_in w k ≡ 0
    no_size k = rw (clear (5 + k / 4)) (part_none 16 (k % 4))

    no-sending : (k : ℕ) → sending_in w k ≡ no_sending
    no-sending k =
        rw (
          clear (21 + 2 * k),
          clear (22 + 2 * k),
          part_none 32 0,
          part_none 32 1,
          part_none 16 0,
          part_none 16 1,
          part_none 16 2,
        )

pub cleared-card : (n : ℕ) (w : List ℕ) → w ≡ replicate n 0 → card_of w ≡ fresh_card 0 0 0
cleared-card n w e = rw e (blank-card (replicate n 0) (zero-words n))

abbrev fresh_head : ℕ → ℕ → ℕ → Head
fresh_head own peer limit = record {
  own = own;
  peer = peer;
  limit = limit;
  used = 0;
  last = 0;
  acked = 0;
  next = record { 0 = 0 };
  base = record { 0 = 0 };
  upcoming = record { 0 = 0 };
  lowest = record { 0 = 0 };
  finished = 0;
}

pub opened-card : (own peer limit : ℕ) (c : Card) → c ≡ fresh_card 0 0 0
    → with_head c (fresh_head own peer limit) ≡ fresh_card own peer limit
unfolding fresh_card empty_window no_sendings
opened-card own peer limit c e = rw e

-- what the answer tells of the opening
module _ (own peer limit : ℕ) (slots : List ℕ) (r : ℕ) (is : r ≡ card_refusal own peer limit slots) where
  pub opening-refused : r ≢ 0 → open_card own peer limit slots ≡ record { card = fresh_card 0 0 0; refusal = r }
  unfolding open_card
  opening-refused ne = rw (← is, ne_eqb r 0 ne)

  pub opening-done : r ≡ 0 → open_card own peer limit slots ≡ record { card = fresh_card own peer limit; refusal = 0 }
  unfolding open_card
  opening-done e = rw (← is, eq-eqb r 0 e)
