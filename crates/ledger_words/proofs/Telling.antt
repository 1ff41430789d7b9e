-- What is told of a subscriber, by what its words hold. Assumes nothing.
use Rattle.std.proofs.Common.{◌≡◌, ℕ, zero, suc, ◌+◌, ◌*◌, ◌<◌, ◌≤◌, true, false, List, [], ◌∷◌, Option, None, Some, length, get_or, refl, arith, le-leb}
use borrow.Author.Tests.{lt-leb}
use Rattle.words.specs.Words.{listed}
use Rattle.words.proofs.Listed.{length-listed}
use Rattle.ledger.specs.Ledger.{subscribers, counter_space}
use Rattle.ledger_words.specs.LedgerWords.{read_in, accounts_in, ledger_in}
use Rattle.ledger_words.specs.LedgerCalls.{if_read, told_total}
use Rattle.ledger_words.proofs.Holding.{seen_at, total-at}

past_end {ℓ} : {A : Type ℓ} (l : List A) (d : A) (i : ℕ) → length l ≤ i → get_or l i d ≡ d
past_end [] d i h = refl
past_end (x ∷ l) d zero h = absurd (omega arith)
past_end (x ∷ l) d (suc i) h = past_end l d i (omega arith)

module _ (w : List ℕ) (s : ℕ) where
  pub told-past : subscribers ≤ s → None ≡ if_read (told_total (ledger_in w) s)
  unfolding told_total ledger_in accounts_in
  told-past h =
      let l = length-listed (read_in w) 0 subscribers in
      rw (past_end (listed (read_in w) 0 subscribers) false s (omega (arith, l)))

  module _ (h : s < subscribers) (kept : ℕ) (e : kept ≡ get_or w (2 * s + 1) 0) where
    pub told-unread : kept < counter_space → None ≡ if_read (told_total (ledger_in w) s)
    unfolding told_total ledger_in
    told-unread k =
        rw (seen_at w (get_or w 2048 0) s h, lt-leb counter_space (get_or w (2 * s + 1) 0) (rw e at k))

    pub told-read : counter_space ≤ kept → (total : ℕ) → total ≡ get_or w (2 * s) 0
        → Some total ≡ if_read (told_total (ledger_in w) s)
    unfolding told_total ledger_in
    told-read k total t =
        rw (
          seen_at w (get_or w 2048 0) s h,
          le-leb counter_space (get_or w (2 * s + 1) 0) (rw e at k),
          total-at w (get_or w 2048 0) s h,
          t,
        )
