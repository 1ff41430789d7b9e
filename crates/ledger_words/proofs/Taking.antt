-- A block that is taken as arrays of eight bytes: refused for its size, refused for a reading, and entered.
-- Assumes nothing.
use Rattle.std.proofs.Common.{◌≡◌, ℕ, ◌/◌, ◌%◌, ◌≢◌, List, length, map, sym, refl, ap, ◌∙◌, arith}
use Rattle.std.specs.Simd.{first_chunks}
use Rattle.ledger.specs.Ledger.{Outcome, readings_of, entered_all, taken}
use Rattle.ledger.proofs.Steps.{bad-size, good-size, accepted-block, refused-block}
use Rattle.ledger_words.specs.LedgerWords.{ledger_words, ledger_in, reading_in}
use Rattle.ledger_words.specs.LedgerCalls.{TakesBlock}
use Rattle.ledger_words.proofs.Loops.{as_chunks_read}

module _ (w block left : List ℕ) (long : length w ≡ ledger_words) where
  refuses : (r : ℕ) → r ≡ (taken (ledger_in w) block).refusal → r ≢ 0 → left ≡ w → TakesBlock w block left r
  refuses r e n q = (
    (
      λ l. (rw q (sym (refused-block (ledger_in w) block (λ z. n (e ∙ z)))), e),
      λ m. absurd (m long),
    ),
    λ m. q,
  )

  pub refuses-size : length block % 8 ≢ 0 → left ≡ w → TakesBlock w block left 40
  refuses-size h =
      refuses 40 (sym (ap (λ (o : Outcome). o.refusal) (bad-size (ledger_in w) block h))) (λ z. omega arith)

  module _ (v : List ℕ) (same : v ≡ w) (readings : List (List ℕ))
      (e : readings ≡ first_chunks 8 (length block / 8) block) (whole : length block % 8 ≡ 0) where
    outcome : entered_all (ledger_in v) (map reading_in readings) ≡ entered_all (ledger_in w) (readings_of block)
    outcome = rw (same, e, as_chunks_read block)

    refusal_is : (entered_all (ledger_in v) (map reading_in readings)).refusal ≡ (taken (ledger_in w) block).refusal
    refusal_is = ap (λ (o : Outcome). o.refusal) outcome ∙ sym (good-size (ledger_in w) block whole)

    pub refuses-reading : (r : ℕ) → r ≡ (entered_all (ledger_in v) (map reading_in readings)).refusal → r ≢ 0
        → left ≡ w → TakesBlock w block left r
    refuses-reading r q = refuses r (q ∙ refusal_is)

    pub enters : 0 ≡ (entered_all (ledger_in v) (map reading_in readings)).refusal
        → ledger_in left ≡ (entered_all (ledger_in v) (map reading_in readings)).ledger → TakesBlock w block left 0
    enters z q =
        let t = accepted-block (ledger_in w) block (sym (z ∙ refusal_is)) in (
          (λ l. (q ∙ ap (λ (o : Outcome). o.ledger) (outcome ∙ sym t), z ∙ refusal_is), λ m. absurd (m long)),
          λ m. absurd (m refl),
        )
