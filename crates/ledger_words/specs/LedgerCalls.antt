-- What is promised of opening a ledger in 2,049 words and of taking a block there, and of any other number of words;
-- and what a caller is told of a subscriber. Assumes nothing.
use Rattle.std.specs.Prelude.{◌≡◌, ℕ, Bool, true, false, cond, ◌≢◌, List, length, Option, None, Some}
use Rattle.ledger.specs.Ledger.{Ledger, Outcome, seen_of, total_of, empty, taken}
use Rattle.ledger_words.specs.LedgerWords.{ledger_words, ledger_in}

abbrev pub other_length : ℕ
other_length = 255

-- What a call leaves is in the words, and its refusal, 0 for none, is the answer. Words of another number stay as they
-- are.
abbrev pub HoldsLedger : List ℕ → Outcome → List ℕ → ℕ → Type 0
HoldsLedger w outcome left r =
    (length w ≡ ledger_words → (ledger_in left ≡ outcome.ledger) × (r ≡ outcome.refusal))
    × (length w ≢ ledger_words → (left ≡ w) × (r ≡ other_length))

abbrev pub OpensLedger : List ℕ → List ℕ → ℕ → Type 0
OpensLedger w left r = HoldsLedger w (record { refusal = 0; ledger = empty }) left r

-- A refused block leaves the words as they were, word for word.
abbrev pub TakesBlock : List ℕ → List ℕ → List ℕ → ℕ → Type 0
TakesBlock w block left r = HoldsLedger w (taken (ledger_in w) block) left r × (r ≢ 0 → left ≡ w)

-- A subscriber's total, with whether it was ever read. There is none for one that was not.
pub record SubscriberTotal : Type 0 where
  pub read : Bool
  pub bytes : ℕ

unfoldable pub told_total : Ledger → ℕ → SubscriberTotal
told_total l s =
    cond (seen_of l s) (record { read = true; bytes = total_of l s }) (record { read = false; bytes = 0 })

-- The bytes of one that was read.
abbrev pub if_read : SubscriberTotal → Option ℕ
if_read total = cond total.read (Some total.bytes) None
