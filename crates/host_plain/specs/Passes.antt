-- What going through a frame's messages once, and taking a frame in, come to. Nothing of this needs to be believed:
-- host_plain::receive promises receive_of of Plain.antt.
use Rattle.std.specs.Prelude.{◌≡◌, ℕ, Bool, cond, List, length, Result, Ok, Err, OnErr}
use Rattle.std.proofs.Math.Option.{some}
use Rattle.wire.specs.Format.{Message}
use Rattle.wire.specs.Reading.{messages_from}
use Rattle.host.specs.declared.Refusal.{Refusal}
use Rattle.host_plain.specs.declared.PlainTransactions.{PlainTransactions}
use Rattle.host_plain.specs.declared.PlainPair.{PlainPair}
use Rattle.host_plain.specs.declared.PlainStepped.{PlainStepped}
use Rattle.host_plain.specs.declared.Outcome.{Outcome}
use Rattle.host_plain.specs.Plain.{Taken, all_taken, refused_at, take_all, no_sums, concluded, stepped_of}

-- What going through messages came to, as the definition says it, with the memory that they leave where all are written.
abbrev pub ended : Result Outcome Refusal → List ℕ → Taken
ended (Ok r) memory = all_taken (record { transactions = r.transactions; memory = memory; sums = r.sums })
ended (Err r) memory = refused_at r.number r.place

-- Going through the messages of a readable frame: the outcome is the definition's, and memory is as that leaves it, or
-- untouched where nothing is to be written.
pub record TakesAll (t : PlainTransactions) (f memory : List ℕ) (writing : Bool) (r : Result Outcome Refusal)
    (left : List ℕ) : Type 0 where
  pub stored : List ℕ
  pub outcome-is : (ms : List Message) → messages_from (length f) f 10 ≡ some ms
      → take_all (record { transactions = t; memory = memory; sums = no_sums }) ms ≡ ended r stored
  pub memory-is : left ≡ cond writing stored memory

-- The same where either all messages of a readable frame are written, or none.
pub record TakesAllOrNone (t : PlainTransactions) (f memory : List ℕ) (r : Result Outcome Refusal)
    (left : List ℕ) : Type 0 where
  pub outcome-is : (ms : List Message) → messages_from (length f) f 10 ≡ some ms
      → (take_all (record { transactions = t; memory = memory; sums = no_sums }) ms ≡ ended r left)
      × OnErr r (left ≡ memory)

-- Taking in a readable frame, in the window and not accepted.
abbrev pub TakesFrame : PlainPair → List ℕ → List ℕ → ℕ → PlainStepped → List ℕ → Type 0
TakesFrame p f memory num r left =
    (ms : List Message) → messages_from (length f) f 10 ≡ some ms
    → (r ≡ stepped_of (concluded p memory num
    (take_all (record { transactions = p.transactions; memory = memory; sums = no_sums }) ms)))
    × (left ≡ (concluded p memory num
    (take_all (record { transactions = p.transactions; memory = memory; sums = no_sums }) ms)).memory)
