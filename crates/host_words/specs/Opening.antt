-- What is promised of opening a pair in 67 words, and in any other number of them. Assumes nothing.
use Rattle.std.specs.Prelude.{ℕ, ◌≡◌, ◌≢◌, List, length, Result, Ok, Err}
use Rattle.host.specs.declared.Opened.{Opened}
use Rattle.refusal.specs.declared.Reason.{Reason}
use Rattle.refusal.specs.Reason.{number}
use Rattle.host.specs.declared.Pair.{Pair}
use Rattle.host.specs.Host.{fresh, opened_of}
use Rattle.host_words.specs.Words.{word_count, other_length, pair_of}

-- What an opening or a reading comes to. Where it is refused, both IDs of the pair are 0.
abbrev pub opening : Result Pair Reason → Opened
opening (Ok p) = record { pair = p; refusal = record { number = 0; place = 0 } }
opening (Err reason) = record { pair = fresh 0 0; refusal = record { number = number reason; place = 0 } }

-- What an opening hands back is in 67 words, and its refusal, 0 for none, is the answer.
abbrev pub HoldsOpened : List ℕ → Opened → List ℕ → ℕ → Type 0
HoldsOpened w opened left r =
    (length w ≡ word_count → (pair_of left ≡ opened.pair) × (r ≡ opened.refusal.number))
    × (length w ≢ word_count → (left ≡ w) × (r ≡ other_length))

-- Opening in 67 words.
abbrev pub Opens : List ℕ → ℕ → ℕ → List ℕ → ℕ → Type 0
Opens w own peer left r = HoldsOpened w (opened_of own peer) left r
