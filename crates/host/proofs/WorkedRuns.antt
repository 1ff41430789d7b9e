-- Runs worked by computation: what an answer acknowledges at the edges, and the bytes of one acknowledgement.
-- Assumes nothing.
use mathlib.Core.Path.{◌≡◌, refl}
use mathlib.Core.List.{List, [], ◌∷◌}
use Prim.Native.Nat.{ℕ, ◌-◌, ◌^◌}
use Rattle.std.specs.Prelude.{Some}
use Rattle.seq.specs.Ring.{distance, advance}
use Rattle.bitmap.specs.Marks.{mark, with_mark, leading, trailing_ones}
use Rattle.octets.specs.Octets.{little}
use Rattle.wire.specs.Format.{Message}
use Rattle.wire.specs.Writing.{frame_head, ack_frame}
use Rattle.host.specs.declared.Pair.{Pair}
use Rattle.host.specs.declared.Answer.TheVariants.{Again}
use Rattle.host.specs.Host.{
  fresh,
  settled,
  run_from,
  after_frame,
  transactions_of,
  by_number,
  acknowledgement_from,
}

-- A pair with this next number and these marks.
abbrev at : ℕ → ℕ → Pair
at next marks = record {
  own = 1;
  peer = 2;
  next = record { 0 = next };
  marks = marks;
  lowest = record { 0 = 0 };
  closed = 0;
  table = (fresh 1 2).table;
}

-- It after a frame with this number took effect.
abbrev taken : ℕ → ℕ → ℕ → Pair
taken next marks num = after_frame (at next marks) num (transactions_of (at next marks))

-- Numbers never sent are behind a fresh host too; 300 behind are cut at 255; a run goes over the end of the number
-- space.
pub behind : (run_from (fresh 1 2) 65500 ≡ 36) × (run_from (fresh 1 2) 65535 ≡ 1)
    × (run_from (at 300 0) 0 ≡ 255) × (run_from (at 300 0) 45 ≡ 255) × (run_from (at 300 0) 46 ≡ 254)
    × (run_from (at 3 0) 65530 ≡ 9)
unfolding fresh run_from settled distance advance leading mark
behind = (refl, refl, refl, refl, refl, refl)

-- Frame 0 was accepted, and frames 2 and 3 ahead of 1. Frame 1 fills the hole and joins both sides: its own run is 1, 2
-- and 3, and frame 0's grows from 1 to 4. A frame ahead of a hole has a run of its own number alone.
pub holes : (run_from (at 1 6) 0 ≡ 1) × (run_from (at 1 6) 2 ≡ 2) × (run_from (taken 1 6 1) 1 ≡ 3)
    × (run_from (taken 1 6 1) 0 ≡ 4) × (run_from (taken 0 0 5) 5 ≡ 1) × (run_from (taken 0 96 4) 4 ≡ 3)
unfolding fresh after_frame run_from settled distance advance leading trailing_ones mark with_mark
holes = (refl, refl, refl, refl, refl, refl)

-- A run ends with the window, also in a pair that no run of the host reaches, with all 64 marks set: what follows the
-- window is ahead. From a number behind it has those up to the next one and the 64, at most 255.
pub all_set : (run_from (at 65530 (2 ^ 64 - 2)) 65531 ≡ 63) × (run_from (at 0 (2 ^ 64 - 1)) 0 ≡ 64)
    × (run_from (at 0 (2 ^ 64 - 1)) 63 ≡ 1) × (run_from (at 10 (2 ^ 64 - 1)) 5 ≡ 69)
    × (run_from (at 300 (2 ^ 64 - 1)) 110 ≡ 254) × (run_from (at 300 (2 ^ 64 - 1)) 100 ≡ 255)
    × (run_from (taken 7 (2 ^ 64 - 1) 7) 7 ≡ 64)
unfolding fresh after_frame run_from settled distance advance leading trailing_ones mark with_mark
all_set = (refl, refl, refl, refl, refl, refl, refl)

-- Whatever frame 65,500 brings to a fresh host: the answer, and the bytes of its acknowledgement.
pub again-answer : (memory : List ℕ) (ms : List Message)
    → (by_number (fresh 1 2) memory 65500 ms).answer ≡ Again (record { 0 = 65500 }) 36
unfolding fresh by_number run_from settled distance advance leading mark
again-answer memory ms = refl

pub again-bytes : acknowledgement_from 1 2 (Again (record { 0 = 65500 }) 36) 0
    ≡ Some (2 ∷ 0 ∷ 1 ∷ 0 ∷ 0 ∷ 0 ∷ 220 ∷ 255 ∷ 36 ∷ 0 ∷ [])
unfolding acknowledgement_from ack_frame frame_head little
again-bytes = refl
