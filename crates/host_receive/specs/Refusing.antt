-- What a frame is answered that is not taken in. Nothing of this needs to be believed:
-- host_receive/proofs/Awaiting.antt shows that it is what receive_of of host/specs/Host.antt answers.
use Rattle.std.specs.Prelude.{ℕ, cond, List, ◌==◌, nat_le, nat_lt}
use Rattle.wire.specs.Reading.{addressed, read_frame, refusal_of}
use Rattle.host.specs.declared.Answer.{Answer}
use Rattle.host.specs.declared.Answer.TheVariants.{Again}
use Rattle.host.specs.Host.{refused}
use Rattle.host_receive.specs.Counting.{run_at}

-- The refusal of a frame's layout, past a refused message too; 0 for none.
abbrev pub layout_refusal : ℕ → ℕ → List ℕ → ℕ
layout_refusal own peer f = refusal_of (read_frame (addressed own peer f) f)

-- A refusal of a message, where the layout of those that follow it is not known yet: 5 comes first.
unfoldable pub refused_with : ℕ → ℕ → List ℕ → ℕ → ℕ → Answer
refused_with own peer f stop place =
    let cut = layout_refusal own peer f in
    cond (cut == 0) (refused stop place) (refused cut 0)

-- A frame that is not taken in, by how far it lies past the next one: behind from 32,768 on, in the window up to 63 and
-- ahead between. Its layout comes first.
unfoldable pub number_answered : ℕ → ℕ → List ℕ → ℕ → ℕ → ℕ → Answer
number_answered own peer f num marks d =
    let cut = layout_refusal own peer f in
    let again = Again (record { 0 = num }) (run_at marks d) in
    cond (cut == 0) (cond (nat_le 32768 d) again (cond (nat_lt d 64) again (refused 6 0))) (refused cut 0)
