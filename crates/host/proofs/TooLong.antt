-- A frame of more than 9,000 bytes is refused whatever its bytes are, so that a caller need not keep them.
-- Assumes nothing.
use mathlib.Core.Path.{◌≡◌, sym, ap}
use mathlib.Core.List.{List}
use Prim.Native.Nat.{ℕ, ◌<◌}
use native.Mathlib.Omega.{arith}
use lib.ListN.{length}
use Rattle.wire.specs.Reading.{refusal_of, addressed}
use Rattle.wire.proofs.Reading.{read-long}
use Rattle.host.specs.declared.Pair.{Pair}
use Rattle.host.specs.Host.{unchanged, refused, receive_of}
use Rattle.host.proofs.Receiving.{received-refused}

pub too_long : (p : Pair) (f memory : List ℕ) → 9000 < length f
    → receive_of p f memory ≡ unchanged p memory (refused 2 0)
too_long p f memory h =
    let e = read-long (addressed p.own p.peer f) f h in
    received-refused p f memory 2 (sym (ap refusal_of e)) (λ z. omega (arith, z))
